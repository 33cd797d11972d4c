use Rattle.std.proofs.Common.{◌≡◌, map, take}
use Rattle.log_model.specs.Places.{Placed}
use Rattle.seg_sealed.specs.Segments.{field_at, text_of}
use Rattle.seg_sealed.proofs.columns.texts_at.Given as goal

abbrev pub invariant-rows : goal.invariant-rows
invariant-rows g l = l.texts.items ≡ map (λ (x : Placed). text_of (field_at l.at x.row.fields)) (take l.i (g.T.TailRows.rows l.from))
