use Rattle.std.proofs.Common.{◌≡◌, map, take}
use Rattle.log_model.specs.Places.{Placed}
use Rattle.seg_sealed.specs.Segments.{field_at, bool_of}
use Rattle.seg_sealed.proofs.columns.bools_at.Given as goal

abbrev pub invariant-rows : goal.invariant-rows
invariant-rows g l = l.bools.items ≡ map (λ (x : Placed). bool_of (field_at l.at x.row.fields)) (take l.i (g.T.TailRows.rows l.from))
