use Rattle.std.proofs.Common.{◌≡◌, map, take}
use Rattle.log_model.specs.Places.{IsColumn, width_of, vector_of}
use Rattle.seg_sealed.specs.Segments.{key_of}
use Rattle.seg_sealed.proofs.columns.heads_of.Given as goal

abbrev pub invariant-rows : goal.invariant-rows
invariant-rows g l = (l.keys.items ≡ map key_of (take l.i (g.T.TailRows.rows l.from))) × IsColumn (width_of l.dim) (map vector_of (take l.i (g.T.TailRows.rows l.from))) l.words.items
