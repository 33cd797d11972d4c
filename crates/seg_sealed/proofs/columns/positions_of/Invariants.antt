use Rattle.std.proofs.Common.{◌≡◌, map, take}
use Rattle.seg_sealed.specs.Segments.{position_of}
use Rattle.seg_sealed.proofs.columns.positions_of.Given as goal

abbrev pub invariant-rows : goal.invariant-rows
invariant-rows g l = l.positions.items ≡ map position_of (take l.i (g.T.TailRows.rows l.from))
