use Rattle.std.proofs.Common.{◌≡◌, map, take}
use Rattle.seg_sealed.specs.Segments.{stamp_of}
use Rattle.seg_sealed.proofs.columns.stamps_of.Given as goal

abbrev pub invariant-rows : goal.invariant-rows
invariant-rows g l = l.stamps.items ≡ map stamp_of (take l.i (g.T.TailRows.rows l.from))
