use Rattle.std.proofs.Common.{◌≡◌, ◌++◌, map, drop}
use Rattle.seg_sealed.specs.Marks.{death_of}
use Rattle.seg_merge.specs.KeptRows.{kept_from}
use Rattle.seg_merge.proofs.KeptLaws.{AreLeft}
use Rattle.seg_merge.proofs.leaving.add_rows.Given as goal

abbrev pub invariant-rows : goal.invariant-rows
invariant-rows l = record {
  same : l.kept.items ++ kept_from l.place l.floor.0 (map death_of l.marks) l.i (drop l.i l.positions) ≡ l.fn.kept.items ++ kept_from l.place l.floor.0 (map death_of l.marks) 0 l.positions;
  left : AreLeft l.marks l.rest l.i;
}
