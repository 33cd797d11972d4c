use Rattle.std.proofs.Common.{◌≡◌, ◌++◌, ◌<◌, ◌^◌, take}
use Rattle.std.specs.List.{flat_map, AllByRecursion}
use Rattle.binlog_format.specs.Deletes.{mark_bytes}
use Rattle.binlog_format.proofs.deletes.put_marks.Given as goal

abbrev pub invariant-loop-mark : goal.invariant-loop-mark
invariant-loop-mark l = record {
  bytes : l.out.items ≡ l.fn.out.items ++ flat_map mark_bytes (take l.mark-index l.marks);
  fit : AllByRecursion (λ mark. mark.1.0 < 2 ^ 64) (take l.mark-index l.marks);
}
