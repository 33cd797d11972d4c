use Rattle.std.proofs.Common.{◌≡◌, ◌++◌, take, w64}
use Rattle.std.specs.List.{flat_map, AllByRecursion}
use Rattle.std.specs.Prelude.{FitsSigned}
use Rattle.binlog_format.specs.Inserts.{int_bytes}
use Rattle.binlog_format.proofs.inserts.writing.put_ints.Given as goal

abbrev pub invariant-loop-item : goal.invariant-loop-item
invariant-loop-item l = record {
  bytes : l.out.items ≡ l.fn.out.items ++ flat_map int_bytes (take l.item-index l.ints);
  fit : AllByRecursion (FitsSigned w64) (take l.item-index l.ints);
}
