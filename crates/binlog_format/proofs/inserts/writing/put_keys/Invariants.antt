use Rattle.std.proofs.Common.{◌≡◌, ◌++◌, take, w64}
use Rattle.std.specs.List.{flat_map, AllByRecursion}
use Rattle.std.specs.Prelude.{FitsSigned}
use Rattle.binlog_format.specs.Inserts.{key_bytes}
use Rattle.binlog_format.proofs.inserts.writing.put_keys.Given as goal

abbrev pub invariant-loop-item : goal.invariant-loop-item
invariant-loop-item l = record {
  bytes : l.out.items ≡ l.fn.out.items ++ flat_map key_bytes (take l.item-index l.keys);
  fit : AllByRecursion (λ key. FitsSigned w64 key.0) (take l.item-index l.keys);
}
