use Rattle.std.proofs.Common.{◌≡◌, ◌++◌, ◌<◌, ◌^◌, take, w64}
use Rattle.std.specs.List.{flat_map, AllByRecursion}
use Rattle.std.specs.Int.{to_le_bytes}
use Rattle.binlog_format.proofs.inserts.writing.put_positions.Given as goal

abbrev pub invariant-loop-item : goal.invariant-loop-item
invariant-loop-item l = record {
  bytes : l.out.items ≡ l.fn.out.items ++ flat_map (to_le_bytes w64) (take l.item-index l.positions);
  fit : AllByRecursion (λ position. position < 2 ^ 64) (take l.item-index l.positions);
}
