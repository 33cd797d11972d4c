use Rattle.std.proofs.Common.{◌≡◌, ◌++◌, take, w32}
use Rattle.std.specs.List.{flat_map}
use Rattle.std.specs.Int.{to_le_bytes}
use Rattle.binlog_format.proofs.lists.put_rows.Given as goal

abbrev pub invariant-loop-item : goal.invariant-loop-item
invariant-loop-item l = l.out.items ≡ l.fn.out.items ++ flat_map (to_le_bytes w32) (take l.item-index l.rows)
