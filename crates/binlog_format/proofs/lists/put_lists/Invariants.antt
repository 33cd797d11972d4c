use Rattle.std.proofs.Common.{◌≡◌, ◌++◌, take}
use Rattle.std.specs.List.{flat_map}
use Rattle.binlog_format.specs.Lists.{list_bytes}
use Rattle.binlog_format.proofs.lists.put_lists.Given as goal

abbrev pub invariant-loop-item : goal.invariant-loop-item
invariant-loop-item l = l.out.items ≡ l.fn.out.items ++ flat_map list_bytes (take l.item-index l.lists)
