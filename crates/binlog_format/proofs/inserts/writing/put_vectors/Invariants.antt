use Rattle.std.proofs.Common.{◌≡◌, ◌++◌, take}
use Rattle.std.specs.List.{flat_map}
use Rattle.row_types.specs.Bits.{bytes_of}
use Rattle.binlog_format.proofs.inserts.writing.put_vectors.Given as goal

abbrev pub invariant-loop-item : goal.invariant-loop-item
invariant-loop-item l = l.out.items ≡ l.fn.out.items ++ flat_map bytes_of (take l.item-index l.vectors)
