use Rattle.std.proofs.Common.{◌≡◌, ◌++◌, take}
use Rattle.std.specs.List.{flat_map, AllByRecursion}
use Rattle.binlog_format.specs.Inserts.{column_bytes, ColumnFits}
use Rattle.binlog_format.proofs.inserts.writing.put_columns.Given as goal

abbrev pub invariant-loop-item : goal.invariant-loop-item
invariant-loop-item l = record {
  bytes : l.out.items ≡ l.fn.out.items ++ flat_map column_bytes (take l.item-index l.columns);
  fit : AllByRecursion ColumnFits (take l.item-index l.columns);
}
