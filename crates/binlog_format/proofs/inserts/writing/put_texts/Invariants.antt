use Rattle.std.proofs.Common.{◌≡◌, ◌++◌, take}
use Rattle.std.specs.List.{flat_map, AllByRecursion}
use Rattle.binlog_format.specs.Inserts.{text_bytes, IsText}
use Rattle.binlog_format.proofs.inserts.writing.put_texts.Given as goal

abbrev pub invariant-loop-item : goal.invariant-loop-item
invariant-loop-item l = record {
  bytes : l.out.items ≡ l.fn.out.items ++ flat_map text_bytes (take l.item-index l.texts);
  fit : AllByRecursion IsText (take l.item-index l.texts);
}
