use Rattle.std.proofs.Common.{[], length}
use Rattle.binlog_format.specs.Reading.{items}
use Rattle.binlog_format.specs.Lists.{list_at, after_list}
use Rattle.binlog_format.proofs.ListReading.{ListsSoFar}
use Rattle.binlog_format.proofs.lists.each_list.Given as goal

abbrev pub invariant-loop-count : goal.invariant-loop-count
invariant-loop-count l = ListsSoFar (length l.fn.seen) l.lengths l.seen l.found.items l.count-index l.reader (items (list_at (length l.fn.seen)) after_list (length l.lengths) (record { before = []; lengths = l.lengths }) l.fn.reader)
