use Rattle.std.proofs.Common.{◌-◌}
use Rattle.binlog_format.specs.Reading.{items}
use Rattle.binlog_format.specs.Deletes.{after_mark, mark_at}
use Rattle.binlog_format.proofs.ReadLoop.{Continues}
use Rattle.binlog_format.proofs.deletes.each_mark.Given as goal

abbrev pub invariant-loop : goal.invariant-loop
invariant-loop l = Continues mark_at after_mark l.marks.items (l.count - l.counter) l.least l.reader (items mark_at after_mark l.fn.count 0 l.fn.reader)
