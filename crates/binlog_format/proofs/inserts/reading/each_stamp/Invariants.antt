use Rattle.std.proofs.Common.{◌-◌}
use Rattle.binlog_format.specs.Reading.{items}
use Rattle.binlog_format.specs.Inserts.{stamp_at, after_stamp}
use Rattle.binlog_format.proofs.ReadLoop.{Continues}
use Rattle.binlog_format.proofs.inserts.reading.each_stamp.Given as goal

abbrev pub invariant-loop : goal.invariant-loop
invariant-loop l = Continues stamp_at after_stamp l.found.items (l.count - l.counter) l.least l.reader (items stamp_at after_stamp l.fn.count 0 l.fn.reader)
