use Rattle.std.proofs.Common.{◌-◌}
use Rattle.binlog_format.specs.Reading.{items}
use Rattle.binlog_format.specs.Inserts.{position_at, after_position}
use Rattle.std.specs.Prelude.{None}
use Rattle.binlog_format.proofs.ReadLoop.{Continues}
use Rattle.binlog_format.proofs.inserts.reading.each_position.Given as goal

abbrev pub invariant-loop : goal.invariant-loop
invariant-loop l = Continues position_at after_position l.found.items (l.count - l.counter) l.before l.reader (items position_at after_position l.fn.count None l.fn.reader)
