use Rattle.std.proofs.Common.{◌-◌}
use Rattle.binlog_format.specs.Reading.{items}
use Rattle.binlog_format.specs.Inserts.{int_at}
use Rattle.binlog_format.proofs.ReadLoop.{Continues}
use Rattle.binlog_format.proofs.inserts.columns.each_int.Given as goal

abbrev pub invariant-loop : goal.invariant-loop
invariant-loop l = Continues (λ (state : Unit {0}). int_at) (λ state x. state) l.found.items (l.count - l.counter) tt l.reader (items (λ (state : Unit {0}). int_at) (λ state x. state) l.fn.count tt l.fn.reader)
