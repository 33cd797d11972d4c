use Rattle.std.proofs.Common.{◌≡◌, ◌-◌, ◌+◌}
use Rattle.std.specs.Prelude.{sum}
use Rattle.binlog_format.specs.Reading.{items}
use Rattle.binlog_format.specs.Lists.{length_at, left_after}
use Rattle.binlog_format.proofs.ReadLoop.{Continues}
use Rattle.binlog_format.proofs.lists.each_length.Given as goal

abbrev pub invariant-loop : goal.invariant-loop
invariant-loop l = record {
  gives : Continues length_at left_after l.found.items (l.count - l.counter) l.left l.reader (items length_at left_after l.fn.count l.fn.rows l.fn.reader);
  left : sum l.found.items + l.left ≡ l.fn.rows;
}
