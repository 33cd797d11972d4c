use Rattle.std.proofs.Common.{◌-◌, ◌++◌, ℕ, List, length}
use Rattle.binlog_format.specs.Reading.{items}
use Rattle.binlog_format.specs.Lists.{IsSeen, row_at, after_row}
use Rattle.binlog_format.proofs.ReadLoop.{Continues}
use Rattle.binlog_format.proofs.lists.each_row.Given as goal

abbrev pub invariant-loop : goal.invariant-loop
invariant-loop l = (before : List ℕ) → IsSeen (length l.fn.seen) before l.fn.seen → (IsSeen (length l.fn.seen) (before ++ l.found.items) l.seen)
    × Continues (row_at (length l.fn.seen)) after_row l.found.items (l.count - l.counter) (record { before = before ++ l.found.items; least = l.least }) l.reader (items (row_at (length l.fn.seen)) after_row l.fn.count (record { before = before; least = 0 }) l.fn.reader)
