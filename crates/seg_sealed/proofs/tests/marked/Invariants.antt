use Rattle.std.proofs.Common.{◌≤◌, ◌+◌}
use Rattle.seg_sealed.proofs.tests.marked.Given as goal

abbrev pub invariant-loop-i : goal.invariant-loop-i
invariant-loop-i l = 100 ≤ l.marks.spare + l.i
