use Rattle.phase_lines.specs.Waiting.{AreHeld}
use Rattle.phase_lines.proofs.tests.held.Given as goal

abbrev pub invariant-loop-read : goal.invariant-loop-read
invariant-loop-read l = AreHeld l.first l.yielded l.lines
