use Rattle.std.proofs.Common.{◌≡◌, length}
use Rattle.phase_lines.specs.Steps.{StandAt}
use Rattle.phase_lines.proofs.texts.answers_of.Given as goal

abbrev pub invariant-loop-did : goal.invariant-loop-did
invariant-loop-did l = record {
  many : length l.answers.items ≡ 16;
  stand : StandAt l.yielded l.answers.items;
}
