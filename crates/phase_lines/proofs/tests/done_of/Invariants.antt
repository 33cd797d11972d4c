use Rattle.std.proofs.Common.{◌≡◌, ℕ, map, take}
use Rattle.std.specs.List.{AllByRecursion as Each}
use Rattle.answer_lines.specs.declared.answers.Answer.{Answer}
use Rattle.request_lines.specs.declared.requests.Request.{Request}
use Rattle.phase_lines.proofs.Testing.{IsQuiet}
use Rattle.phase_lines.proofs.tests.done_of.Given as goal

abbrev pub invariant-loop-request : goal.invariant-loop-request
invariant-loop-request l = record {
  numbers : map (λ (answer : ℕ × Answer). answer.0) l.answers.items ≡ map (λ (request : ℕ × Request). request.0) (take l.request-index l.request-items);
  quiet : Each IsQuiet l.answers.items;
}
