use Rattle.std.proofs.Common.{ℕ, map, refl, ap, sym, ◌∙◌}
use Rattle.std.proofs.lemmas.List.{take_all}
use Rattle.request_lines.specs.declared.requests.Request.{Request}
use Rattle.phase_lines.proofs.Testing.{quiet_behind, numbers_are}
use Rattle.phase_lines.proofs.tests.done_of.Goals as goal

pub returns-clause-done : goal.returns-clause-done
returns-clause-done c =
    let requests = c.args.work.now.requests.items in
    let read = c.as_slice-request-items.result.now in
    let answers = c.loop-request.answers.items in
    record {
      caller_is = refl;
      mine_is = sym (quiet_behind c.args.work.now.mine.0 requests answers c.loop-request.invariant.quiet);
      numbers = numbers_are requests answers
          (c.loop-request.invariant.numbers
          ∙ ap (map (λ (request : ℕ × Request). request.0)) (take_all c.loop-request.request-index read c.loop-request-test.false ∙ c.as_slice-request-items.ensures.value));
    }
