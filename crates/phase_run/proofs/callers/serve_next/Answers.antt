use Rattle.std.proofs.Common.{◌≡◌, ℕ, List, [], ◌∷◌, ◌++◌, refl, ap, ◌∙◌, subst, sym}
use Rattle.seat_walks.specs.Walks.{Step, Lift}
use Rattle.hybrid_time.specs.Times.{of_moment}
use Rattle.answer_lines.specs.declared.answers.Answer.{Answer}
use Rattle.phase_run.proofs.Serving.{on_err, moments_rise}
use Rattle.phase_run.specs.Callers.{IsKnown}
use Rattle.phase_run.proofs.callers.serve_next.Goals as goal

pub returns-clause-served : goal.returns-clause-served
returns-clause-served g c =
    let d = c.in_ok-answer.ensures.did in (
      c.in_ok-answer.answer,
      c.push_reserved.ensures.items ∙ ap (λ (l : List (ℕ × Answer)). l ++ (c.args.request.0, c.in_ok-answer.answer) ∷ []) c.reserve.ensures.items,
      record {
        request = c.args.request.1;
        moment = of_moment d.0;
        steps = d.1;
        asked = refl;
        later = moments_rise (g.M.Moments.least c.args.call.now.moments.now) d.0 d.2;
        did = d.3;
        call = d.4;
      },
      c.last_write.ensures,
      subst (λ (n : ℕ). IsKnown c.args.front.now.table.first n c.serve_request.new.seat) (sym c.last_write.ensures) c.in_ok-answer.ensures.known,
    )

pub returns-in_err-answer-clause-err : goal.returns-in_err-answer-clause-err
returns-in_err-answer-clause-err g c =
    let d = c.serve_request.ensures.did in
    on_err c.from_residual-in_err-answer.result (c.reserve.ensures.items, refl, (Lift (of_moment d.0) ∷ d.1, d.3))
