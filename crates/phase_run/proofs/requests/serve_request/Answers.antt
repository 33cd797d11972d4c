use Rattle.std.proofs.Common.{◌≡◌, ℕ, List, [], ◌∷◌, sym, subst}
use Rattle.hybrid_time.specs.Times.{of_moment}
use Rattle.answer_lines.specs.declared.answers.Answer.{Answer}
use Rattle.seat_walks.specs.Walks.{Step, Lift}
use Rattle.seat_walks.proofs.Walking.{walks_append}
use Rattle.call_model.specs.Turns.{by_of, time_of}
use Rattle.call_model.specs.Calls.{IsCall}
use Rattle.phase_run.proofs.Serving.{if_err, known_after, keeps}
use Rattle.phase_run.proofs.requests.serve_request.Goals as goal

pub returns-clause-did : goal.returns-clause-did
returns-clause-did g c =
    let m = c.start.ensures.did in
    let d = c.in_ok-answer.ensures.did in (
      m.0,
      d.0,
      m.1,
      walks_append by_of time_of c.args.seat.now c.start.new.seat c.do_ask.new.seat (Lift (of_moment m.0) ∷ []) d.0 m.2 d.1,
      subst (λ (n : ℕ). IsCall c.args.front.now.collection n c.args.call.now.line c.args.mine.0 c.args.what c.in_ok-answer.answer d.0) c.start.ensures.spends.number d.2,
    )

pub returns-clause-known : goal.returns-clause-known
returns-clause-known g c =
    let d = c.in_ok-answer.ensures.did in
    known_after c.args.front.now.collection c.args.front.now.table.first c.args.call.now.line c.args.mine.0 c.start.new.seat c.do_ask.new.seat
    (keeps c.args.front.now.collection c.args.front.now.table.first c.args.call.now.line c.args.mine.0 c.args.seat.now c.start.new.seat c.requires.mine (Lift (of_moment c.start.ensures.did.0) ∷ []) c.start.ensures.did.2) c.args.what c.in_ok-answer.answer d.0 d.1 d.2

pub do_ask-requires-clause-mine : goal.do_ask-requires-clause-mine
do_ask-requires-clause-mine g c =
    keeps c.args.front.now.collection c.args.front.now.table.first c.args.call.now.line c.args.mine.0 c.args.seat.now c.start.new.seat c.requires.mine (Lift (of_moment c.start.ensures.did.0) ∷ []) c.start.ensures.did.2

pub returns-in_err-answer-clause-did : goal.returns-in_err-answer-clause-did
returns-in_err-answer-clause-did g c =
    let m = c.start.ensures.did in
    let d = c.do_ask.ensures.did in (
      m.0,
      d.0,
      m.1,
      walks_append by_of time_of c.args.seat.now c.start.new.seat c.do_ask.new.seat (Lift (of_moment m.0) ∷ []) d.0 m.2 d.1,
      if_err c.from_residual.result (λ (answer : Answer). IsCall c.args.front.now.collection c.args.seat.now.number c.args.call.now.line c.args.mine.0 c.args.what answer d.0) c.from_residual.ensures.0,
    )
