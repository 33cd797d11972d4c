use Rattle.std.proofs.Common.{[], ◌∷◌}
use Rattle.answer_lines.specs.declared.answers.Answer.{Answer}
use Rattle.seat_walks.specs.Walks.{Took}
use Rattle.call_model.specs.Calls.{IsCall}
use Rattle.phase_run.proofs.Serving.{if_err, wrote_once}
use Rattle.phase_run.proofs.requests.do_ask.Goals as goal

pub returns-in_err-write-in-Write-clause-did : goal.returns-in_err-write-in-Write-clause-did
returns-in_err-write-in-Write-clause-did g c =
    let d = c.write.ensures.did in
    (Took d.0 ∷ [], d.1, if_err c.from_residual.result (λ (answer : Answer). IsCall c.args.front.now.collection c.args.seat.now.number c.args.call.now.line c.args.mine.0 c.args.what answer (Took d.0 ∷ [])) c.from_residual.ensures.0)

pub returns-in_ok-write-in-Write-clause-did : goal.returns-in_ok-write-in-Write-clause-did
returns-in_ok-write-in-Write-clause-did g c =
    let d = c.in_ok-write-in-Write.ensures.did in
    (Took d.0 ∷ [], d.1, wrote_once c.args.front.now.collection c.args.seat.now.number c.args.call.now.line c.args.mine.0 c.args.what c.in-Write.write c.in_ok-write-in-Write.field-0 d.0 c.in-Write.is d.2 d.3)
