use Rattle.std.proofs.Common.{◌≡◌, ℕ, ◌+◌, ◌*◌, ◌<◌, ◌≤◌, List, [], ◌∷◌, ◌++◌, map, length, length-append, ap, sym, ◌∙◌, subst, arith, rules}
use Rattle.std.proofs.lemmas.Iterator.Adapters.{YieldsList-from_vec}
use Rattle.std.proofs.lemmas.Iterator.Consumers.{YieldsList-turn, YieldsList-end}
use Rattle.hybrid_time.specs.Times.{of_moment}
use Rattle.answer_lines.specs.declared.answers.Answer.{Answer}
use Rattle.request_lines.specs.declared.requests.Request.{Request}
use Rattle.legal_output.specs.Printed.{write_behind}
use Rattle.phase_run.specs.Callers.{MayAsk, answered}
use Rattle.phase_run.proofs.Progress.{Progress, progress_none, progress_more, asked_part, asked_whole, number_of, number_in}
use Rattle.phase_run.proofs.callers.serve_all.Goals as goal

pub loop-request-init : goal.loop-request-init
loop-request-init g c = record { progress = progress_none c.args.front.now.collection (of_moment (g.M.Moments.least c.args.call.now.moments.now)) c.args.front.now.table.first c.args.mine.now.0 c.args.seat.now c.args.requests.items c.args.answers.now.items c.requires.none c.requires.mine }

pub serve_next-requires-clause-may : goal.serve_next-requires-clause-may
serve_next-requires-clause-may g c =
    let t = YieldsList-turn (YieldsList-from_vec {s = c.into_iter-request-iterator.result} c.args.requests.items (cc) (search rules)) c.loop-request.yielded c.loop-request.request-iterator c.loop-request.yielded_by c.next.result c.next.new.self c.in-Some.request c.in-Some.is c.next.ensures.steps in
    subst (λ (request : ℕ × Request). MayAsk c.args.front.now.collection request.1.what) (sym t.1) (c.requires.may (length c.loop-request.yielded) c.in-Some.request t.0)

pub serve_next-requires-clause-mine : goal.serve_next-requires-clause-mine
serve_next-requires-clause-mine g c = c.loop-request.invariant.progress.known

pub serve_next-requires-clause-seat : goal.serve_next-requires-clause-seat
serve_next-requires-clause-seat g c =
    let t = YieldsList-turn (YieldsList-from_vec {s = c.into_iter-request-iterator.result} c.args.requests.items (cc) (search rules)) c.loop-request.yielded c.loop-request.request-iterator c.loop-request.yielded_by c.next.result c.next.new.self c.in-Some.request c.in-Some.is c.next.ensures.steps in
    let low : length c.loop-request.yielded < length c.args.requests.items = t.0 in
    let left : c.args.seat.now.allowance ≤ c.loop-request.seat.allowance + length c.loop-request.yielded * 20 = c.loop-request.invariant.progress.spends.allowance in
    let enough : length c.args.requests.items * 20 + 20 ≤ c.args.seat.now.allowance = c.requires.seat.enough in
    record {
      same = c.loop-request.invariant.progress.spends.table ∙ c.requires.seat.same;
      rest = c.loop-request.invariant.progress.spends.turns ∙ c.requires.seat.rest;
      enough = omega arith;
    }

pub loop-request-preserved : goal.loop-request-preserved
loop-request-preserved g c =
    let t = YieldsList-turn (YieldsList-from_vec {s = c.into_iter-request-iterator.result} c.args.requests.items (cc) (search rules)) c.loop-request.yielded c.loop-request.request-iterator c.loop-request.yielded_by c.next.result c.next.new.self c.in-Some.request c.in-Some.is c.next.ensures.steps in
    let d = c.in_ok-serve_next.ensures.served in
    let more : length (c.loop-request.yielded ++ c.in-Some.request ∷ []) ≡ length c.loop-request.yielded + 1 = length-append c.loop-request.yielded (c.in-Some.request ∷ []) in
    record {
      progress = subst (λ (n : ℕ). Progress c.args.front.now.collection (of_moment (g.M.Moments.least c.args.call.now.moments.now)) c.args.front.now.table.first c.args.mine.now.0 c.args.seat.now c.args.requests.items n c.serve_next.new.seat c.serve_next.new.mine.0 c.serve_next.new.answers.items) (sym more)
          (progress_more c.args.front.now.collection (of_moment (g.M.Moments.least c.args.call.now.moments.now)) c.args.front.now.table.first c.args.mine.now.0 c.args.seat.now c.args.requests.items (length c.loop-request.yielded) c.loop-request.seat c.serve_next.new.seat c.loop-request.mine.0 c.serve_next.new.mine.0
          c.loop-request.answers.items c.serve_next.new.answers.items c.in-Some.request d.0 c.loop-request.invariant.progress t.0 t.1 d.1 d.2 d.3 d.4 c.serve_next.ensures.spends);
    }

pub returns : goal.returns
returns g c =
    let e = YieldsList-end (YieldsList-from_vec {s = c.into_iter-request-iterator.result} c.args.requests.items (cc) (search rules)) c.loop-request.yielded c.loop-request.request-iterator c.loop-request.yielded_by c.next.result c.next.new.self c.in-None.is c.next.ensures.steps in
    record {
      asked = asked_whole c.args.front.now.collection (of_moment (g.M.Moments.least c.args.call.now.moments.now)) c.args.front.now.table.first c.args.mine.now.0 c.args.seat.now c.args.requests.items (length c.loop-request.yielded) c.loop-request.seat c.loop-request.mine.0 c.loop-request.answers.items c.loop-request.invariant.progress e.1;
      mine = c.loop-request.invariant.progress.mine_is;
      numbers = c.loop-request.invariant.progress.numbers;
    }

pub returns-in_err-serve_next : goal.returns-in_err-serve_next
returns-in_err-serve_next g c =
    let d = c.in_err-serve_next.ensures.err in
    let p = c.loop-request.invariant.progress in
    record {
      asked = asked_part c.args.front.now.collection (of_moment (g.M.Moments.least c.args.call.now.moments.now)) c.args.front.now.table.first c.args.mine.now.0 c.args.seat.now c.args.requests.items (length c.loop-request.yielded) c.loop-request.seat c.serve_next.new.seat c.loop-request.mine.0 c.loop-request.answers.items c.serve_next.new.answers.items c.from_residual.result p d.0 d.2 c.from_residual.ensures.0;
      mine = ap (λ m. m.0) d.1 ∙ p.mine_is ∙ sym (ap (λ (l : List (ℕ × Answer)). write_behind c.args.mine.now.0 (answered c.args.requests.items l)) d.0);
      numbers = ap (map number_of) d.0 ∙ p.numbers ∙ sym (ap (λ (l : List (ℕ × Answer)). map number_in (answered c.args.requests.items l)) d.0);
    }
