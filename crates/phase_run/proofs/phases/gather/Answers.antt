use Rattle.std.proofs.Common.{◌≡◌, ◌+◌, ◌<◌, ◌≤◌, List, length, ap, sym, ◌∙◌, subst, arith, rules}
use Rattle.std.proofs.lemmas.Iterator.Adapters.{YieldsList-from_vec}
use Rattle.std.proofs.lemmas.Iterator.Consumers.{YieldsList-turn}
use Rattle.seat_walks.specs.Gathers.{IsBack}
use Rattle.phase_run.specs.declared.jobs.Job.{Job}
use Rattle.phase_run.specs.Phases.{dones_of}
use Rattle.phase_run.proofs.Gathering.{so_none, so_more, dones_few}
use Rattle.phase_run.proofs.phases.gather.Goals as goal

pub loop-job-init : goal.loop-job-init
loop-job-init c = record { so = so_none c.args.seat.now c.args.done.now.items c.requires.none; room = cc }

pub take_in-stop-requires-clause-seat : goal.take_in-stop-requires-clause-seat
take_in-stop-requires-clause-seat c =
    let g = c.loop-job.invariant.so.seat in (g.table ∙ c.requires.seat.same, g.turns ∙ c.requires.seat.rest)

pub take_in-stop-requires-clause-job : goal.take_in-stop-requires-clause-job
take_in-stop-requires-clause-job c =
    let t = YieldsList-turn (YieldsList-from_vec {s = c.into_iter-job-iterator.result} c.args.jobs.items (cc) (search rules)) c.loop-job.yielded c.loop-job.job-iterator c.loop-job.yielded_by c.next.result c.next.new.self c.in-Some.job c.in-Some.is c.next.ensures.steps in
    let back : IsBack c.args.front.now.table (length c.args.seat.now.seen) c.in-Some.job.seat = subst (λ (j : Job). IsBack c.args.front.now.table (length c.args.seat.now.seen) j.seat) (sym t.1) (c.requires.jobs (length c.loop-job.yielded) c.in-Some.job t.0) in
    (back.table, back.turns)

pub take_in-stop-requires-clause-room : goal.take_in-stop-requires-clause-room
take_in-stop-requires-clause-room c =
    let t = YieldsList-turn (YieldsList-from_vec {s = c.into_iter-job-iterator.result} c.args.jobs.items (cc) (search rules)) c.loop-job.yielded c.loop-job.job-iterator c.loop-job.yielded_by c.next.result c.next.new.self c.in-Some.job c.in-Some.is c.next.ensures.steps in
    let low : length c.loop-job.yielded < length c.args.jobs.items = t.0 in
    let few : length (dones_of c.loop-job.yielded) ≤ length c.loop-job.yielded = dones_few c.loop-job.yielded in
    let same : length c.loop-job.done.items ≡ length (dones_of c.loop-job.yielded) = ap length c.loop-job.invariant.so.done in
    let room = c.requires.room in
    let kept = c.loop-job.invariant.room in omega arith

pub loop-job-preserved : goal.loop-job-preserved
loop-job-preserved c =
    let t = YieldsList-turn (YieldsList-from_vec {s = c.into_iter-job-iterator.result} c.args.jobs.items (cc) (search rules)) c.loop-job.yielded c.loop-job.job-iterator c.loop-job.yielded_by c.next.result c.next.new.self c.in-Some.job c.in-Some.is c.next.ensures.steps in
    let back : IsBack c.args.front.now.table (length c.args.seat.now.seen) c.in-Some.job.seat = subst (λ (j : Job). IsBack c.args.front.now.table (length c.args.seat.now.seen) j.seat) (sym t.1) (c.requires.jobs (length c.loop-job.yielded) c.in-Some.job t.0) in
    record {
      so = so_more c.args.front.now.table c.args.seat.now c.loop-job.seat c.take_in-stop.new.seat c.loop-job.yielded c.in-Some.job c.loop-job.done.items c.take_in-stop.new.done.items c.loop-job.stop c.take_in-stop.result c.loop-job.invariant.so back c.take_in-stop.ensures.joins c.take_in-stop.ensures.done c.take_in-stop.ensures.stop;
      room = c.take_in-stop.ensures.room ∙ c.loop-job.invariant.room;
    }
