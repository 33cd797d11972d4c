use Rattle.std.proofs.Common.{◌≡◌, ◌+◌, ◌<◌, ◌≤◌, List, [], ◌∷◌, ◌++◌, length, ap, sym, ◌∙◌, subst, arith, rules}
use Rattle.std.proofs.lemmas.Iterator.Adapters.{YieldsList-from_vec}
use Rattle.std.proofs.lemmas.Iterator.Consumers.{YieldsList-turn}
use Rattle.journal_model.specs.declared.notes.Note.{Note}
use Rattle.turn_table.specs.Seats.{SeatView}
use Rattle.shard_core.specs.Shards.{ChannelBase}
use Rattle.phase_run.specs.declared.jobs.Job.{Job}
use Rattle.phase_run.specs.Phases.{SetOut}
use Rattle.phase_run.proofs.Planning.{set_none, set_room, set_more}
use Rattle.phase_run.proofs.phases.set_out.Goals as goal

pub loop-plan-init : goal.loop-plan-init
loop-plan-init c = record { set = set_none c.args.seat.now c.args.jobs.now.items c.requires.none; room = cc }

pub set_off-job-requires : goal.set_off-job-requires
set_off-job-requires c =
    let t = YieldsList-turn (YieldsList-from_vec {s = c.into_iter-plan-iterator.result} c.args.plans.items (cc) (search rules)) c.loop-plan.yielded c.loop-plan.plan-iterator c.loop-plan.yielded_by c.next.result c.next.new.self c.in-Some.plan c.in-Some.is c.next.ensures.steps in
    let few : length c.loop-plan.yielded ≤ length c.args.plans.items = (let low : length c.loop-plan.yielded < length c.args.plans.items = t.0 in omega arith) in
    let o = c.loop-plan.invariant.set in (
      ap (λ (u : SeatView Note ChannelBase). u.table) o.parted.seat ∙ c.requires.seat.same,
      set_room c.loop-plan.yielded c.args.seat.now c.loop-plan.seat c.loop-plan.jobs.items (length c.args.plans.items) o few c.requires.seat.enough,
    )

pub loop-plan-preserved : goal.loop-plan-preserved
loop-plan-preserved c = record {
  set = subst (λ (l : List Job). SetOut (c.loop-plan.yielded ++ c.in-Some.plan ∷ []) c.args.seat.now l c.set_off-job.new.seat) (sym c.push_reserved.ensures.items) (set_more c.loop-plan.yielded c.args.seat.now c.loop-plan.seat c.set_off-job.new.seat c.loop-plan.jobs.items c.in-Some.plan c.set_off-job.result c.loop-plan.invariant.set c.set_off-job.ensures.splits c.set_off-job.ensures.plan c.set_off-job.ensures.fresh);
  room = c.push_reserved.ensures.capacity ∙ c.loop-plan.invariant.room;
}
