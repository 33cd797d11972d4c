use Rattle.std.proofs.Common.{◌≡◌, ℕ, ◌+◌, ◌*◌, ◌^◌, ◌≤◌, List, length, map, All, Ok, refl, ap, sym, ◌∙◌, subst, arith}
use Rattle.hybrid_time.specs.Times.{of_moment}
use Rattle.legal_output.specs.Lines.{Line}
use Rattle.journal_model.specs.declared.notes.Note.{Note}
use Rattle.turn_facts.specs.Prefixes.{IsAt}
use Rattle.turn_table.specs.Seats.{SeatView}
use Rattle.seat_walks.specs.Closes.{IsLast}
use Rattle.shard_core.specs.Shards.{ChannelShard, ChannelBase, base_of}
use Rattle.call_model.specs.Turns.{by_of, time_of}
use Rattle.shard_calls.specs.Fronts.{notes_of, AreBases}
use Rattle.phase_model.specs.Rests.{AreKept}
use Rattle.phase_run.specs.declared.jobs.Job.{Job}
use Rattle.phase_run.specs.declared.works.Done.{Done}
use Rattle.phase_run.specs.Phases.{AreLines, AreDone, AreAnswered, ran_rest, dones_of, KeepsJournal}
use Rattle.phase_run.proofs.Planning.{all_set}
use Rattle.phase_run.proofs.Keeping.{rest_kept}
use Rattle.phase_run.proofs.Phasing.{HaveRun, backs, few_run, table_is, at_rest, shares, last_seat, done_are, answered_are, phase}
use Rattle.phase_run.proofs.Tickers.{have_ticked}
use Rattle.phase_run.proofs.phases.run.Goals as goal

pub set_out-requires-clause-seat : goal.set_out-requires-clause-seat
set_out-requires-clause-seat g c =
    let few : length c.args.prepared.plans.items ≤ 32 = c.requires.plans.0 in
    let first = c.requires.seat in
    let has : c.args.seat.allowance ≡ 2 ^ 40 = ap (λ (u : SeatView Note ChannelBase). u.allowance) first in
    record {
      same = ap (λ (u : SeatView Note ChannelBase). u.table) first;
      rest = ap (λ (u : SeatView Note ChannelBase). u.turns) first;
      enough = omega arith;
    }

pub run_set-requires-clause-jobs : goal.run_set-requires-clause-jobs
run_set-requires-clause-jobs g c = λ κs within. all_set c.args.front c.args.seat c.set_out.new.seat c.args.prepared.plans.items c.set_out.new.jobs.items c.set_out.ensures c.requires.seat c.requires.plans.1

pub gather-stop-requires-clause-seat : goal.gather-stop-requires-clause-seat
gather-stop-requires-clause-seat g c = record {
  same = ap (λ (u : SeatView Note ChannelBase). u.table) c.set_out.ensures.parted.seat ∙ ap (λ (u : SeatView Note ChannelBase). u.table) c.requires.seat;
  rest = ap (λ (u : SeatView Note ChannelBase). u.turns) c.set_out.ensures.parted.seat ∙ ap (λ (u : SeatView Note ChannelBase). u.turns) c.requires.seat;
  enough = omega arith;
}

pub gather-stop-requires-clause-jobs : goal.gather-stop-requires-clause-jobs
gather-stop-requires-clause-jobs g c =
    let h : HaveRun c.args.front (of_moment (g.M.Moments.least c.args.moments.now)) c.args.seat c.set_out.new.seat c.args.prepared.plans.items c.set_out.new.jobs.items c.run_set.new.jobs.items = record { out = c.set_out.ensures; first = c.requires.seat; long = c.run_set.ensures.many; did = c.run_set.ensures.each } in
    backs c.args.front (of_moment (g.M.Moments.least c.args.moments.now)) c.args.seat c.set_out.new.seat c.args.prepared.plans.items c.set_out.new.jobs.items c.run_set.new.jobs.items h

pub gather-stop-requires-clause-room : goal.gather-stop-requires-clause-room
gather-stop-requires-clause-room g c =
    let h : HaveRun c.args.front (of_moment (g.M.Moments.least c.args.moments.now)) c.args.seat c.set_out.new.seat c.args.prepared.plans.items c.set_out.new.jobs.items c.run_set.new.jobs.items = record { out = c.set_out.ensures; first = c.requires.seat; long = c.run_set.ensures.many; did = c.run_set.ensures.each } in
    let long : length c.run_set.new.jobs.items ≡ length c.args.prepared.plans.items = few_run c.args.front (of_moment (g.M.Moments.least c.args.moments.now)) c.args.seat c.set_out.new.seat c.args.prepared.plans.items c.set_out.new.jobs.items c.run_set.new.jobs.items h in
    let room = c.requires.room.1 in omega arith

pub close-shards-requires-clause-table : goal.close-shards-requires-clause-table
close-shards-requires-clause-table g c =
    let h : HaveRun c.args.front (of_moment (g.M.Moments.least c.args.moments.now)) c.args.seat c.set_out.new.seat c.args.prepared.plans.items c.set_out.new.jobs.items c.run_set.new.jobs.items = record { out = c.set_out.ensures; first = c.requires.seat; long = c.run_set.ensures.many; did = c.run_set.ensures.each } in
    table_is c.args.front (of_moment (g.M.Moments.least c.args.moments.now)) c.args.seat c.set_out.new.seat c.args.prepared.plans.items c.set_out.new.jobs.items c.run_set.new.jobs.items h c.gather-stop.new.seat c.gather-stop.ensures.seat

pub close-shards-requires-clause-rest : goal.close-shards-requires-clause-rest
close-shards-requires-clause-rest g c =
    let h : HaveRun c.args.front (of_moment (g.M.Moments.least c.args.moments.now)) c.args.seat c.set_out.new.seat c.args.prepared.plans.items c.set_out.new.jobs.items c.run_set.new.jobs.items = record { out = c.set_out.ensures; first = c.requires.seat; long = c.run_set.ensures.many; did = c.run_set.ensures.each } in
    at_rest c.args.front (of_moment (g.M.Moments.least c.args.moments.now)) c.args.seat c.set_out.new.seat c.args.prepared.plans.items c.set_out.new.jobs.items c.run_set.new.jobs.items h c.gather-stop.new.seat c.gather-stop.ensures.seat

pub close-shards-requires-clause-all : goal.close-shards-requires-clause-all
close-shards-requires-clause-all g c =
    let h : HaveRun c.args.front (of_moment (g.M.Moments.least c.args.moments.now)) c.args.seat c.set_out.new.seat c.args.prepared.plans.items c.set_out.new.jobs.items c.run_set.new.jobs.items = record { out = c.set_out.ensures; first = c.requires.seat; long = c.run_set.ensures.many; did = c.run_set.ensures.each } in
    shares c.args.front (of_moment (g.M.Moments.least c.args.moments.now)) c.args.seat c.set_out.new.seat c.args.prepared.plans.items c.set_out.new.jobs.items c.run_set.new.jobs.items h c.gather-stop.new.seat c.gather-stop.ensures.seat

pub returns-clause-done : goal.returns-clause-done
returns-clause-done g c works planned =
    let h : HaveRun c.args.front (of_moment (g.M.Moments.least c.args.moments.now)) c.args.seat c.set_out.new.seat c.args.prepared.plans.items c.set_out.new.jobs.items c.run_set.new.jobs.items = record { out = c.set_out.ensures; first = c.requires.seat; long = c.run_set.ensures.many; did = c.run_set.ensures.each } in
    subst (AreDone works) (sym c.gather-stop.ensures.done) (done_are c.args.front (of_moment (g.M.Moments.least c.args.moments.now)) c.args.seat c.set_out.new.seat c.args.prepared.plans.items c.set_out.new.jobs.items c.run_set.new.jobs.items h works planned)

pub returns-clause-answered : goal.returns-clause-answered
returns-clause-answered g c all works planned =
    let h : HaveRun c.args.front (of_moment (g.M.Moments.least c.args.moments.now)) c.args.seat c.set_out.new.seat c.args.prepared.plans.items c.set_out.new.jobs.items c.run_set.new.jobs.items = record { out = c.set_out.ensures; first = c.requires.seat; long = c.run_set.ensures.many; did = c.run_set.ensures.each } in
    subst (AreAnswered works) (sym c.gather-stop.ensures.done) (answered_are c.args.front (of_moment (g.M.Moments.least c.args.moments.now)) c.args.seat c.set_out.new.seat c.args.prepared.plans.items c.set_out.new.jobs.items c.run_set.new.jobs.items h works planned (c.gather-stop.ensures.stop all))

pub returns-clause-ticks : goal.returns-clause-ticks
returns-clause-ticks g c all works others rounds are tickers =
    let h : HaveRun c.args.front (of_moment (g.M.Moments.least c.args.moments.now)) c.args.seat c.set_out.new.seat c.args.prepared.plans.items c.set_out.new.jobs.items c.run_set.new.jobs.items = record { out = c.set_out.ensures; first = c.requires.seat; long = c.run_set.ensures.many; did = c.run_set.ensures.each } in
    let shards = c.close-shards.result.0.items in
    let last : IsLast by_of time_of c.gather-stop.new.seat (map notes_of shards) c.close-shards.result.1 =
    last_seat c.args.front (of_moment (g.M.Moments.least c.args.moments.now)) c.args.seat c.set_out.new.seat c.args.prepared.plans.items c.set_out.new.jobs.items c.run_set.new.jobs.items h c.gather-stop.new.seat c.gather-stop.ensures.seat (map notes_of shards) c.close-shards.result.1 c.close-shards.ensures.journals c.close-shards.ensures.whose c.close-shards.ensures.first c.close-shards.ensures.drawn c.close-shards.ensures.times c.close-shards.ensures.most in
    have_ticked c.args.front (of_moment (g.M.Moments.least c.args.moments.now)) c.args.seat c.set_out.new.seat c.args.prepared.plans.items c.set_out.new.jobs.items c.run_set.new.jobs.items h works others rounds are tickers (c.gather-stop.ensures.stop all) c.gather-stop.new.seat c.gather-stop.ensures.seat (map notes_of shards) c.close-shards.result.1 last

pub returns-clause-phase : goal.returns-clause-phase
returns-clause-phase g c all works old block planned rest lines =
    let h : HaveRun c.args.front (of_moment (g.M.Moments.least c.args.moments.now)) c.args.seat c.set_out.new.seat c.args.prepared.plans.items c.set_out.new.jobs.items c.run_set.new.jobs.items = record { out = c.set_out.ensures; first = c.requires.seat; long = c.run_set.ensures.many; did = c.run_set.ensures.each } in
    let shards = c.close-shards.result.0.items in
    let last : IsLast by_of time_of c.gather-stop.new.seat (map notes_of shards) c.close-shards.result.1 =
    last_seat c.args.front (of_moment (g.M.Moments.least c.args.moments.now)) c.args.seat c.set_out.new.seat c.args.prepared.plans.items c.set_out.new.jobs.items c.run_set.new.jobs.items h c.gather-stop.new.seat c.gather-stop.ensures.seat (map notes_of shards) c.close-shards.result.1 c.close-shards.ensures.journals c.close-shards.ensures.whose c.close-shards.ensures.first c.close-shards.ensures.drawn c.close-shards.ensures.times c.close-shards.ensures.most in
    let bases : AreBases c.args.front.collection c.args.front.floor (map base_of shards) = subst (AreBases c.args.front.collection c.args.front.floor) (sym c.close-shards.ensures.bases) c.requires.bases in
    let kept : AreKept c.args.front.collection (ran_rest old c.close-shards.result.1 (map notes_of shards) block) = rest_kept c.args.front.collection c.args.front.floor shards bases (subst (λ (l : List ChannelShard). All KeepsJournal l) c.as_slice.ensures.value c.tell_all_kept.ensures) old c.close-shards.result.1 block rest.floor_is in
    let told : AreLines works (dones_of c.run_set.new.jobs.items) block = subst (λ (ds : List Done). AreLines works ds block) c.gather-stop.ensures.done lines in
    phase c.args.front (of_moment (g.M.Moments.least c.args.moments.now)) c.args.seat c.set_out.new.seat c.args.prepared.plans.items c.set_out.new.jobs.items c.run_set.new.jobs.items h works planned (c.gather-stop.ensures.stop all) c.gather-stop.new.seat c.gather-stop.ensures.seat (map notes_of shards) c.close-shards.result.1 last old c.args.front.floor block told rest kept
