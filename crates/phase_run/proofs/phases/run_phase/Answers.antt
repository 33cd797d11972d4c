use Rattle.std.proofs.Common.{◌≡◌, ℕ, ◌≤◌, inl, inr, List, length, map, refl, ap, sym, ◌∙◌, subst, arith}
use Rattle.std.proofs.lemmas.List.{length-map}
use Rattle.hybrid_time.specs.Times.{of_moment}
use Rattle.coarse_lists.specs.declared.collections.Collection.{Collection}
use Rattle.journal_model.specs.declared.notes.Note.{Note}
use Rattle.turn_table.specs.Seats.{SeatView, first_seat}
use Rattle.shard_core.specs.Shards.{ChannelBase, base_of}
use Rattle.shard_calls.specs.Fronts.{notes_of, AreBases, base_at}
use Rattle.phase_model.specs.Phases.{IsPhase}
use Rattle.phase_run.specs.Phases.{IsRestOf, MayRun, Planned, HaveTicked, ran_rest}
use Rattle.phase_run.proofs.Planning.{planned, few_plans, plans_may, same_bases, rest_of}
use Rattle.phase_run.proofs.phases.run_phase.Goals as goal

pub prepare-requires : goal.prepare-requires
prepare-requires g c = let s = c.requires.shards in ((c.requires.works s.collection s.floor s.bases).callers, c.requires.roles)

pub run-requires-clause-bases : goal.run-requires-clause-bases
run-requires-clause-bases g c = λ κs within. c.in-Ok-new.ensures.front.bases

pub run-requires-clause-seat : goal.run-requires-clause-seat
run-requires-clause-seat g c = λ κs within.
    let seen : c.in-Ok-new.seat.seen ≡ map notes_of c.args.shards.items = ap (λ (u : SeatView Note ChannelBase). u.seen) c.in-Ok-new.ensures.seat in
    c.in-Ok-new.ensures.seat ∙ ap (first_seat c.in-Ok-new.front.table) (sym seen)

pub run-requires-clause-plans : goal.run-requires-clause-plans
run-requires-clause-plans g c = λ κs within.
    let p = c.in-Ok.ensures in
    let bases : AreBases c.in-Ok-new.front.collection c.in-Ok-new.front.floor (map base_of c.args.shards.items) = subst (AreBases c.in-Ok-new.front.collection c.in-Ok-new.front.floor) c.in-Ok-new.ensures.bases c.in-Ok-new.ensures.front.bases in
    let may : MayRun c.in-Ok-new.front.collection c.in-Ok-new.front.table.first c.args.works.items = subst (λ (n : ℕ). MayRun c.in-Ok-new.front.collection n c.args.works.items) (sym c.in-Ok-new.ensures.first) (c.requires.works c.in-Ok-new.front.collection c.in-Ok-new.front.floor bases) in (
      few_plans c.args.works.items c.args.roles c.in-Ok.prepared.plans.items p.others may.callers c.requires.roles p.are p.many,
      plans_may c.in-Ok-new.front c.args.works.items c.args.roles c.in-Ok.prepared.plans.items p.others may c.requires.roles c.in-Ok-new.ensures.front.first p.are p.tickers,
    )

pub run-requires-clause-none : goal.run-requires-clause-none
run-requires-clause-none g c = λ κs within. c.in-Ok.ensures.none

pub run-requires-clause-room : goal.run-requires-clause-room
run-requires-clause-room g c = λ κs within. c.in-Ok.ensures.room

pub returns-in-Ok-new-clause-stopped : goal.returns-in-Ok-new-clause-stopped
returns-in-Ok-new-clause-stopped g c =
    let p = c.in-Ok.ensures in inr (c.run.ensures.done c.args.works.items (planned c.args.works.items c.args.roles.rounds c.in-Ok.prepared.plans.items p.others p.are p.tickers))

pub returns-in-Ok-new-clause-answered : goal.returns-in-Ok-new-clause-answered
returns-in-Ok-new-clause-answered g c all =
    let p = c.in-Ok.ensures in
    let w : Planned c.args.works.items c.in-Ok.prepared.plans.items = planned c.args.works.items c.args.roles.rounds c.in-Ok.prepared.plans.items p.others p.are p.tickers in (c.run.ensures.done c.args.works.items w, c.run.ensures.answered all c.args.works.items w)

pub returns-in-Ok-new-clause-bases : goal.returns-in-Ok-new-clause-bases
returns-in-Ok-new-clause-bases g c = c.run.ensures.bases ∙ c.in-Ok-new.ensures.bases

pub returns-in-Ok-new-clause-clock : goal.returns-in-Ok-new-clause-clock
returns-in-Ok-new-clause-clock g c = subst (λ (n : ℕ). n ≤ c.run.result.clock) c.in-Ok-new.ensures.first c.run.ensures.clock

pub returns-in-Ok-new-clause-ticks : goal.returns-in-Ok-new-clause-ticks
returns-in-Ok-new-clause-ticks g c all =
    let p = c.in-Ok.ensures in
    let channels : c.in-Ok-new.front.collection.channels ≡ length c.args.shards.items = sym c.in-Ok-new.ensures.front.bases.many ∙ ap length c.in-Ok-new.ensures.bases ∙ length-map c.args.shards.items base_of in
    let seen : c.in-Ok-new.seat.seen ≡ map notes_of c.args.shards.items = ap (λ (u : SeatView Note ChannelBase). u.seen) c.in-Ok-new.ensures.seat in
    subst (λ (n : ℕ). HaveTicked n c.args.roles.tickers c.args.roles.rounds (map notes_of c.args.shards.items) (map notes_of c.run.result.shards.items)) channels
    (subst (λ (n : ℕ). HaveTicked c.in-Ok-new.front.collection.channels n c.args.roles.rounds (map notes_of c.args.shards.items) (map notes_of c.run.result.shards.items)) p.many
    (subst (λ (js : List (List Note)). HaveTicked c.in-Ok-new.front.collection.channels (length p.others) c.args.roles.rounds js (map notes_of c.run.result.shards.items)) seen
    (c.run.ensures.ticks all c.args.works.items p.others c.args.roles.rounds p.are p.tickers)))

pub returns-in-Ok-new-clause-phase : goal.returns-in-Ok-new-clause-phase
returns-in-Ok-new-clause-phase g c all collection floor old block bases rest lines =
    let p = c.in-Ok.ensures in
    let w : Planned c.args.works.items c.in-Ok.prepared.plans.items = planned c.args.works.items c.args.roles.rounds c.in-Ok.prepared.plans.items p.others p.are p.tickers in
    let own : AreBases c.in-Ok-new.front.collection c.in-Ok-new.front.floor (map base_of c.args.shards.items) = subst (AreBases c.in-Ok-new.front.collection c.in-Ok-new.front.floor) c.in-Ok-new.ensures.bases c.in-Ok-new.ensures.front.bases in
    let same = same_bases c.in-Ok-new.front.collection collection c.in-Ok-new.front.floor floor (map base_of c.args.shards.items) own bases in
    let seen : c.in-Ok-new.seat.seen ≡ map notes_of c.args.shards.items = ap (λ (u : SeatView Note ChannelBase). u.seen) c.in-Ok-new.ensures.seat in
    let began : IsRestOf old c.in-Ok-new.front.table.first c.in-Ok-new.front.floor c.in-Ok-new.seat.seen c.args.works.items = rest_of old c.args.clock c.in-Ok-new.front.table.first floor c.in-Ok-new.front.floor (map notes_of c.args.shards.items) c.in-Ok-new.seat.seen c.args.works.items (sym c.in-Ok-new.ensures.first) (sym same.1) (sym seen) rest in
    subst (λ (x : Collection). IsPhase ChannelBase x (of_moment (g.M.Moments.least c.args.moments.now)) old (ran_rest old c.run.result.clock (map notes_of c.run.result.shards.items) block) block) same.0
    (c.run.ensures.phase all c.args.works.items old block w began lines)
