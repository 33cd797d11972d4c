-- Plans, and the seats that are split off for them.
use Rattle.std.proofs.Common.{◌≡◌, ◌⊎◌, inl, ℕ, ◌+◌, ◌*◌, ◌-◌, ◌^◌, ◌<◌, ◌≤◌, List, [], ◌∷◌, ◌++◌, length, map, All, refl, ap, sym, ◌∙◌, subst, arith, length-append}
use Rattle.std.proofs.lemmas.List.{length-map, map-append}
use Rattle.std.proofs.lemmas.List.Elements.{All-append, All-map, All-weaker, All-push, All-nil, All-head, All-tail}
use Rattle.coarse_lists.specs.declared.collections.Collection.{Collection}
use Rattle.request_lines.specs.declared.requests.Request.{Request}
use Rattle.journal_model.specs.declared.notes.Note.{Note}
use Rattle.turn_facts.specs.Counts.{total}
use Rattle.turn_facts.specs.Prefixes.{IsAt}
use Rattle.turn_facts.proofs.Places.{at_get, at_below, at_some, at_map, at_one}
use Rattle.turn_table.specs.Seats.{Table, SeatView, first_seat}
use Rattle.seat_walks.specs.Gathers.{IsNew, Parted, cost}
use Rattle.seat_walks.specs.Tells.{Splits}
use Rattle.seat_walks.proofs.Gathering.{parted_none, parted_more}
use Rattle.shard_core.specs.Shards.{ChannelBase}
use Rattle.phase_model.specs.Rests.{Rest}
use Rattle.shard_calls.specs.Fronts.{FrontView, IsReady, AreBases, base_at}
use Rattle.phase_run.specs.declared.jobs.Task.{Task}
use Rattle.phase_run.specs.declared.jobs.Task.TheVariants.{Caller, Ticker}
use Rattle.phase_run.specs.declared.jobs.Job.{Job}
use Rattle.phase_run.specs.declared.phases.Plan.{Plan}
use Rattle.phase_run.specs.declared.works.Work.{Work}
use Rattle.phase_run.specs.declared.works.Roles.{Roles}
use Rattle.phase_run.specs.Callers.{MayAsk}
use Rattle.phase_run.specs.Jobs.{draws_of, IsSet}
use Rattle.phase_run.specs.Phases.{MayBeAsked, MayRun, AreFew, plan_by, plan_in, seat_in, whose_is, IsPlan, IsIdle, IsTicker, Planned, IsFresh, SetOut, IsRestOf}

-- ---- plans

idle : (rounds : ℕ) (plan : Plan) → IsTicker rounds plan → IsIdle plan
idle rounds plan t = ap whose_is t.task

pub planned : (works : List Work) (rounds : ℕ) (plans others : List Plan) → plans ≡ map plan_by works ++ others → All (IsTicker rounds) others → Planned works plans
planned works rounds plans others are tickers = record { others = others; are = are; idle = All-weaker (IsTicker rounds) IsIdle (idle rounds) others tickers }

pub few_plans : (works : List Work) (roles : Roles) (plans others : List Plan) → length works ≤ 16 → AreFew roles → plans ≡ map plan_by works ++ others → length others ≡ roles.tickers → length plans ≤ 32
few_plans works roles plans others few r are many =
    let all : length plans ≡ length (map plan_by works) + length others = ap length are ∙ length-append (map plan_by works) others in
    let long : length (map plan_by works) ≡ length works = length-map works plan_by in
    let tickers : roles.tickers ≤ 16 = r.few_tickers in omega arith

module _ (front : FrontView) where
  work_may : (work : Work) → MayBeAsked front.collection front.table.first work → IsPlan front (plan_by work)
  work_may work m = record {
    few = let n : length work.requests.items ≤ 2 ^ 18 = m.many in omega arith;
    may = m.may;
    mine_is = m.mine_is;
  }

  ticker_may : (rounds : ℕ) → rounds ≤ 1000 → 1 ≤ front.table.first → (plan : Plan) → IsTicker rounds plan → IsPlan front plan
  ticker_may rounds few first plan t = record {
    few = let e : draws_of plan.task plan.requests.items ≡ rounds * 20 + 20 = ap (λ (task : Task). draws_of task plan.requests.items) t.task in omega arith;
    may = subst (λ (l : List (ℕ × Request)). All (λ (request : ℕ × Request). MayAsk front.collection request.1.what) l) (sym t.none) (All-nil (λ (request : ℕ × Request). MayAsk front.collection request.1.what));
    mine_is = let z : plan.mine.0 ≡ 0 = t.mine_is in omega arith;
  }

  pub plans_may : (works : List Work) (roles : Roles) (plans others : List Plan) → MayRun front.collection front.table.first works → AreFew roles → 1 ≤ front.table.first → plans ≡ map plan_by works ++ others → All (IsTicker roles.rounds) others → All (IsPlan front) plans
  plans_may works roles plans others m r first are tickers =
      subst (All (IsPlan front)) (sym are)
      (All-append (IsPlan front) (map plan_by works) others
      (All-map (IsPlan front) plan_by works (All-weaker (MayBeAsked front.collection front.table.first) (λ (work : Work). IsPlan front (plan_by work)) work_may works m.each))
      (All-weaker (IsTicker roles.rounds) (IsPlan front) (ticker_may roles.rounds r.few_rounds first) others tickers))

-- the collection and the floor are those of the bases
pub same_bases : (c d : Collection) (f g : ℕ) (bases : List ChannelBase) → AreBases c f bases → AreBases d g bases → (c ≡ d) × (f ≡ g)
same_bases c d f g bases a b =
    let many : length bases ≡ c.channels = a.many in
    let some_channel : 1 ≤ c.channels = a.range.channels.0 in
    let p = at_some bases 0 (omega arith) in
    let same : base_at c f 0 ≡ base_at d g 0 = sym (a.each 0 p.0 p.1) ∙ b.each 0 p.0 p.1 in
    (ap (λ (x : ChannelBase). x.collection) same, ap (λ (x : ChannelBase). x.floor) same)

-- the same clock, floor and journals
pub rest_of : (old : Rest) (clock first floor low : ℕ) (journals seen : List (List Note)) (works : List Work) → clock ≡ first → floor ≡ low → journals ≡ seen → IsRestOf old clock floor journals works → IsRestOf old first low seen works
rest_of old clock first floor low journals seen works a b c rest = record { clock_is = rest.clock_is ∙ a; floor_is = rest.floor_is ∙ b; journals_are = rest.journals_are ∙ c; mine_is = rest.mine_is }

-- ---- seats that are split off

costs : (jobs : List Job) → All IsFresh jobs → total cost (map seat_in jobs) ≡ length jobs * (2 ^ 30 + 1)
unfolding total
costs [] fresh = omega arith
costs (job ∷ jobs) fresh =
    let one : job.seat.allowance ≡ 2 ^ 30 = (All-head IsFresh job jobs fresh).allowance in
    let rest : total cost (map seat_in jobs) ≡ length jobs * (2 ^ 30 + 1) = costs jobs (All-tail IsFresh job jobs fresh) in omega arith

pub set_none : (s : SeatView Note ChannelBase) (jobs : List Job) → jobs ≡ [] → SetOut [] s jobs s
set_none s jobs none = subst (λ (l : List Job). SetOut [] s l s) (sym none) (record { parted = parted_none s; planned = refl; fresh = All-nil IsFresh })

-- what is left for the next seat
pub set_room : (plans : List Plan) (s m : SeatView Note ChannelBase) (jobs : List Job) (n : ℕ) → SetOut plans s jobs m → length plans ≤ n → n * (2 ^ 30 + 1) + 2 ^ 31 ≤ s.allowance → 2 ^ 30 + 1 < m.allowance
set_room plans s m jobs n o few room =
    let sum : m.allowance + total cost (map seat_in jobs) ≡ s.allowance = o.parted.allowance in
    let all : total cost (map seat_in jobs) ≡ length jobs * (2 ^ 30 + 1) = costs jobs o.fresh in
    let long : length jobs ≡ length plans = sym (length-map jobs plan_in) ∙ ap length o.planned in omega arith

pub set_more : (plans : List Plan) (s m e : SeatView Note ChannelBase) (jobs : List Job) (plan : Plan) (job : Job) → SetOut plans s jobs m → Splits m e job.seat (2 ^ 30) → plan_in job ≡ plan → IsFresh job → SetOut (plans ++ plan ∷ []) s (jobs ++ job ∷ []) e
set_more plans s m e jobs plan job o split is fresh = record {
  parted = subst (λ (l : List (SeatView Note ChannelBase)). Parted s l e) (sym (map-append seat_in jobs (job ∷ []))) (parted_more s m e job.seat (map seat_in jobs) (2 ^ 30) o.parted split.room split.seat split.other);
  planned = map-append plan_in jobs (job ∷ []) ∙ ap (λ (l : List Plan). l ++ plan_in job ∷ []) o.planned ∙ ap (λ (p : Plan). plans ++ p ∷ []) is;
  fresh = All-push IsFresh jobs job o.fresh fresh;
}

-- ---- seats that set out

module _ (front : FrontView) (s e : SeatView Note ChannelBase) (plans : List Plan) (made : List Job) (o : SetOut plans s made e) (first : s ≡ first_seat front.table s.seen) (may : All (IsPlan front) plans) where
  set_at : (i : ℕ) (a : Job) → IsAt made i a → IsSet front a
  set_at i a at =
      let in_plans : IsAt plans i (plan_in a) = subst (λ (l : List Plan). IsAt l i (plan_in a)) o.planned (at_map plan_in made i a at) in
      let plan : IsPlan front (plan_in a) = subst (IsPlan front) (at_get plans i (plan_in a) (plan_in a) in_plans) (may i (plan_in a) (at_below plans i (plan_in a) in_plans)) in
      let fresh : IsFresh a = subst IsFresh (at_get made i a a at) (o.fresh i a (at_below made i a at)) in
      let new : IsNew s a.seat = o.parted.each i a.seat (at_map seat_in made i a at) in
      record {
        seat = record {
          same = ap (λ (u : SeatView Note ChannelBase). u.table) new ∙ ap (λ (u : SeatView Note ChannelBase). u.table) first;
          rest = ap (λ (u : SeatView Note ChannelBase). u.turns) new;
          enough = let has : a.seat.allowance ≡ 2 ^ 30 = fresh.allowance in let few : draws_of a.task a.requests.items ≤ 2 ^ 30 = plan.few in omega arith;
        };
        may = plan.may;
        mine = inl plan.mine_is;
        none = fresh.none;
      }

  pub all_set : All (IsSet front) made
  all_set i d below = let p = at_some made i below in subst (IsSet front) (sym (at_get made i p.0 d p.1)) (set_at i p.0 p.1)
