-- What the tickers of a phase did.
use Rattle.std.specs.Prelude.{OnOk}
use Rattle.std.proofs.Common.{drop, ◌≡◌, inl, inr, ⊎_elim, ℕ, zero, suc, ◌+◌, ◌-◌, ◌<◌, ◌≤◌, ◌≢◌, List, [], ◌∷◌, ◌++◌, length, map, get_or, All, Ok, refl, ap, sym, ◌∙◌, subst, arith, length-append, length-drop}
use lib.ListN.{get_elem?}
use mathlib.Core.Option.{some-ne-none}
use Rattle.std.specs.declared.result.Result.{Result}
use Rattle.std.proofs.lemmas.List.{length-map}
use Rattle.row_types.specs.declared.allocation.Memory.{Memory}
use Rattle.turn_facts.specs.Counts.{count, Among, NoneTwice}
use Rattle.turn_facts.specs.Notes.{of}
use Rattle.turn_facts.specs.Prefixes.{IsAt}
use Rattle.turn_facts.proofs.Counts.{count-nil, count-else, count-drop}
use Rattle.turn_facts.proofs.Places.{same_or, at_get, at_below, at_some, at_map, at_map_back}
use Rattle.turn_table.specs.Knowledge.{at_slot}
use Rattle.turn_table.specs.Seats.{SeatView}
use Rattle.coarse_lists.specs.declared.collections.Collection.{Collection}
use Rattle.answer_lines.specs.declared.answers.Answer.{Answer}
use Rattle.request_lines.specs.declared.requests.Request.{Request}
use Rattle.journal_model.specs.declared.notes.Note.{Note}
use Rattle.seat_walks.specs.Walks.{Step, all_notes}
use Rattle.seat_walks.specs.Gathers.{number_in, Gathered}
use Rattle.seat_walks.specs.Closes.{IsLast, Closed, Stands}
use Rattle.shard_core.specs.Shards.{ChannelBase}
use Rattle.call_model.specs.Turns.{by_of, time_of}
use Rattle.phase_model.specs.Meets.{meet_tick}
use Rattle.shard_calls.specs.Fronts.{FrontView}
use Rattle.phase_run.specs.declared.jobs.Task.{Task}
use Rattle.phase_run.specs.declared.jobs.Task.TheVariants.{Ticker}
use Rattle.phase_run.specs.declared.jobs.Job.{Job}
use Rattle.phase_run.specs.declared.phases.Plan.{Plan}
use Rattle.phase_run.specs.declared.works.Work.{Work}
use Rattle.phase_run.specs.Callers.{Ticked}
use Rattle.phase_run.specs.Jobs.{Worked, Ticking, HasWorked}
use Rattle.phase_run.specs.Phases.{seat_in, plan_in, plan_by, IsTicker, SetOut, HaveTicked}
use Rattle.phase_run.proofs.Ticking.{ticked_notes}
use Rattle.phase_run.proofs.Phasing.{HaveRun, did_at, ended}

-- the place of a number that stands in a list
place : (n : ℕ) (l : List ℕ) → Among n l → (j : ℕ) × IsAt l j n
place n [] a = absurd (let z : count n [] ≡ 0 = count-nil n in omega arith)
place n (x ∷ l) a =
    ⊎_elim (λ (p : x ≡ n). (0, ap (λ (y : ℕ). get_elem? (y ∷ l) 0) p))
    (λ (p : x ≢ n). let e : count n (x ∷ l) ≡ count n l = count-else n x l p in let r = place n l (omega arith) in (suc r.0, r.1)) (same_or x n)

at_behind : {A : Type 0} (m : ℕ) (l : List A) (j : ℕ) (a : A) → IsAt (drop m l) j a → (i : ℕ) × (m ≤ i) × (i ≡ m + j) × IsAt l i a
at_behind zero l j a at = (j, omega arith, omega arith, at)
at_behind (suc m) [] j a at = absurd (some-ne-none a (sym at))
at_behind (suc m) (x ∷ l) j a at = let r = at_behind m l j a at in (suc r.0, let low : m ≤ r.0 = r.1 in omega arith, let is : r.0 ≡ m + j = r.2 in omega arith, r.3)

at_others : {A : Type 0} (xs ys : List A) (j : ℕ) (a : A) → IsAt (xs ++ ys) (length xs + j) a → IsAt ys j a
at_others [] ys j a at = subst (λ (i : ℕ). IsAt ys i a) (let e : 0 + j ≡ j = omega arith in e) at
at_others (x ∷ xs) ys j a at = at_others xs ys j a (subst (λ (i : ℕ). IsAt (x ∷ (xs ++ ys)) i a) (let e : suc (length xs) + j ≡ suc (length xs + j) = omega arith in e) at)

-- what a ticker did, where memory was not wanting
ticked_all : (collection : Collection) (least mine rounds : ℕ) (task : Task) (a : SeatView Note ChannelBase) (requests : List (ℕ × Request)) (answers : List (ℕ × Answer)) (done : Result (Unit {0}) Memory) (p : SeatView Note ChannelBase)
    → task ≡ Ticker rounds → done ≡ Ok tt → Worked collection least mine task a requests answers done p → Ticked collection least rounds a p
ticked_all collection least mine rounds task a requests answers done p is all w =
    let ticking : Ticking collection least rounds a done p = subst (λ (t : Task). Worked collection least mine t a requests answers done p) is w in
    subst (λ (d : Result (Unit {0}) Memory). OnOk d (Ticked collection least rounds a p)) all ticking.ticked

module _ (front : FrontView) (least : ℕ) (s0 s1 : SeatView Note ChannelBase) (plans : List Plan) (made run : List Job) (h : HaveRun front least s0 s1 plans made run) (works : List Work) (others : List Plan) (rounds : ℕ)
    (are : plans ≡ map plan_by works ++ others) (tickers : All (IsTicker rounds) others) (all : All (λ (job : Job). job.done ≡ Ok tt) run) (e : SeatView Note ChannelBase) (g : Gathered by_of s1 (map seat_in run) e) (new : List (List Note)) (last : ℕ)
    (l : IsLast by_of time_of e new last) where
  abbrev numbers : List ℕ
  numbers = drop (length works) (map number_in (map seat_in run))

  -- a ticker's job, before and behind
  record Found (n : ℕ) : Type 0 where
    pub place : ℕ
    pub a : Job
    pub b : Job
    pub was : IsAt made place a
    pub is : IsAt run place b
    pub named : b.seat.number ≡ n
    pub task : a.task ≡ Ticker rounds

  found : (n : ℕ) → Among n numbers → Found n
  found n among =
      let p = place n numbers among in
      let q = at_behind (length works) (map number_in (map seat_in run)) p.0 n p.1 in
      let r = at_map_back number_in (map seat_in run) q.0 n q.3 in
      let y = at_map_back seat_in run q.0 r.0 r.1 in
      let long : length run ≡ length made = h.long in
      let low : q.0 < length run = at_below run q.0 y.0 y.1 in
      let x = at_some made q.0 (omega arith) in
      let in_plans : IsAt (map plan_by works ++ others) q.0 (plan_in x.0) = subst (λ (ps : List Plan). IsAt ps q.0 (plan_in x.0)) (h.out.planned ∙ are) (at_map plan_in made q.0 x.0 x.1) in
      let works_long : length (map plan_by works) ≡ length works = length-map works plan_by in
      let is_place : q.0 ≡ length (map plan_by works) + p.0 = (let z : q.0 ≡ length works + p.0 = q.2 in omega arith) in
      let at_other : IsAt others p.0 (plan_in x.0) = at_others (map plan_by works) others p.0 (plan_in x.0) (subst (λ (i : ℕ). IsAt (map plan_by works ++ others) i (plan_in x.0)) is_place in_plans) in
      let ticker : IsTicker rounds (plan_in x.0) = subst (IsTicker rounds) (at_get others p.0 (plan_in x.0) (plan_in x.0) at_other) (tickers p.0 (plan_in x.0) (at_below others p.0 (plan_in x.0) at_other)) in
      record { place = q.0; a = x.0; b = y.0; was = x.1; is = y.1; named = ap number_in y.2 ∙ r.2; task = ticker.task }

  closed : Closed by_of time_of front.table.first last s0.seen new (map seat_in made) (map seat_in run)
  closed = ended front least s0 s1 plans made run h e g new last l

  ticks_at : (n k : ℕ) → Found n → k < front.collection.channels → (stamps : List ℕ) × (length stamps ≡ rounds) × (of by_of n (at_slot new k) ≡ of by_of n (at_slot s0.seen k) ++ map (meet_tick n) stamps)
  ticks_at n k f below =
      let w : HasWorked front least f.a f.b = did_at front least s0 s1 plans made run h f.place f.a f.b f.was f.is in
      let done : f.b.done ≡ Ok tt = subst (λ (j : Job). j.done ≡ Ok tt) (at_get run f.place f.b f.b f.is) (all f.place f.b (at_below run f.place f.b f.is)) in
      let t : Ticked front.collection least rounds f.a.seat f.b.seat = ticked_all front.collection least f.a.mine.0 rounds f.a.task f.a.seat f.a.requests.items f.b.answers.items f.b.done f.b.seat f.task done w.worked in
      let stands : Stands by_of time_of front.table.first last s0.seen new f.a.seat t.steps f.b.seat = closed.each f.place f.a.seat f.b.seat t.steps (at_map seat_in made f.place f.a f.was) (at_map seat_in run f.place f.b f.is) t.did in
      let same : f.a.seat.number ≡ n = stands.begins.3 ∙ f.named in
      let notes = ticked_notes front.collection least f.a.seat.number rounds k t.steps below t.ticks in
      let own : of by_of f.b.seat.number (at_slot new k) ≡ of by_of f.b.seat.number (at_slot s0.seen k) ++ all_notes k t.steps = stands.own k in (
        notes.0,
        notes.1,
        subst (λ (m : ℕ). of by_of m (at_slot new k) ≡ of by_of m (at_slot s0.seen k) ++ all_notes k t.steps) f.named own
            ∙ ap (λ (ns : List Note). of by_of n (at_slot s0.seen k) ++ ns) (notes.2 ∙ ap (λ (m : ℕ). map (meet_tick m) notes.0) same),
      )

  pub have_ticked : HaveTicked front.collection.channels (length others) rounds s0.seen new
  have_ticked = record {
    numbers = numbers;
    many =
        let ran : length run ≡ length made = h.long in
        let jobs : length made ≡ length plans = sym (length-map made plan_in) ∙ ap length h.out.planned in
        let plans_long : length plans ≡ length (map plan_by works) + length others = ap length are ∙ length-append (map plan_by works) others in
        let works_long : length (map plan_by works) ≡ length works = length-map works plan_by in
        let seats : length (map number_in (map seat_in run)) ≡ length run = length-map (map seat_in run) number_in ∙ length-map run seat_in in
        let cut : length (drop (length works) (map number_in (map seat_in run))) ≡ length (map number_in (map seat_in run)) - length works = length-drop (length works) (map number_in (map seat_in run)) in omega arith;
    apart = λ x. let few : count x numbers ≤ count x (map number_in (map seat_in run)) = count-drop x (length works) (map number_in (map seat_in run)) in let one : count x (map number_in (map seat_in run)) ≤ 1 = closed.differ x in omega arith;
    ticks = λ n k among below. ticks_at n k (found n among) below;
  }
