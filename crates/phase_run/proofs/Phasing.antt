-- A phase, from the seats that set out and came back.
use Rattle.std.specs.Prelude.{OnOk}
use Rattle.std.proofs.Common.{drop, ◌≡◌, inl, inr, ⊎_elim, ℕ, zero, suc, ◌+◌, ◌^◌, ◌<◌, ◌≤◌, max, List, [], ◌∷◌, ◌++◌, length, map, get_or, All, Option, Some, None, Ok, refl, ap, sym, ◌∙◌, subst, arith, length-append}
use lib.ListN.{get_elem?}
use mathlib.Core.Option.{some-injective, some-ne-none}
use Rattle.std.specs.declared.result.Result.{Result}
use Rattle.std.proofs.lemmas.List.{length-map, map-append}
use Rattle.row_types.specs.declared.allocation.Memory.{Memory}
use Rattle.turn_facts.specs.Counts.{count, Among}
use Rattle.turn_facts.specs.Notes.{of, times}
use Rattle.turn_facts.specs.Prefixes.{IsAt}
use Rattle.turn_facts.proofs.Places.{at_get, at_below, at_some, at_longer, at_map, at_map_back, at_one, same_lists}
use Rattle.turn_table.specs.Knowledge.{at_slot}
use Rattle.turn_table.specs.Seats.{Table, SeatView, first_seat}
use Rattle.hybrid_time.specs.declared.times.Timestamp.{Timestamp}
use Rattle.coarse_lists.specs.declared.collections.Collection.{Collection}
use Rattle.answer_lines.specs.declared.answers.Answer.{Answer}
use Rattle.request_lines.specs.declared.requests.Request.{Request}
use Rattle.legal_output.specs.Lines.{Line, written_of, caller_of}
use Rattle.legal_output.specs.Printed.{lines_of, write_or, write_behind}
use Rattle.log_model.proofs.LogLaws.{each_implied}
use Rattle.journal_model.specs.declared.notes.Note.{Note}
use Rattle.journal_model.specs.Lists.{IsIn}
use Rattle.journal_model.proofs.ListLaws.{in_left}
use Rattle.seat_walks.specs.Walks.{Step, Lift}
use Rattle.seat_walks.specs.Gathers.{Parted, Gathered, IsBack}
use Rattle.seat_walks.specs.Closes.{IsLast, Went, Closed}
use Rattle.seat_walks.proofs.Walking.{walks_append, walks_same}
use Rattle.seat_walks.proofs.Closing.{back, whole, closed}
use Rattle.shard_core.specs.Shards.{ChannelBase}
use Rattle.call_model.specs.Turns.{by_of, time_of}
use Rattle.call_model.specs.Walks.{Did, IsServed, Ran}
use Rattle.phase_model.specs.Rests.{Rest, AreKept}
use Rattle.phase_model.specs.Phases.{IsPhase, IsRefused, HasSeat, IsLineOf, Worked as WorkedIn}
use Rattle.shard_calls.specs.Fronts.{FrontView}
use Rattle.phase_run.specs.declared.jobs.Task.{Task}
use Rattle.phase_run.specs.declared.jobs.Task.TheVariants.{Caller, Ticker}
use Rattle.phase_run.specs.declared.jobs.Job.{Job}
use Rattle.phase_run.specs.declared.phases.Plan.{Plan}
use Rattle.phase_run.specs.declared.works.Work.{Work}
use Rattle.phase_run.specs.declared.works.Done.{Done}
use Rattle.phase_run.specs.Callers.{answered, Asked}
use Rattle.phase_run.specs.Jobs.{Worked, HasWorked}
use Rattle.phase_run.specs.Phases.{AreLines, IsRestOf, ran_rest, whose_work, seat_in, plan_in, plan_by, whose_is, caller_number, done_in, told_of, dones_of, IsDoneOf, AreDone, AreAnswered, IsIdle, Planned, SetOut}

map_twice : {A B C : Type 0} (f : A → B) (g : B → C) (l : List A) → map g (map f l) ≡ map (λ (x : A). g (f x)) l
map_twice f g [] = refl
map_twice f g (x ∷ l) = ap (λ m. g (f x) ∷ m) (map_twice f g l)

-- ---- steps

served_walks : (collection : Collection) (least mine : ℕ) (s : SeatView Note ChannelBase) (lines : List Line) (e : SeatView Note ChannelBase) → IsServed collection least mine s lines e → (xs : List (Step Note)) × Did s xs e
served_walks collection least mine s [] e served = ([], walks_same by_of time_of s e served)
served_walks collection least mine s (line ∷ lines) e served =
    let r = served_walks collection least (write_or mine (written_of line.answer)) served.0 lines e served.2 in
    ((Lift served.1.moment ∷ served.1.steps) ++ r.0, walks_append by_of time_of s served.0 e (Lift served.1.moment ∷ served.1.steps) r.0 served.1.did r.1)

worked_walks : (collection : Collection) (least mine : ℕ) (task : Task) (a : SeatView Note ChannelBase) (requests : List (ℕ × Request)) (answers : List (ℕ × Answer)) (done : Result (Unit {0}) Memory) (p : SeatView Note ChannelBase)
    → Worked collection least mine task a requests answers done p → (xs : List (Step Note)) × Did a xs p
worked_walks collection least mine (Caller number) a requests answers done p w =
    let s = served_walks collection least mine a (answered requests answers) w.ran.middle w.ran.served in
    (s.0 ++ w.part, walks_append by_of time_of a w.ran.middle p s.0 w.part s.1 w.ran.left)
worked_walks collection least mine (Ticker rounds) a requests answers done p w = (w.minds.steps, w.minds.did)

-- a seat that did all of its work, as a phase has it
worked_in : (collection : Collection) (least mine : ℕ) (old_mine : ℕ → ℕ) (block : List Line) (task : Task) (a : SeatView Note ChannelBase) (requests : List (ℕ × Request)) (answers : List (ℕ × Answer)) (done : Result (Unit {0}) Memory) (p : SeatView Note ChannelBase)
    → done ≡ Ok tt → ((number : ℕ) → whose_is task ≡ Some number → (mine ≡ old_mine number) × (lines_of (Some number) block ≡ answered requests answers))
    → Worked collection least mine task a requests answers done p → WorkedIn collection least old_mine block (whose_is task) a p
worked_in collection least mine old_mine block (Caller number) a requests answers done p all known w =
    let k = known number refl in
    let part : w.part ≡ [] = (subst (λ (d : Result (Unit {0}) Memory). OnOk d ((w.part ≡ []) × (length answers ≡ length requests))) all w.whole).0 in
    subst (λ (xs : List (Step Note)). Ran collection least (old_mine number) a (lines_of (Some number) block) xs p) part
    (subst (λ (l : List Line). Ran collection least (old_mine number) a l w.part p) (sym k.1)
    (subst (λ (n : ℕ). Ran collection least n a (answered requests answers) w.part p) k.0 w.ran))
worked_in collection least mine old_mine block (Ticker rounds) a requests answers done p all known w = w.minds

-- a caller that did all of its work answered each request
answered_all : (collection : Collection) (least mine number : ℕ) (task : Task) (a : SeatView Note ChannelBase) (requests : List (ℕ × Request)) (answers : List (ℕ × Answer)) (done : Result (Unit {0}) Memory) (p : SeatView Note ChannelBase)
    → task ≡ Caller number → done ≡ Ok tt → Worked collection least mine task a requests answers done p → length answers ≡ length requests
answered_all collection least mine number task a requests answers done p is all w =
    let asked : Asked collection least mine a requests answers done p = subst (λ (t : Task). Worked collection least mine t a requests answers done p) is w in
    (subst (λ (d : Result (Unit {0}) Memory). OnOk d ((asked.part ≡ []) × (length answers ≡ length requests))) all asked.whole).1

-- ---- works and what was done

abbrev pub task_in : Job → Task
task_in job = job.task

abbrev pub task_by : Work → Task
task_by work = Caller work.caller

dones_at : (works : List Work) (jobs : List Job) (others : List Task) → map task_in jobs ≡ map task_by works ++ others → (i : ℕ) (w : Work) (job : Job) → IsAt works i w → IsAt jobs i job → IsAt (dones_of jobs) i (done_in job)
dones_at [] jobs others same i w job at_w at = absurd (some-ne-none w (sym at_w))
dones_at (x ∷ works) [] others same i w job at_w at = absurd (some-ne-none job (sym at))
dones_at (x ∷ works) (y ∷ jobs) others same zero w job at_w at =
    let task : y.task ≡ Caller x.caller = some-injective y.task (Caller x.caller) (ap (λ (l : List Task). get_elem? l 0) same) in
    subst (λ (j : Job). IsAt (told_of y.task (done_in y) ++ dones_of jobs) 0 (done_in j)) (at_one (y ∷ jobs) 0 y job refl at)
    (subst (λ (t : Task). IsAt (told_of t (done_in y) ++ dones_of jobs) 0 (done_in y)) (sym task) refl)
dones_at (x ∷ works) (y ∷ jobs) others same (suc i) w job at_w at =
    let task : y.task ≡ Caller x.caller = some-injective y.task (Caller x.caller) (ap (λ (l : List Task). get_elem? l 0) same) in
    subst (λ (t : Task). IsAt (told_of t (done_in y) ++ dones_of jobs) (suc i) (done_in job)) (sym task) (dones_at works jobs others (ap (drop 1) same) i w job at_w at)

-- what works in the background tells nothing
none_told : (jobs : List Job) → ((j : ℕ) (t : Task) → IsAt (map task_in jobs) j t → whose_is t ≡ None) → dones_of jobs ≡ []
none_told [] none = refl
none_told (job ∷ jobs) none = nothing job.task (done_in job) (none 0 job.task refl) ∙ none_told jobs (λ j. none (suc j))
  where
    nothing : (task : Task) (done : Done) → whose_is task ≡ None → told_of task done ++ dones_of jobs ≡ dones_of jobs
    nothing (Caller number) done h = let e : Some number ≡ None = h in cc
    nothing (Ticker rounds) done h = refl

dones_long : (works : List Work) (jobs : List Job) (others : List Task) → map task_in jobs ≡ map task_by works ++ others → ((j : ℕ) (t : Task) → IsAt others j t → whose_is t ≡ None) → length (dones_of jobs) ≡ length works
dones_long [] jobs others same none = ap length (none_told jobs (λ j t at. none j t (subst (λ (l : List Task). IsAt l j t) same at)))
dones_long (x ∷ works) [] others same none = absurd (let e : 0 ≡ length (task_by x ∷ (map task_by works ++ others)) = ap length same in omega arith)
dones_long (x ∷ works) (y ∷ jobs) others same none =
    let task : y.task ≡ Caller x.caller = some-injective y.task (Caller x.caller) (ap (λ (l : List Task). get_elem? l 0) same) in
    let rest : length (dones_of jobs) ≡ length works = dones_long works jobs others (ap (drop 1) same) none in
    let one : length (told_of y.task (done_in y) ++ dones_of jobs) ≡ length (done_in y ∷ dones_of jobs) = ap (λ (t : Task). length (told_of t (done_in y) ++ dones_of jobs)) task in
    one ∙ (let e : length (done_in y ∷ dones_of jobs) ≡ length (x ∷ works) = omega arith in e)

-- the work of a caller's seat
caller_place : (works : List Work) (jobs : List Job) (others : List Task) → map task_in jobs ≡ map task_by works ++ others → ((j : ℕ) (t : Task) → IsAt others j t → whose_is t ≡ None) → (i number : ℕ) (job : Job) → IsAt jobs i job → whose_is job.task ≡ Some number
    → (w : Work) × IsAt works i w × (w.caller ≡ number)
caller_place [] jobs others same none i number job at who =
    let none_here : whose_is job.task ≡ None = none i job.task (subst (λ (l : List Task). IsAt l i job.task) same (at_map task_in jobs i job at)) in let e : Some number ≡ None = sym who ∙ none_here in cc
caller_place (x ∷ works) [] others same none i number job at who = absurd (some-ne-none job (sym at))
caller_place (x ∷ works) (y ∷ jobs) others same none zero number job at who =
    let task : y.task ≡ Caller x.caller = some-injective y.task (Caller x.caller) (ap (λ (l : List Task). get_elem? l 0) same) in
    let is : y ≡ job = at_one (y ∷ jobs) 0 y job refl at in
    let e : Some x.caller ≡ Some number = sym (ap whose_is task) ∙ ap (λ (j : Job). whose_is j.task) is ∙ who in
    (x, refl, let same_caller : x.caller ≡ number = cc in same_caller)
caller_place (x ∷ works) (y ∷ jobs) others same none (suc i) number job at who = caller_place works jobs others (ap (drop 1) same) none i number job at who

-- ---- jobs that have run

-- seats were split off for plans, and their jobs have run
pub record HaveRun (front : FrontView) (least : ℕ) (s e : SeatView Note ChannelBase) (plans : List Plan) (made run : List Job) : Type 0 where
  pub out : SetOut plans s made e
  pub first : s ≡ first_seat front.table s.seen
  pub long : length run ≡ length made
  pub did : (i : ℕ) (d : Job) → i < length made → HasWorked front least (get_or made i d) (get_or run i d)

module _ (front : FrontView) (least : ℕ) (s0 s1 : SeatView Note ChannelBase) (plans : List Plan) (made run : List Job) (h : HaveRun front least s0 s1 plans made run) where
  pub did_at : (i : ℕ) (a b : Job) → IsAt made i a → IsAt run i b → HasWorked front least a b
  did_at i a b at_a at_b = subst (λ (x : Job). HasWorked front least x b) (at_get made i a a at_a) (subst (λ (x : Job). HasWorked front least (get_or made i a) x) (at_get run i b a at_b) (h.did i a (at_below made i a at_a)))

  went : Went by_of time_of front.table s0.seen s1 (map seat_in made) (map seat_in run)
  went = record {
    least = s0.least;
    out = subst (λ (u : SeatView Note ChannelBase). Parted u (map seat_in made) s1) (λ i. record (h.first i) { least = s0.least }) h.out.parted;
    many = length-map run seat_in ∙ h.long ∙ sym (length-map made seat_in);
    walks = λ i a p at_a at_p.
        let x = at_map_back seat_in made i a at_a in
        let y = at_map_back seat_in run i p at_p in
        let w = did_at i x.0 y.0 x.1 y.1 in
        let d = worked_walks front.collection least x.0.mine.0 x.0.task x.0.seat x.0.requests.items y.0.answers.items y.0.done y.0.seat w.worked in
        (d.0, subst (λ (u : SeatView Note ChannelBase). Did u d.0 p) x.2 (subst (λ (u : SeatView Note ChannelBase). Did x.0.seat d.0 u) y.2 d.1));
  }

  pub backs : All (λ (job : Job). IsBack front.table (length s1.seen) job.seat) run
  backs i d below =
      let p = at_some run i below in
      let seen : length s0.seen ≡ length s1.seen = sym (ap (λ (u : SeatView Note ChannelBase). length u.seen) h.out.parted.seat) in
      subst (λ (job : Job). IsBack front.table (length s1.seen) job.seat) (sym (at_get run i p.0 d p.1))
      (subst (λ (n : ℕ). IsBack front.table n p.0.seat) seen (back by_of time_of front.table s0.seen s1 (map seat_in made) (map seat_in run) went i p.0.seat (at_map seat_in run i p.0 p.1)))

  pub few_run : length run ≡ length plans
  few_run = h.long ∙ sym (length-map made plan_in) ∙ ap length h.out.planned

  module _ (e : SeatView Note ChannelBase) (g : Gathered by_of s1 (map seat_in run) e) where
    pub table_is : e.table ≡ front.table
    table_is = g.table ∙ ap (λ (u : SeatView Note ChannelBase). u.table) h.out.parted.seat ∙ ap (λ (u : SeatView Note ChannelBase). u.table) h.first

    pub at_rest : e.turns ≡ []
    at_rest = g.turns ∙ ap (λ (u : SeatView Note ChannelBase). u.turns) h.out.parted.seat ∙ ap (λ (u : SeatView Note ChannelBase). u.turns) h.first

    -- the condition of `close`
    pub shares : e.allowance + (length e.drawn + length e.joined) ≡ 2 ^ 40
    shares = whole by_of time_of front.table s0.seen s1 (map seat_in made) (map seat_in run) went e g

    -- what `close` tells
    pub last_seat : (new : List (List Note)) (last : ℕ) → new ≡ e.seen → ((k n : ℕ) → count n (e.number ∷ e.joined) ≡ 0 → of by_of n (at_slot e.seen k) ≡ of by_of n (at_slot e.origin k))
        → front.table.first ≤ last → ((x : ℕ) → Among x e.drawn → x < last) → ((k x : ℕ) → Among x (times time_of (at_slot e.seen k)) → x < last) → last ≤ 2 ^ 40 + max front.table.first (2 ^ 63) → IsLast by_of time_of e new last
    last_seat new last a b c d f m = record {
      journals = a;
      whose = b;
      first = subst (λ (t : Table ChannelBase). t.first ≤ last) (sym table_is) c;
      drawn = d;
      times = f;
      most = subst (λ (t : Table ChannelBase). last ≤ 2 ^ 40 + max t.first (2 ^ 63)) (sym table_is) m;
    }

    pub ended : (new : List (List Note)) (last : ℕ) → IsLast by_of time_of e new last → Closed by_of time_of front.table.first last s0.seen new (map seat_in made) (map seat_in run)
    ended new last l = closed by_of time_of front.table s0.seen s1 (map seat_in made) (map seat_in run) went e g new last l

  -- ---- works, and what was done of them

  module _ (works : List Work) (w : Planned works plans) where
    abbrev others : List Task
    others = map (λ (plan : Plan). plan.task) w.others

    tasks : map task_in made ≡ map task_by works ++ others
    tasks = sym (map_twice plan_in (λ (plan : Plan). plan.task) made) ∙ ap (map (λ (plan : Plan). plan.task)) (h.out.planned ∙ w.are) ∙ map-append (λ (plan : Plan). plan.task) (map plan_by works) w.others
        ∙ ap (λ (l : List Task). l ++ others) (map_twice plan_by (λ (plan : Plan). plan.task) works)

    none : (j : ℕ) (t : Task) → IsAt others j t → whose_is t ≡ None
    none j t at =
        let p = at_map_back (λ (plan : Plan). plan.task) w.others j t at in
        let idle : IsIdle p.0 = subst IsIdle (at_get w.others j p.0 p.0 p.1) (w.idle j p.0 (at_below w.others j p.0 p.1)) in
        sym (ap whose_is p.2) ∙ idle

    run_tasks : map task_in run ≡ map task_by works ++ others
    run_tasks = same_lists (map task_in run) (map task_in made) (length-map run task_in ∙ h.long ∙ sym (length-map made task_in))
        (λ i t u at_t at_u.
        let y = at_map_back task_in run i t at_t in
        let x = at_map_back task_in made i u at_u in
        sym y.2 ∙ (did_at i x.0 y.0 x.1 y.1).task ∙ x.2)
        ∙ tasks

    -- a work, the job that was made for it, and what has become of it
    record Found (i : ℕ) (work : Work) : Type 0 where
      pub a : Job
      pub b : Job
      pub was : IsAt made i a
      pub is : IsAt run i b
      pub plan : plan_in a ≡ plan_by work
      pub worked : HasWorked front least a b
      pub told : IsAt (dones_of run) i (done_in b)

    found : (i : ℕ) (work : Work) → IsAt works i work → Found i work
    found i work at =
        let in_plans : IsAt (map plan_in made) i (plan_by work) = subst (λ (l : List Plan). IsAt l i (plan_by work)) (sym (h.out.planned ∙ w.are)) (at_longer (map plan_by works) w.others i (plan_by work) (at_map plan_by works i work at)) in
        let x = at_map_back plan_in made i (plan_by work) in_plans in
        let long : length run ≡ length made = h.long in
        let low : i < length made = at_below made i x.0 x.1 in
        let y = at_some run i (omega arith) in
        record { a = x.0; b = y.0; was = x.1; is = y.1; plan = x.2; worked = did_at i x.0 y.0 x.1 y.1; told = dones_at works run others run_tasks i work y.0 at y.1 }

    task_of : (i : ℕ) (work : Work) (f : Found i work) → f.a.task ≡ Caller work.caller
    task_of i work f = ap (λ (plan : Plan). plan.task) f.plan

    done_at : (i : ℕ) (work : Work) (f : Found i work) → IsDoneOf work (done_in f.b)
    done_at i work f = record {
      caller_is = ap caller_number (f.worked.task ∙ task_of i work f);
      mine_is = subst (λ (plan : Plan). f.b.mine.0 ≡ write_behind plan.mine.0 (answered plan.requests.items f.b.answers.items)) f.plan f.worked.mine;
      numbers = subst (λ (plan : Plan). map (λ (answer : ℕ × Answer). answer.0) f.b.answers.items ≡ map (λ (line : Line). line.number) (answered plan.requests.items f.b.answers.items)) f.plan f.worked.numbers;
    }

    pub done_are : AreDone works (dones_of run)
    done_are = record {
      many = dones_long works run others run_tasks none;
      each = λ i work d at_w at_d. let f : Found i work = found i work at_w in subst (IsDoneOf work) (at_one (dones_of run) i (done_in f.b) d f.told at_d) (done_at i work f);
    }

    module _ (all : All (λ (job : Job). job.done ≡ Ok tt) run) where
      whole_at : (i : ℕ) (job : Job) → IsAt run i job → job.done ≡ Ok tt
      whole_at i job at = subst (λ (j : Job). j.done ≡ Ok tt) (at_get run i job job at) (all i job (at_below run i job at))

      pub answered_are : AreAnswered works (dones_of run)
      answered_are i work d at_w at_d =
          let f : Found i work = found i work at_w in
          let long : length f.b.answers.items ≡ length f.a.requests.items =
          answered_all front.collection least f.a.mine.0 work.caller f.a.task f.a.seat f.a.requests.items f.b.answers.items f.b.done f.b.seat (task_of i work f) (whole_at i f.b f.is) f.worked.worked in
          subst (λ (x : Done). length x.answers.items ≡ length work.requests.items) (at_one (dones_of run) i (done_in f.b) d f.told at_d)
          (long ∙ ap (λ (plan : Plan). length plan.requests.items) f.plan)

      -- ---- the phase

      module _ (e : SeatView Note ChannelBase) (g : Gathered by_of s1 (map seat_in run) e) (new : List (List Note)) (last : ℕ) (l : IsLast by_of time_of e new last) (old : Rest) (floor : ℕ) (block : List Line)
          (lines : AreLines works (dones_of run) block) (rest : IsRestOf old front.table.first floor s0.seen works) (kept : AreKept front.collection (ran_rest old last new block)) where
        abbrev whose_in : Job → Option ℕ
        whose_in job = whose_is job.task

        of_caller : (i number : ℕ) (x y : Job) → IsAt made i x → IsAt run i y → whose_is x.task ≡ Some number → (x.mine.0 ≡ old.mine number) × (lines_of (Some number) block ≡ answered x.requests.items y.answers.items)
        of_caller i number x y at_x at_y who =
            let at = caller_place works made others tasks none i number x at_x who in
            let f : Found i at.0 = found i at.0 at.1 in
            let same_x : f.a ≡ x = at_one made i f.a x f.was at_x in
            let same_y : f.b ≡ y = at_one run i f.b y f.is at_y in
            let mine_is : f.a.mine.0 ≡ old.mine at.0.caller = ap (λ (plan : Plan). plan.mine.0) f.plan ∙ rest.mine_is i at.0 at.1 in
            let block_is : lines_of (Some at.0.caller) block ≡ answered f.a.requests.items f.b.answers.items =
            lines.each i at.0 (done_in f.b) at.1 f.told ∙ sym (ap (λ (plan : Plan). answered plan.requests.items f.b.answers.items) f.plan) in (
              sym (ap (λ (j : Job). j.mine.0) same_x) ∙ mine_is ∙ ap old.mine at.2,
              sym (ap (λ (n : ℕ). lines_of (Some n) block) at.2) ∙ block_is ∙ ap (λ (j : Job). answered j.requests.items f.b.answers.items) same_x ∙ ap (λ (j : Job). answered x.requests.items j.answers.items) same_y,
            )

        worked_at : (i : ℕ) (who : Option ℕ) (a p : SeatView Note ChannelBase) → IsAt (map whose_in made) i who → IsAt (map seat_in made) i a → IsAt (map seat_in run) i p → WorkedIn front.collection least old.mine block who a p
        worked_at i who a p at_w at_a at_p =
            let v = at_map_back whose_in made i who at_w in
            let x = at_map_back seat_in made i a at_a in
            let y = at_map_back seat_in run i p at_p in
            let is : whose_is x.0.task ≡ who = sym (ap whose_in (at_one made i v.0 x.0 v.1 x.1)) ∙ v.2 in
            let w = did_at i x.0 y.0 x.1 y.1 in
            subst (λ (u : Option ℕ). WorkedIn front.collection least old.mine block u a p) is
            (subst (λ (u : SeatView Note ChannelBase). WorkedIn front.collection least old.mine block (whose_is x.0.task) u p) x.2
            (subst (λ (u : SeatView Note ChannelBase). WorkedIn front.collection least old.mine block (whose_is x.0.task) x.0.seat u) y.2
            (worked_in front.collection least x.0.mine.0 old.mine block x.0.task x.0.seat x.0.requests.items y.0.answers.items y.0.done y.0.seat (whole_at i y.0 y.1) (λ number who'. of_caller i number x.0 y.0 x.1 y.1 who') w.worked)))

        whose_are : map whose_in made ≡ map whose_work works ++ map whose_is others
        whose_are = sym (map_twice task_in whose_is made) ∙ ap (map whose_is) tasks ∙ map-append whose_is (map task_by works) others ∙ ap (λ (m : List (Option ℕ)). m ++ map whose_is others) (map_twice task_by whose_is works)

        has_seat : (caller : Option ℕ) → HasSeat (map whose_work works) caller → HasSeat (map whose_in made) caller
        has_seat None has = absurd has
        has_seat (Some number) has = subst (IsIn (Some number)) (sym whose_are) (in_left (Some number) (map whose_work works) (map whose_is others) has)

        line_of_seat : (line : Line) → IsLineOf (map whose_work works) line → IsLineOf (map whose_in made) line
        line_of_seat line is = ⊎_elim (λ (r : IsRefused line.asked line.answer). inl r) (λ (has : HasSeat (map whose_work works) (caller_of line.asked)). inr (has_seat (caller_of line.asked) has)) is

        pub phase : IsPhase ChannelBase front.collection least old (ran_rest old last new block) block
        phase = record {
          whose = map whose_in made;
          starts = map seat_in made;
          ends = map seat_in run;
          closed = subst (λ (n : ℕ). Closed by_of time_of n last old.journals new (map seat_in made) (map seat_in run)) (sym rest.clock_is)
              (subst (λ (js : List (List Note)). Closed by_of time_of front.table.first last js new (map seat_in made) (map seat_in run)) (sym rest.journals_are) (ended e g new last l));
          seats = (length-map made whose_in ∙ sym h.long ∙ sym (length-map run seat_in), length-map made seat_in ∙ sym h.long ∙ sym (length-map run seat_in));
          worked = worked_at;
          lines = each_implied (IsLineOf (map whose_work works)) (IsLineOf (map whose_in made)) line_of_seat block lines.lines;
          mine = λ caller. refl;
          met = refl;
          floor = refl;
          kept = kept;
        }
