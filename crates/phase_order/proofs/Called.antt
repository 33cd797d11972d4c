-- What a caller was told before each of its lines, from what its seat had seen.
use Rattle.std.proofs.Common.{◌≡◌, ℕ, zero, suc, ◌+◌, ◌<◌, ◌≤◌, Bool, true, false, Option, Some, None, List, [], ◌∷◌, ◌++◌, length, map, inl, inr, refl, sym, ap, subst, ◌∙◌, arith}
use Rattle.std.specs.Prelude.{IfSome, if◌then◌else◌, nat_eq}
use Rattle.std.specs.List.{AllByRecursion as Each}
use Rattle.std.proofs.Common.{eqb-true}
use Rattle.row_types.specs.declared.rows.Key.{Key}
use Rattle.row_types.specs.declared.hits.Hit.{Hit}
use Rattle.hybrid_time.specs.declared.times.Timestamp.{Timestamp}
use Rattle.hybrid_time.specs.declared.levels.Level.{Level}
use Rattle.hybrid_time.specs.Levels.{guarantee_of}
use Rattle.log_model.specs.declared.queries.Query.{Query}
use Rattle.log_model.proofs.LogLaws.{each-append, each_implied}
use Rattle.coarse_lists.specs.declared.collections.Collection.{Collection}
use Rattle.answer_lines.specs.declared.answers.Named.{Named}
use Rattle.answer_lines.specs.declared.answers.Answer.{Answer}
use Rattle.answer_lines.specs.declared.answers.Answer.TheVariants as answers
use Rattle.request_lines.specs.declared.requests.Ask.{Ask}
use Rattle.request_lines.specs.declared.requests.Ask.TheVariants as asks
use Rattle.legal_output.specs.Lines.{Asked, Given, Line, channel_of, reading_in, written_of, late_of, drawn, stamps}
use Rattle.legal_output.specs.Printed.{only_at, all_stamps, all_ticks_shown, ticks_shown, greatest, write_behind, write_or}
use Rattle.legal_output.specs.Legal.{AtEach, HasLevel, ReadsAt, Rising, InOrder, IsNeeded, IsPending, PendingRightly}
use Rattle.legal_output.specs.Phases.{past_in_phase, Called}
use Rattle.legal_output.proofs.Grown.{flat_map-push, greatest-le, greatest-lt, write_behind-push}
use Rattle.journal_model.specs.declared.notes.Note.{Note}
use Rattle.journal_model.specs.Notes.{tick_of}
use Rattle.journal_model.specs.Journals.{IsJournal}
use Rattle.journal_model.specs.Lists.{IsIn}
use Rattle.journal_model.proofs.ListLaws.{all_from}
use Rattle.turn_facts.specs.Counts.{count, Among}
use Rattle.turn_facts.specs.Prefixes.{StartsWith, IsAt}
use Rattle.turn_facts.proofs.Prefixes.{starts_trans, starts_longer}
use Rattle.turn_facts.proofs.Places.{at_map, at_map_back, at_last, at_some}
use Rattle.turn_table.specs.Knowledge.{at_slot}
use Rattle.turn_table.specs.Seats.{SeatView}
use Rattle.seat_walks.specs.Walks.{Turned, Step, Draw, Lift, Took, all_drawn, IsAbove, Walked}
use Rattle.seat_walks.proofs.Walking.{walked}
use Rattle.call_model.specs.Turns.{by_of, time_of}
use Rattle.call_model.specs.Calls.{tick_left, AreTicks, least_tick, FindsHits, FindsRow, Pends, IsCall}
use Rattle.call_model.specs.Walks.{Did, Serves, IsServed}
use Rattle.phase_order.proofs.Places.{in_at, at_in}
use Rattle.phase_order.proofs.Steps.{among_here, among_left, WasTaken, turn_in}
use Rattle.phase_order.proofs.Drawn.{drawn_few, drawn_rises}
use Rattle.phase_order.proofs.Served.{steps_of, served_did, IsUnder, above_earlier, still_under, drawn_under, written_under}
use Rattle.phase_order.proofs.Ticks.{journal_starts, tick_mono, ticks_at, looks_at, least_at, IsLeast, least_is}
use Rattle.phase_order.proofs.Stamps.{in_among, tick_under, guarantee_under}

-- each number that the steps draw is one of those of the answer's call
each_drawn : (P : ℕ → Type 0) (l m : List ℕ) → ((x : ℕ) → count x l ≤ count x m) → ((x : ℕ) → Among x m → P x) → Each P l
each_drawn P l m few f = all_from P l (λ x h. f x (let a : Among x l = in_among x l h in let c : count x l ≤ count x m = few x in omega arith))

only_each : (P : ℕ → Type 0) (ns : List ℕ) (k : ℕ) → ((n : ℕ) → IsAt ns k n → P n) → Each P (only_at ns k)
only_each P [] k f = tt
only_each P (n ∷ ns) zero f = (f n refl, tt)
only_each P (n ∷ ns) (suc k) f = only_each P ns k f

shown_if : (P : ℕ → Type 0) (n : ℕ) (b : Bool) → (b ≡ true → P n) → Each P (if b then n ∷ [] else [])
shown_if P n true f = (f refl, tt)
shown_if P n false f = tt

module _ (collection : Collection) (least met written : ℕ) {B : Type 0} where
  -- what a seat knows of its caller's lines in this phase
  pub record Knows (s : SeatView Note B) (earlier : List Line) (mine : ℕ) : Type 0 where
    pub write : mine ≡ write_behind written earlier
    pub above : (x : ℕ) → IsAbove time_of s x → met < x
    pub stamps : (x : ℕ) → IsAbove time_of s x → Each (λ n. n < x) (all_stamps earlier)
    pub reached : (k : ℕ) → k < collection.channels → met ≤ tick_of (at_slot s.seen k)
    pub ticks : (k : ℕ) → k < collection.channels → Each (λ n. n ≤ tick_of (at_slot s.seen k)) (all_ticks_shown collection.channels k earlier)
    pub low : IsUnder collection least s mine

  -- the tick that the caller knows is not above the one that its seat has seen
  known_le : (s : SeatView Note B) (earlier : List Line) (mine : ℕ) → Knows s earlier mine → (k : ℕ) → k < collection.channels
      → (past_in_phase collection.channels met written earlier).known_tick k ≤ tick_of (at_slot s.seen k)
  known_le s earlier mine knows k below =
      let g : greatest (all_ticks_shown collection.channels k earlier) ≤ tick_of (at_slot s.seen k) = greatest-le (tick_of (at_slot s.seen k)) (all_ticks_shown collection.channels k earlier) (knows.ticks k below) in
      let m : met ≤ tick_of (at_slot s.seen k) = knows.reached k below in omega arith

  module _ (s m : SeatView Note B) (moment : ℕ) (steps : List (Step Note)) (did : Did s (Lift moment ∷ steps) m) (journals : (k : ℕ) → IsJournal (at_slot m.seen k)) (long : length s.seen ≡ collection.channels)
      (earlier : List Line) (mine : ℕ) (knows : Knows s earlier mine) where
    walk : Walked by_of time_of s (Lift moment ∷ steps) m
    walk = walked by_of time_of s (Lift moment ∷ steps) m did

    -- the tick that a turn left lies between what the seat had seen and what it has seen
    record Between (t : Turned Note) : Type 0 where
      below : t.slot < collection.channels
      before : tick_of (at_slot s.seen t.slot) ≤ tick_left t
      after : tick_left t ≤ tick_of (at_slot m.seen t.slot)

    between : (t : Turned Note) → IsIn (Took t) steps → Between t
    between t h =
        let r = in_at (Took t) (Lift moment ∷ steps) (inr h) in
        let left : StartsWith (at_slot m.seen t.slot) (t.before ++ t.notes) = walk.turns r.0 t r.1 in
        let taken : WasTaken time_of (length s.seen) t = turn_in by_of time_of s (Lift moment ∷ steps) m did t (inr h) in
        record {
          below = let b : t.slot < length s.seen = taken.slot in omega arith;
          before = tick_mono (starts_trans (starts_longer t.before t.notes) (walk.behind r.0 t r.1)) (journal_starts left (journals t.slot));
          after = tick_mono left (journals t.slot);
        }

    known_before : (t : Turned Note) → IsIn (Took t) steps → (past_in_phase collection.channels met written earlier).known_tick t.slot ≤ tick_left t
    known_before t h =
        let b : Between t = between t h in
        let k : (past_in_phase collection.channels met written earlier).known_tick t.slot ≤ tick_of (at_slot s.seen t.slot) = known_le s earlier mine knows t.slot b.below in
        let c : tick_of (at_slot s.seen t.slot) ≤ tick_left t = b.before in omega arith

    taken_look : (now : ℕ) (turns : List (Turned Note)) (i : ℕ) (t : Turned Note) → steps ≡ Draw now ∷ map Took turns → IsAt turns i t → IsIn (Took t) steps
    taken_look now turns i t is at = subst (IsIn (Took t)) (sym is) (inr (at_in (Took t) (map Took turns) i (at_map Took turns i t at)))

    -- ---- levels

    hits_level : (by line : ℕ) (query : Query) (level : Level) (wait : Bool) (now guarantee ts : Timestamp) (hits : List Hit) → 0 < collection.channels
        → FindsHits collection by line mine query level wait now.0 guarantee.0 ts.0 hits steps
        → ReadsAt collection.channels (past_in_phase collection.channels met written earlier) (answers.Hits now guarantee ts hits) (record { level = level; wait = wait; channel = None })
    hits_level by line query level wait now guarantee ts hits one c =
        let l : IsLeast c.turns (least_tick c.turns) = least_is c.turns (let n : length c.turns ≡ collection.channels = c.all in omega arith) in
        let at = looks_at by line guarantee.0 wait 0 c.turns l.place l.turn c.looks l.there in
        let h : IsIn (Took l.turn) steps = taken_look now.0 c.turns l.place l.turn c.only l.there in
        let same : tick_left l.turn ≡ ts.0 = l.same ∙ sym c.least in
        let known : (past_in_phase collection.channels met written earlier).known_tick l.turn.slot ≤ tick_left l.turn = known_before l.turn h in
        record {
          guarantee = c.guaranteed ∙ ap (guarantee_of level now.0) knows.write;
          fresh = record { guaranteed = let g : guarantee.0 ≤ tick_left l.turn = at.1 in omega arith; known = (l.turn.slot, (between l.turn h).below, omega arith) };
        }

    row_level : (by line : ℕ) (key : Key) (level : Level) (wait : Bool) (now guarantee ts : Timestamp) (row : Option Named)
        → FindsRow collection by line mine key level wait now.0 guarantee.0 ts.0 row steps
        → ReadsAt collection.channels (past_in_phase collection.channels met written earlier) (answers.Found now guarantee ts row) (record { level = level; wait = wait; channel = Some (channel_of collection.channels key.0) })
    row_level by line key level wait now guarantee ts row c =
        let h : IsIn (Took c.turn) steps = subst (IsIn (Took c.turn)) (sym c.only) (inr (inl refl)) in
        let known : (past_in_phase collection.channels met written earlier).known_tick c.turn.slot ≤ tick_left c.turn = known_before c.turn h in
        let home : (past_in_phase collection.channels met written earlier).known_tick (channel_of collection.channels key.0) ≤ tick_left c.turn =
        subst (λ (k : ℕ). (past_in_phase collection.channels met written earlier).known_tick k ≤ tick_left c.turn) c.look.0 known in
        let same : ts.0 ≡ tick_left c.turn = c.tick in
        record {
          guarantee = c.guaranteed ∙ ap (guarantee_of level now.0) knows.write;
          fresh = record { guaranteed = let g : guarantee.0 ≤ tick_left c.turn = c.reached in omega arith; known = omega arith };
        }

    level_kept : (by line : ℕ) (ask : Ask) (answer : Answer) → 0 < collection.channels → IsCall collection by line mine ask answer steps
        → IfSome (reading_in collection.channels ask) (ReadsAt collection.channels (past_in_phase collection.channels met written earlier) answer)
    level_kept by line (asks.Search query level wait) (answers.Hits now guarantee ts hits) one c = hits_level by line query level wait now guarantee ts hits one c
    level_kept by line (asks.Search query level wait) (answers.Pending now guarantee channel tick) one c = record { guarantee = c.pends.guaranteed ∙ ap (guarantee_of level now.0) knows.write; fresh = tt }
    level_kept by line (asks.Get key level wait) (answers.Found now guarantee ts row) one c = row_level by line key level wait now guarantee ts row c
    level_kept by line (asks.Get key level wait) (answers.Pending now guarantee channel tick) one c = record { guarantee = c.pends.guaranteed ∙ ap (guarantee_of level now.0) knows.write; fresh = tt }
    level_kept by line (asks.Write write) answer one c = tt
    level_kept by line asks.Tick answer one c = tt
    level_kept by line asks.Seal answer one c = tt
    level_kept by line asks.Meet answer one c = tt
    level_kept by line ask answer one c = absurd c

    -- ---- pending reads

    pends : (by line : ℕ) (level : Level) (wait : Bool) (only : Option ℕ) (now guarantee tick : Timestamp) (channel : ℕ) (t : Turned Note) → IsIn (Took t) steps
        → Pends by line mine level wait now.0 guarantee.0 channel tick.0 t → IsNeeded collection.channels only channel
        → IsPending collection.channels (past_in_phase collection.channels met written earlier) (record { level = level; wait = wait; channel = only }) (record { guarantee = guarantee.0; channel = channel; tick = tick.0 })
    pends by line level wait only now guarantee tick channel t h p needed =
        let known : (past_in_phase collection.channels met written earlier).known_tick channel ≤ tick_left t =
        subst (λ (k : ℕ). (past_in_phase collection.channels met written earlier).known_tick k ≤ tick_left t) p.look.0 (known_before t h) in
        let same : tick.0 ≡ tick_left t = p.told in
        record { alone = p.alone; needed = needed; known = omega arith; below = p.below }

    pending : (by line : ℕ) (ask : Ask) (answer : Answer) → IsCall collection by line mine ask answer steps
        → IfSome (reading_in collection.channels ask) (λ reading. IfSome (late_of answer) (IsPending collection.channels (past_in_phase collection.channels met written earlier) reading))
    pending by line (asks.Search query level wait) (answers.Hits now guarantee ts hits) c = tt
    pending by line (asks.Search query level wait) (answers.Pending now guarantee channel tick) c =
        pends by line level wait None now guarantee tick channel c.last
        (taken_look now.0 (c.front ++ c.last ∷ []) (length c.front) c.last c.only (at_last c.front c.last)) c.pends c.within
    pending by line (asks.Get key level wait) (answers.Found now guarantee ts row) c = tt
    pending by line (asks.Get key level wait) (answers.Pending now guarantee channel tick) c =
        pends by line level wait (Some (channel_of collection.channels key.0)) now guarantee tick channel c.turn (subst (IsIn (Took c.turn)) (sym c.only) (inr (inl refl))) c.pends (sym c.home)
    pending by line (asks.Write write) answer c = tt
    pending by line asks.Tick answer c = tt
    pending by line asks.Seal answer c = tt
    pending by line asks.Meet answer c = tt
    pending by line ask answer c = absurd c

    -- ---- order

    order : (by line : ℕ) (ask : Ask) (answer : Answer) → IsCall collection by line mine ask answer steps → Rising (drawn answer) → InOrder (past_in_phase collection.channels met written earlier) answer
    order by line ask answer c rises = record {
      rising = rises;
      after_meet = each_drawn (λ n. met < n) (drawn answer) (all_drawn steps) (drawn_few collection by line mine ask answer steps c) (λ x h. knows.above x (walk.above x h));
      after_caller = each_drawn (λ n. greatest (all_stamps earlier) < n) (drawn answer) (all_drawn steps) (drawn_few collection by line mine ask answer steps c)
          (λ x h. greatest-lt x (all_stamps earlier) (let b : met < x = knows.above x (walk.above x h) in omega arith) (knows.stamps x (walk.above x h)));
    }

    -- ---- what the caller is told by this line

    ticks_of_turns : (by line : ℕ) (k : ℕ) (stamps : List Timestamp) (turns : List (Turned Note)) → steps ≡ map Took turns → AreTicks by line 0 turns stamps
        → Each (λ n. n ≤ tick_of (at_slot m.seen k)) (only_at (map (λ tick. tick.0) stamps) k)
    ticks_of_turns by line k stamps turns only are = only_each (λ n. n ≤ tick_of (at_slot m.seen k)) (map (λ tick. tick.0) stamps) k (λ n at.
        let r = at_map_back (λ (tick : Timestamp). tick.0) stamps k n at in
        let q = ticks_at by line 0 turns stamps k r.0 are r.1 in
        let h : IsIn (Took q.0) steps = subst (IsIn (Took q.0)) (sym only) (at_in (Took q.0) (map Took turns) k (at_map Took turns k q.0 q.1)) in
        let b : Between q.0 = between q.0 h in
        let slot : q.0.slot ≡ k = (let s : q.0.slot ≡ 0 + k = q.2 in omega arith) in
        let high : tick_left q.0 ≤ tick_of (at_slot m.seen k) = subst (λ (j : ℕ). tick_left q.0 ≤ tick_of (at_slot m.seen j)) slot b.after in
        let told : tick_left q.0 ≡ r.0.0 = q.3 in let same : r.0.0 ≡ n = r.2 in omega arith)

    hits_ticks : (by line : ℕ) (query : Query) (level : Level) (wait : Bool) (now guarantee ts : Timestamp) (hits : List Hit) (k : ℕ) → k < collection.channels
        → FindsHits collection by line mine query level wait now.0 guarantee.0 ts.0 hits steps → ts.0 ≤ tick_of (at_slot m.seen k)
    hits_ticks by line query level wait now guarantee ts hits k below c =
        let r = at_some c.turns k (let n : length c.turns ≡ collection.channels = c.all in omega arith) in
        let at = looks_at by line guarantee.0 wait 0 c.turns k r.0 c.looks r.1 in
        let b : Between r.0 = between r.0 (taken_look now.0 c.turns k r.0 c.only r.1) in
        let slot : r.0.slot ≡ k = (let s : r.0.slot ≡ 0 + k = at.0 in omega arith) in
        let high : tick_left r.0 ≤ tick_of (at_slot m.seen k) = subst (λ (j : ℕ). tick_left r.0 ≤ tick_of (at_slot m.seen j)) slot b.after in
        let low : least_tick c.turns ≤ tick_left r.0 = least_at c.turns k r.0 r.1 in
        let same : ts.0 ≡ least_tick c.turns = c.least in omega arith

    tick_of_turn : (t : Turned Note) (k channel : ℕ) → IsIn (Took t) steps → t.slot ≡ channel → nat_eq channel k ≡ true → (n : ℕ) → n ≡ tick_left t → n ≤ tick_of (at_slot m.seen k)
    tick_of_turn t k channel h slot same n is =
        let b : Between t = between t h in
        let at : t.slot ≡ k = slot ∙ eqb-true channel k same in
        let high : tick_left t ≤ tick_of (at_slot m.seen k) = subst (λ (j : ℕ). tick_left t ≤ tick_of (at_slot m.seen j)) at b.after in omega arith

    told_ticks : (caller by line : ℕ) (ask : Ask) (answer : Answer) (k : ℕ) → k < collection.channels → IsCall collection by line mine ask answer steps
        → Each (λ n. n ≤ tick_of (at_slot m.seen k)) (ticks_shown collection.channels k (Given (record { caller = caller; what = ask })) answer)
    told_ticks caller by line (asks.Write write) (answers.Wrote reply) k below c = tt
    told_ticks caller by line asks.Tick (answers.Ticked stamps) k below c = ticks_of_turns by line k stamps c.turns c.only c.ticks
    told_ticks caller by line asks.Seal (answers.Sealed seals) k below c = tt
    told_ticks caller by line (asks.Search query level wait) (answers.Hits now guarantee ts hits) k below c = (hits_ticks by line query level wait now guarantee ts hits k below c, tt)
    told_ticks caller by line (asks.Search query level wait) (answers.Pending now guarantee channel tick) k below c =
        each-append (λ n. n ≤ tick_of (at_slot m.seen k)) (if nat_eq channel k then tick.0 ∷ [] else []) []
        (shown_if (λ n. n ≤ tick_of (at_slot m.seen k)) tick.0 (nat_eq channel k)
        (λ same. tick_of_turn c.last k channel (taken_look now.0 (c.front ++ c.last ∷ []) (length c.front) c.last c.only (at_last c.front c.last)) c.pends.look.0 same tick.0 c.pends.told)) tt
    told_ticks caller by line (asks.Get key level wait) (answers.Found now guarantee ts row) k below c =
        let first : List ℕ = if nat_eq (channel_of collection.channels key.0) k then ts.0 ∷ [] else [] in
        each-append (λ n. n ≤ tick_of (at_slot m.seen k)) (first ++ []) []
        (each-append (λ n. n ≤ tick_of (at_slot m.seen k)) first []
        (shown_if (λ n. n ≤ tick_of (at_slot m.seen k)) ts.0 (nat_eq (channel_of collection.channels key.0) k)
        (λ same. tick_of_turn c.turn k (channel_of collection.channels key.0) (subst (IsIn (Took c.turn)) (sym c.only) (inr (inl refl))) c.look.0 same ts.0 c.tick)) tt) tt
    told_ticks caller by line (asks.Get key level wait) (answers.Pending now guarantee channel tick) k below c =
        each-append (λ n. n ≤ tick_of (at_slot m.seen k)) (if nat_eq channel k then tick.0 ∷ [] else []) []
        (shown_if (λ n. n ≤ tick_of (at_slot m.seen k)) tick.0 (nat_eq channel k)
        (λ same. tick_of_turn c.turn k channel (subst (IsIn (Took c.turn)) (sym c.only) (inr (inl refl))) c.pends.look.0 same tick.0 c.pends.told)) tt
    told_ticks caller by line ask answer k below c = absurd c

    -- each timestamp of the answer is below whatever is above the seat behind the line
    abbrev Under : ℕ → Type 0
    Under n = IsUnder collection least m n

    drawn_stamps : (by line : ℕ) (ask : Ask) (answer : Answer) → IsCall collection by line mine ask answer steps → Each Under (drawn answer)
    drawn_stamps by line ask answer c = each_drawn Under (drawn answer) (all_drawn steps) (drawn_few collection by line mine ask answer steps c) (λ x h. drawn_under collection least s (Lift moment ∷ steps) m did x h)

    look_under : (t : Turned Note) → IsIn (Took t) steps → Under (tick_left t)
    look_under t h x above =
        let r = in_at (Took t) (Lift moment ∷ steps) (inr h) in
        tick_under (at_slot m.seen t.slot) (t.before ++ t.notes) x (walk.turns r.0 t r.1) (above.seen t.slot)
        (let b : met < x = knows.above x (above_earlier collection least s (Lift moment ∷ steps) m did x above) in omega arith)

    read_stamps : (level : Level) (now guarantee : ℕ) (t : Turned Note) (ts : ℕ) → Among now (all_drawn steps) → guarantee ≡ guarantee_of level now mine → IsIn (Took t) steps → ts ≤ tick_left t
        → Each Under (now ∷ guarantee ∷ ts ∷ [])
    read_stamps level now guarantee t ts drew is h low = (
      drawn_under collection least s (Lift moment ∷ steps) m did now drew,
      (
        (λ x above. guarantee_under level now mine guarantee x is (drawn_under collection least s (Lift moment ∷ steps) m did now drew x above) (still_under collection least s (Lift moment ∷ steps) m did mine knows.low x above)),
        ((λ x above. let u : tick_left t < x = look_under t h x above in omega arith), tt),
      ),
    )

    first_drawn : (now : ℕ) (rest : List (Step Note)) → steps ≡ Draw now ∷ rest → Among now (all_drawn steps)
    first_drawn now rest is = subst (λ (l : List (Step Note)). Among now (all_drawn l)) (sym is) (among_left now (now ∷ []) (all_drawn rest) (among_here now []))

    told_stamps : (by line : ℕ) (ask : Ask) (answer : Answer) → 0 < collection.channels → IsCall collection by line mine ask answer steps → Each Under (stamps answer)
    told_stamps by line (asks.Write write) (answers.Wrote reply) one c = drawn_stamps by line (asks.Write write) (answers.Wrote reply) c
    told_stamps by line asks.Tick (answers.Ticked ticks) one c = drawn_stamps by line asks.Tick (answers.Ticked ticks) c
    told_stamps by line asks.Seal (answers.Sealed seals) one c = drawn_stamps by line asks.Seal (answers.Sealed seals) c
    told_stamps by line (asks.Search query level wait) (answers.Hits now guarantee ts hits) one c =
        let l : IsLeast c.turns (least_tick c.turns) = least_is c.turns (let n : length c.turns ≡ collection.channels = c.all in omega arith) in
        let same : tick_left l.turn ≡ ts.0 = l.same ∙ sym c.least in
        read_stamps level now.0 guarantee.0 l.turn ts.0 (first_drawn now.0 (map Took c.turns) c.only) c.guaranteed (taken_look now.0 c.turns l.place l.turn c.only l.there) (omega arith)
    told_stamps by line (asks.Search query level wait) (answers.Pending now guarantee channel tick) one c =
        let same : tick.0 ≡ tick_left c.last = c.pends.told in
        read_stamps level now.0 guarantee.0 c.last tick.0 (first_drawn now.0 (map Took (c.front ++ c.last ∷ [])) c.only) c.pends.guaranteed
        (taken_look now.0 (c.front ++ c.last ∷ []) (length c.front) c.last c.only (at_last c.front c.last)) (omega arith)
    told_stamps by line (asks.Get key level wait) (answers.Found now guarantee ts row) one c =
        let same : ts.0 ≡ tick_left c.turn = c.tick in
        read_stamps level now.0 guarantee.0 c.turn ts.0 (first_drawn now.0 (Took c.turn ∷ []) c.only) c.guaranteed (subst (IsIn (Took c.turn)) (sym c.only) (inr (inl refl))) (omega arith)
    told_stamps by line (asks.Get key level wait) (answers.Pending now guarantee channel tick) one c =
        let same : tick.0 ≡ tick_left c.turn = c.pends.told in
        read_stamps level now.0 guarantee.0 c.turn tick.0 (first_drawn now.0 (Took c.turn ∷ []) c.only) c.pends.guaranteed (subst (IsIn (Took c.turn)) (sym c.only) (inr (inl refl))) (omega arith)
    told_stamps by line ask answer one c = absurd c

  -- ---- line after line

  line_called : (s m : SeatView Note B) (line : Line) (earlier : List Line) (mine : ℕ) → Serves collection least mine s line m → ((k : ℕ) → IsJournal (at_slot m.seen k)) → length s.seen ≡ collection.channels → 0 < collection.channels
      → Knows s earlier mine → Called collection.channels met written earlier line
  line_called s m line earlier mine v journals long one knows =
      let w : Walked by_of time_of s (Lift v.moment ∷ v.steps) m = walked by_of time_of s (Lift v.moment ∷ v.steps) m v.did in
      record {
        level = subst (λ (asked : Asked). HasLevel collection.channels (past_in_phase collection.channels met written earlier) asked line.answer) (sym v.asked)
            (level_kept s m v.moment v.steps v.did journals long earlier mine knows s.number line.number v.request.what line.answer one v.call);
        order = order s m v.moment v.steps v.did journals long earlier mine knows s.number line.number v.request.what line.answer v.call
            (drawn_rises collection s.number line.number mine v.request.what line.answer v.steps v.call w.rises);
        pending = subst (λ (asked : Asked). PendingRightly collection.channels (past_in_phase collection.channels met written earlier) asked line.answer) (sym v.asked)
            (pending s m v.moment v.steps v.did journals long earlier mine knows s.number line.number v.request.what line.answer v.call);
      }

  step_knows : (s m : SeatView Note B) (line : Line) (earlier : List Line) (mine : ℕ) → Serves collection least mine s line m → ((k : ℕ) → IsJournal (at_slot m.seen k)) → length s.seen ≡ collection.channels → 0 < collection.channels
      → Knows s earlier mine → Knows m (earlier ++ line ∷ []) (write_or mine (written_of line.answer))
  step_knows s m line earlier mine v journals long one knows =
      let w : Walked by_of time_of s (Lift v.moment ∷ v.steps) m = walked by_of time_of s (Lift v.moment ∷ v.steps) m v.did in
      let back : (x : ℕ) → IsAbove time_of m x → IsAbove time_of s x = λ x a. above_earlier collection least s (Lift v.moment ∷ v.steps) m v.did x a in
      let rises : (k : ℕ) → tick_of (at_slot s.seen k) ≤ tick_of (at_slot m.seen k) = λ k. tick_mono (w.more k) (journals k) in
      record {
        write = ap (λ (n : ℕ). write_or n (written_of line.answer)) knows.write ∙ sym (write_behind-push written earlier line);
        above = λ x a. knows.above x (back x a);
        stamps = λ x a. subst (Each (λ n. n < x)) (sym (flat_map-push (λ (other : Line). stamps other.answer) earlier line))
            (each-append (λ n. n < x) (all_stamps earlier) (stamps line.answer) (knows.stamps x (back x a))
            (each_implied (λ n. IsUnder collection least m n) (λ n. n < x) (λ n u. u x a) (stamps line.answer)
            (told_stamps s m v.moment v.steps v.did journals long earlier mine knows s.number line.number v.request.what line.answer one v.call)));
        reached = λ k below. let r : tick_of (at_slot s.seen k) ≤ tick_of (at_slot m.seen k) = rises k in let b : met ≤ tick_of (at_slot s.seen k) = knows.reached k below in omega arith;
        ticks = λ k below. subst (Each (λ n. n ≤ tick_of (at_slot m.seen k))) (sym (flat_map-push (λ (other : Line). ticks_shown collection.channels k other.asked other.answer) earlier line))
            (each-append (λ n. n ≤ tick_of (at_slot m.seen k)) (all_ticks_shown collection.channels k earlier) (ticks_shown collection.channels k line.asked line.answer)
            (each_implied (λ n. n ≤ tick_of (at_slot s.seen k)) (λ n. n ≤ tick_of (at_slot m.seen k)) (λ n low. let r : tick_of (at_slot s.seen k) ≤ tick_of (at_slot m.seen k) = rises k in omega arith) (all_ticks_shown collection.channels k earlier) (knows.ticks k below))
            (subst (λ (asked : Asked). Each (λ n. n ≤ tick_of (at_slot m.seen k)) (ticks_shown collection.channels k asked line.answer)) (sym v.asked)
            (told_ticks s m v.moment v.steps v.did journals long earlier mine knows v.request.caller s.number line.number v.request.what line.answer k below v.call)));
        low = written_under collection least s.number line.number mine v.request.what line.answer s v.steps v.moment m v.did v.call knows.low;
      }

  pub called_from : (earlier lines : List Line) (s e : SeatView Note B) (mine : ℕ) (v : IsServed collection least mine s lines e) → ((k : ℕ) → IsJournal (at_slot e.seen k)) → length s.seen ≡ collection.channels → 0 < collection.channels
      → Knows s earlier mine → AtEach (Called collection.channels met written) earlier lines
  called_from earlier [] s e mine v journals long one knows = tt
  called_from earlier (line ∷ lines) s e mine v journals long one knows =
      let m : SeatView Note B = v.0 in
      let next : ℕ = write_or mine (written_of line.answer) in
      let w : Walked by_of time_of m (steps_of collection least next m lines e v.2) e = walked by_of time_of m (steps_of collection least next m lines e v.2) e (served_did collection least next m lines e v.2) in
      let there : (k : ℕ) → IsJournal (at_slot m.seen k) = λ k. journal_starts (w.more k) (journals k) in
      let first : Walked by_of time_of s (Lift v.1.moment ∷ v.1.steps) m = walked by_of time_of s (Lift v.1.moment ∷ v.1.steps) m v.1.did in (
        line_called s m line earlier mine v.1 there long one knows,
        called_from (earlier ++ line ∷ []) lines m e next v.2 journals (first.long ∙ long) one (step_knows s m line earlier mine v.1 there long one knows),
      )
