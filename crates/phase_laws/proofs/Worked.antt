-- The small run keeps what phases and the end owe.
use Rattle.std.proofs.Common.{◌≡◌, ◌≢◌, ℕ, zero, suc, ◌+◌, ◌<◌, ◌≤◌, Bool, Option, Some, List, [], ◌∷◌, map, All, inl, inr, refl, sym, ap, subst, ◌∙◌, arith, subst₂, ⊎_elim, is_some, false}
use Rattle.std.specs.FinMap as fin
use Rattle.std.specs.Ordering.{int_cmp}
use Rattle.std.proofs.lemmas.List.Elements.{All-cons, All-nil}
use mathlib.Core.Option.{some-injective, some-ne-none}
use Rattle.atomic_table.specs.Seated.{TableId}
use Rattle.turn_facts.specs.Counts.{count, Among, total}
use Rattle.turn_facts.specs.Notes.{times, IsOwn}
use Rattle.turn_facts.specs.Prefixes.{StartsWith, IsAt}
use Rattle.turn_facts.proofs.Counts.{count-nil, count-here, count-else}
use Rattle.turn_facts.proofs.Places.{same_or}
use Rattle.turn_facts.proofs.Totals.{total_one}
use Rattle.turn_facts.proofs.Prefixes.{starts_all}
use Rattle.turn_table.specs.Knowledge.{at_slot}
use Rattle.turn_table.specs.Seats.{Table, SeatView}
use Rattle.seat_walks.specs.Walks.{Turned, Step, Lift, Took, IsAbove, IsTurn, found, after, Walks, Walked}
use Rattle.seat_walks.specs.Closes.{Stands, Closed}
use Rattle.seat_walks.proofs.Turning.{own_note}
use Rattle.seat_walks.proofs.Walking.{walked, only_one}
use Rattle.log_model.specs.Logs.{Rows}
use Rattle.log_model.specs.declared.logs.Write.TheVariants as writes
use Rattle.log_model.proofs.LogLaws.{rows_of-after}
use Rattle.request_lines.specs.declared.requests.Ask.TheVariants as asks
use Rattle.coarse_lists.specs.declared.collections.Collection.{Collection}
use Rattle.coarse_lists.specs.Collections.{IsInRange}
use Rattle.legal_output.specs.Legal.{told_of, IsLegal}
use Rattle.legal_output.specs.Outputs.{start_of}
use Rattle.journal_model.specs.declared.notes.Note.{Note}
use Rattle.journal_model.specs.Notes.{live_in}
use Rattle.journal_model.specs.Runs.{IsSound}
use Rattle.journal_model.proofs.RunLaws.{append_sound, raise_sound}
use Rattle.journal_model.proofs.PlaceLaws.{start_sound}
use Rattle.call_model.specs.Turns.{by_of, time_of}
use Rattle.call_model.specs.Calls.{channel_at}
use Rattle.call_model.specs.Walks.{Did, Serves}
use Rattle.phase_model.specs.Rests.{AreKept, new_rest}
use Rattle.phase_model.specs.Phases.{Worked, IsPhase}
use Rattle.phase_model.specs.Meets.{MeetsIn, IsEnd, meet_tick}
use Rattle.phase_order.proofs.Steps.{among_here, among_none}
use Rattle.phase_laws.specs.Examples.{one_channel, first_row, insert_line, put_note, written_rest, ended_rest, counted_once, end_line}
use Rattle.phase_laws.proofs.Begun.{new_run}
use Rattle.phase_laws.proofs.Going.{is_whole}

module _ (vector : List Bool) (collection : Collection) where
  abbrev one : Collection
  one = one_channel collection

  kept : AreKept one (written_rest vector)
  kept zero below = record { sound = append_sound (channel_at one 0) (record { notes = []; floor = 0 }) (put_note vector) (start_sound (channel_at one 0)) refl; keys = (refl, tt) }
  kept (suc k) below = absurd (omega arith)

  ended_kept : AreKept one (ended_rest vector)
  ended_kept zero below =
      let s : IsSound (channel_at one 0) (record { notes = put_note vector ∷ meet_tick 0 2 ∷ []; floor = 0 }) =
      append_sound (channel_at one 0) (record { notes = put_note vector ∷ []; floor = 0 }) (meet_tick 0 2) (kept zero below).sound refl in
      record { sound = raise_sound (channel_at one 0) (record { notes = put_note vector ∷ meet_tick 0 2 ∷ []; floor = 0 }) 2 s (omega arith) (omega arith); keys = (refl, tt) }
  ended_kept (suc k) below = absurd (omega arith)

  meets_in : (k : ℕ) → k < 1 → MeetsIn (channel_at one k) 2 1 (at_slot (written_rest vector).journals k) (at_slot (ended_rest vector).journals k)
  meets_in zero below = record { by = 0; more = []; grown = refl; background = tt; up_to = tt; merged = λ none. absurd (omega arith) }
  meets_in (suc k) below = absurd (omega arith)

  pub small_end : IsEnd one 1 (written_rest vector) (ended_rest vector) (end_line collection vector)
  small_end = record {
    counted = counted_once collection vector;
    asked = refl;
    answer = refl;
    meets = record {
      above = omega arith;
      not_early = omega arith;
      later = omega arith;
      met = refl;
      floor = refl;
      mine = refl;
      channels = meets_in;
      counts = record { live = refl; tail = refl; waiting = refl; node_rows = refl; node_live = refl };
      long = refl;
      kept = ended_kept;
    };
  }

module _ (id : TableId) (vector : List Bool) where
  abbrev table : Table ℕ
  table = record { id = id; first = 1; bases = [] }

  -- the caller's seat before and behind its line
  abbrev begun : SeatView Note ℕ
  begun = record { table = table; number = 1; allowance = 10; drawn = []; joined = []; least = 1; seen = [] ∷ []; origin = [] ∷ []; turns = []; mark = 0 }

  abbrev written : SeatView Note ℕ
  written = record { table = table; number = 1; allowance = 9; drawn = 1 ∷ []; joined = []; least = 1; seen = (put_note vector ∷ []) ∷ []; origin = [] ∷ []; turns = []; mark = 0 }

  abbrev turn : Turned Note
  turn = record { slot = 0; before = []; notes = put_note vector ∷ []; drawn = 1 ∷ [] }

  none_seen : (k y : ℕ) → Among y (times time_of (at_slot {N = Note} ([] ∷ []) k)) → ⊥
  unfolding times
  none_seen zero y a = among_none y a
  none_seen (suc k) y a = among_none y a

  is_one : (x : ℕ) → Among x (1 ∷ []) → x ≡ 1
  is_one x a = sym (only_one x 1 a)

  above : (x : ℕ) → Among x (1 ∷ []) → IsAbove time_of (found (after begun (Lift 1)) turn) x
  above x a = record {
    first = let e : x ≡ 1 = is_one x a in omega arith;
    least = let e : x ≡ 1 = is_one x a in omega arith;
    drawn = λ y h. absurd (among_none y h);
    seen = λ k y h. absurd (none_seen k y h);
  }

  is_turn : IsTurn by_of time_of (after begun (Lift 1)) turn
  is_turn = record {
    slot = omega arith;
    more = starts_all [];
    mine = refl;
    own = All-cons (IsOwn by_of time_of 1 (1 ∷ [])) (put_note vector) [] (own_note by_of time_of 1 (1 ∷ []) (put_note vector) refl (λ t e. let q : 1 ≡ t = some_same 1 t e in subst (λ (n : ℕ). Among n (1 ∷ [])) q (among_here 1 []))) (All-nil (IsOwn by_of time_of 1 (1 ∷ [])));
    enough = omega arith;
    above = above;
    rises = ((λ y a. absurd (among_none y a)), tt);
  }
    where
      some_same : (s t : ℕ) → Some s ≡ Some t → s ≡ t
      some_same s t e = cc

  did : Did begun (Lift 1 ∷ Took turn ∷ []) written
  did = (tt, (is_turn, refl))

  -- no key is live yet
  nothing_live : fin.contains_key (live_in []) (first_row vector).key.0 ≡ false
  nothing_live = ap (λ (rows : Rows). fin.contains_key rows (first_row vector).key.0) (rows_of-after []) ∙ ap is_some (fin.get-empty int_cmp (first_row vector).key.0)

  serves : (collection : Collection) → Serves (one_channel collection) 1 0 begun (insert_line vector) written
  serves collection = record {
    request = record { caller = 0; what = asks.Write (writes.Insert (first_row vector)) };
    moment = 1;
    steps = Took turn ∷ [];
    asked = refl;
    later = omega arith;
    did = did;
    call = record { turn = turn; only = refl; home = refl; writes = record { drawn = refl; noted = refl; told = sym (ap (told_of (writes.Insert (first_row vector))) nothing_live) } };
  }

  -- ---- the phase

  module _ (collection : Collection) where
    first_at : (i : ℕ) (a b : SeatView Note ℕ) → IsAt (a ∷ []) i b → a ≡ b
    first_at zero a b at = some-injective a b at
    first_at (suc i) a b at = absurd (some-ne-none b (sym at))

    stands : (xs : List (Step Note)) → Walks by_of time_of begun xs written → Stands by_of time_of 1 2 ([] ∷ []) ((put_note vector ∷ []) ∷ []) begun xs written
    stands xs walk =
        let w : Walked by_of time_of begun xs written = walked by_of time_of begun xs written walk in
        record {
          begins = (refl, refl, refl, refl);
          seen = λ k. starts_all (at_slot ((put_note vector ∷ []) ∷ []) k);
          turns = w.turns;
          own = w.own;
          drawn = w.drawn;
          within = λ x a. (let e : x ≡ 1 = is_one x a in (omega arith, omega arith));
        }

    grown : (k : ℕ) → StartsWith (at_slot ((put_note vector ∷ []) ∷ []) k) (at_slot ([] ∷ []) k)
    grown zero = record { rest = put_note vector ∷ []; is = refl }
    grown (suc k) = record { rest = []; is = refl }

    noted : (k : ℕ) → All (λ (x : Note). Among x.by (1 ∷ [])) (grown k).rest
    unfolding grown
    noted zero = All-cons (λ (x : Note). Among x.by (1 ∷ [])) (put_note vector) [] (among_here 1 []) (All-nil (λ (x : Note). Among x.by (1 ∷ [])))
    noted (suc k) = All-nil (λ (x : Note). Among x.by (1 ∷ []))

    once_one : (x : ℕ) → count x (1 ∷ []) ≤ 1
    once_one x = let z : count x [] ≡ 0 = count-nil x in ⊎_elim (λ (p : 1 ≡ x). subst (λ (n : ℕ). count n (1 ∷ []) ≤ 1) p (let c : count 1 (1 ∷ []) ≡ 1 + count 1 [] = count-here 1 [] in let z' : count 1 [] ≡ 0 = count-nil 1 in omega arith))
        (λ (p : 1 ≢ x). let c : count x (1 ∷ []) ≡ count x [] = count-else x 1 [] p in omega arith) (same_or 1 x)

    times_low : (k x : ℕ) → Among x (times time_of (at_slot ((put_note vector ∷ []) ∷ []) k)) → x < 2
    unfolding times
    times_low zero x a = let e : x ≡ 1 = is_one x a in omega arith
    times_low (suc k) x a = absurd (among_none x a)

    closed : Closed by_of time_of 1 2 ([] ∷ []) ((put_note vector ∷ []) ∷ []) (begun ∷ []) (written ∷ [])
    closed = record {
      each = λ i a p xs at_a at_p walk. subst₂ (λ (u v : SeatView Note ℕ). Walks by_of time_of u xs v → Stands by_of time_of 1 2 ([] ∷ []) ((put_note vector ∷ []) ∷ []) u xs v) (first_at i begun a at_a) (first_at i written p at_p) (stands xs) walk;
      long = refl;
      grown = grown;
      noted = noted;
      differ = once_one;
      once = λ x. let t : total (λ (p : SeatView Note ℕ). count x p.drawn) (written ∷ []) ≡ count x (1 ∷ []) = total_one (λ (p : SeatView Note ℕ). count x p.drawn) written in let o : count x (1 ∷ []) ≤ 1 = once_one x in omega arith;
      later = omega arith;
      times = times_low;
      most = omega arith;
    }

    pub small_phase : IsPhase ℕ (one_channel collection) 1 (new_rest (one_channel collection) 1) (written_rest vector) (insert_line vector ∷ [])
    small_phase = record {
      whose = Some 0 ∷ [];
      starts = begun ∷ [];
      ends = written ∷ [];
      closed = closed;
      seats = (refl, refl);
      worked = works;
      lines = (inr (inl refl), tt);
      mine = λ caller. refl;
      met = refl;
      floor = refl;
      kept = kept vector collection;
    }
      where
        works : (i : ℕ) (who : Option ℕ) (a p : SeatView Note ℕ) → IsAt (Some 0 ∷ []) i who → IsAt (begun ∷ []) i a → IsAt (written ∷ []) i p → Worked (one_channel collection) 1 (λ caller. 0) (insert_line vector ∷ []) who a p
        works zero who a p at_w at_a at_p =
            subst (λ (w : Option ℕ). Worked (one_channel collection) 1 (λ caller. 0) (insert_line vector ∷ []) w a p) (some-injective (Some 0) who at_w)
            (subst₂ (λ (u v : SeatView Note ℕ). Worked (one_channel collection) 1 (λ caller. 0) (insert_line vector ∷ []) (Some 0) u v) (some-injective begun a at_a) (some-injective written p at_p)
            record { middle = written; served = (written, serves collection, refl); left = refl })
        works (suc i) who a p at_w at_a at_p = absurd (some-ne-none who (sym at_w))

    pub small_run : IsInRange collection → IsLegal (start_of (one_channel collection)) (map (λ line. line.asked) (insert_line vector ∷ end_line collection vector ∷ [])) (insert_line vector ∷ end_line collection vector ∷ [])
    small_run range =
        is_whole ℕ (one_channel collection) 1 [] (new_rest (one_channel collection) 1) (written_rest vector) (ended_rest vector) (insert_line vector ∷ []) (end_line collection vector)
        (map (λ line. line.asked) (insert_line vector ∷ end_line collection vector ∷ []))
        record { dim = range.dim; channels = (omega arith, omega arith); nodes = range.nodes; seal_rows = (omega arith, omega arith); schema = range.schema }
        (new_run (one_channel collection) 1 (omega arith) 1) small_phase (small_end vector collection) (refl, (refl, tt)) refl
