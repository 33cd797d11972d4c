-- Each step keeps the rule, and tells what it tells.
use Rattle.std.proofs.Common.{◌≡◌, ℕ, ◌+◌, ◌%◌, ◌^◌, ◌<◌, ◌≤◌, max, true, List, [], ◌∷◌, length, length-set, get_or, drop, set, Option, Some, refl, ap, sym, ◌∙◌, subst, inl, inr, ⊎_elim, arith, mod-eq_of_lt, get_or-set_same, get_or-set_other}
use Rattle.std.proofs.lemmas.Bool.{cases_lt}
use mathlib.Core.Option.{none, some, some-ne-none}
use Rattle.turn_lock.specs.Client.{Gains, Gives, Moves, MovesOut, Forks, Merges}
use Rattle.turn_facts.specs.Counts.{count, Among, total}
use Rattle.turn_facts.specs.Notes.{of, times, Adds}
use Rattle.turn_facts.specs.Prefixes.{StartsWith, IsAt}
use Rattle.turn_facts.proofs.Counts.{count-drop}
use Rattle.turn_facts.proofs.Notes.{times_starts, adds_others, adds_times, adds_starts}
use Rattle.turn_facts.proofs.Places.{at_below, at_else, each_set, each_more}
use Rattle.turn_facts.proofs.Totals.{total_least}
use Rattle.turn_table.specs.declared.knows.Know.{Know}
use Rattle.turn_table.specs.Knowledge.{at_slot, numbers, entered, counted, left, drew, lifted, numbered, offered, settled, stayed, given, joined, spent}
use Rattle.turn_table.specs.Rule.{Truth, IsGrown, SeesAll, Kept, grown_truth, clock, next_seat, Measured}
use Rattle.turn_table.specs.Tells.{Took, Drew, Numbers, Settled}
use Rattle.turn_table.proofs.Drawing.{drawn_kept, drawn_counts, drawn_draws, drawn_splits, drawn_joins}
use Rattle.turn_table.proofs.Measuring.{measured_kept, measured_counts}
use Rattle.turn_table.proofs.Owning.{numbered_once, numbered_kept, owns_seen, numbered_counts, numbered_numbers, numbered_splits, numbered_joins}
use Rattle.turn_table.proofs.Seeing.{shown_kept, shown_enters, shown_counts, shown_leaves}
use Rattle.turn_table.proofs.Sharing.{shown_splits, shown_joins}
use Rattle.turn_table.proofs.Summing.{summed_kept, summed_draws, summed_lifts, summed_numbers, summed_splits, summed_joins, clock_low}

no_parts : {N : Type 0} (number : N → ℕ) (seen : List (List N)) → IsGrown number seen []
no_parts number seen i p e = absurd (some-ne-none p (sym e))

word_same : (ws : List ℕ) (i n : ℕ) → i < length ws → get_or (set ws i n) i 0 ≡ n
word_same ws i n h = get_or-set_same ws i n 0 h

module _ {S N B : Type 0} (journal : S → List N) (base : S → B) (number : N → ℕ) (time : N → Option ℕ) where
  pub enters : (id : ℕ) (v : Know N B) (k : ℕ) → v.live ≡ true → Gains (Kept journal base number time) id v k (Took journal base number v k)
  enters id v k live ws hs vs x s e h =
      let w : Know N B = entered v k (journal x) in
      let t : Truth N B = s.truth in
      let sv : SeesAll t (length hs) v = s.shown.views id v e in
      let hx = s.shown.home k x h in
      let here : k < length v.seen = let a : k < length hs = at_below hs k (some (Some x)) h in let b : length v.seen ≡ length hs = sv.long live in omega arith in (
        w,
        record {
          truth = t;
          shown = shown_enters journal base id v k x s.shown e live h;
          numbers = numbered_kept number ws id v w s.numbers e refl (λ o. owns_seen number k (journal x) hx.0 here o) (λ n. refl);
          drawn = drawn_kept time ws id v w s.drawn e (omega arith) (λ n. refl) (s.drawn.least id v e);
          sums = summed_kept ws id v w s.sums e refl refl refl refl;
          lengths = subst (λ (n : ℕ). Measured t ws n) (sym (length-set hs k none)) s.lengths;
          grown = each_set (λ (u : Know N B). IsGrown number u.seen u.parts) vs id w s.grown (no_parts number w.seen);
        },
        record {
          is = refl;
          slot = here;
          more = subst (λ (l : List N). StartsWith l (at_slot v.seen k)) (sym hx.0) (sv.front k);
          mine = λ n a. ap (of number n) hx.0 ∙ (s.numbers.views id v e).mine k n a;
          place = subst (λ (l : List B). IsAt l k (base x)) (sym (sv.told live).0) hx.1;
        },
      )

  pub counts : (id : ℕ) (v : Know N B) (k more : ℕ) (l : List N) → v.live ≡ true → Among k v.inside → Adds number time v.number (drop v.mark v.drawn) (at_slot v.seen k) l → more + length (at_slot v.seen k) ≡ length l → length l < 2 ^ 56
      → MovesOut (Kept journal base number time) id v k (k + 2) (λ n. (n + more) % 2 ^ 64) (λ found w. w ≡ counted v k l)
  counts id v k more l live ins adds len few ws hs vs s e out small =
      let w : Know N B = counted v k l in
      let t : Truth N B = s.truth in
      let sv : SeesAll t (length hs) v = s.shown.views id v e in
      let all_seen : at_slot v.seen k ≡ t.journals k = (sv.inside k ins).1 in
      let below : k < length hs = at_below hs k none out in
      let here : k < length v.seen = let b : length v.seen ≡ length hs = sv.long live in omega arith in
      let word : ℕ = get_or ws (k + 2) 0 in
      let word_is : word ≡ length (at_slot v.seen k) = s.lengths.lengths k below ∙ ap length (sym all_seen) in
      let new_is : (word + more) % 2 ^ 64 ≡ length l = mod-eq_of_lt (omega arith) ∙ (let r : word + more ≡ length l = omega arith in r) in
      let ws' : List ℕ = set ws (k + 2) ((word + more) % 2 ^ 64) in
      let clock_same : clock ws' ≡ clock ws = get_or-set_other ws (k + 2) 0 ((word + more) % 2 ^ 64) 0 (λ p. omega arith) in
      let next_same : next_seat ws' ≡ next_seat ws = get_or-set_other ws (k + 2) 1 ((word + more) % 2 ^ 64) 0 (λ p. omega arith) in
      let starts : StartsWith l (t.journals k) = subst (λ (m : List N). StartsWith l m) all_seen (adds_starts number time adds) in
      let t' : Truth N B = grown_truth t k l in
      let d = drawn_counts time id v k l s.drawn e (λ x a. ⊎_elim (λ b. inl (subst (λ (m : List N). Among x (times time m)) all_seen b)) (λ b. let c : count x (drop v.mark v.drawn) ≤ count x v.drawn = count-drop x v.mark v.drawn in inr (omega arith)) (adds_times number time x adds a)) in (
        w,
        record {
          truth = t';
          shown = shown_counts journal base id v k l s.shown e live out ins starts;
          numbers = numbered_counts number ws' id v k l s.numbers e live next_same here (λ m ne. adds_others number time m adds ne ∙ ap (of number m) all_seen);
          drawn = drawn_kept time ws' id v w d e (omega arith) (λ n. refl) (let a : v.least ≤ clock ws = s.drawn.least id v e in omega arith);
          sums = summed_kept {t = t'} {ws = ws} ws' id v w record { weights = s.sums.weights; room = s.sums.room; few = s.sums.few; low = s.sums.low } e clock_same next_same refl refl;
          lengths = measured_counts k l ((word + more) % 2 ^ 64) below new_is s.lengths;
          grown = each_set (λ (u : Know N B). IsGrown number u.seen u.parts) vs id w s.grown (no_parts number w.seen);
        },
        refl,
      )

  pub leaves : (id : ℕ) (v : Know N B) (k : ℕ) (y : S) → v.inside ≡ k ∷ drop 1 v.inside → journal y ≡ at_slot v.seen k → IsAt v.bases k (base y)
      → Gives (Kept journal base number time) id v k y (λ w. w ≡ left v)
  leaves id v k y ins j_is b_is ws hs vs s e out =
      let w : Know N B = left v in (
        w,
        record {
          truth = s.truth;
          shown = shown_leaves journal base id v k y s.shown e out ins j_is b_is;
          numbers = numbered_kept number ws id v w s.numbers e refl (λ o. o) (λ n. refl);
          drawn = drawn_kept time ws id v w s.drawn e (omega arith) (λ n. refl) (s.drawn.least id v e);
          sums = summed_kept ws id v w s.sums e refl refl refl refl;
          lengths = subst (λ (n : ℕ). Measured s.truth ws n) (sym (length-set hs k (some (Some y)))) s.lengths;
          grown = each_set (λ (u : Know N B). IsGrown number u.seen u.parts) vs id w s.grown (s.grown id v e);
        },
        refl,
      )

  pub draws : (id : ℕ) (v : Know N B) → v.live ≡ true → 1 ≤ v.allowance → Moves (Kept journal base number time) id v 0 (λ n. (n + 1) % 2 ^ 64) (Drew time v)
  draws id v live one ws hs vs s e small =
      let inside : 1 < length ws = let wide : length ws ≡ length hs + 2 = s.lengths.wide in omega arith in
      let x : ℕ = clock ws in
      let w : Know N B = drew v x in
      let t : Truth N B = s.truth in
      let low : x < 2 ^ 63 + 2 ^ 61 = clock_low s.sums in
      let ws' : List ℕ = set ws 0 ((x + 1) % 2 ^ 64) in
      let now : clock ws' ≡ x + 1 = word_same ws 0 ((x + 1) % 2 ^ 64) (omega arith) ∙ mod-eq_of_lt (omega arith) in
      let next_same : next_seat ws' ≡ next_seat ws = get_or-set_other ws 0 1 ((x + 1) % 2 ^ 64) 0 (λ p. omega arith) in
      let sv : SeesAll t (length hs) v = s.shown.views id v e in (
        w,
        record {
          truth = t;
          shown = shown_kept journal base id v w s.shown e (λ o. o) (λ k o. o) (λ k. refl);
          numbers = numbered_kept number ws' id v w s.numbers e next_same (λ o. o) (λ n. refl);
          drawn = drawn_draws time ws' id v s.drawn e now;
          sums = summed_draws ws' id v x s.sums e one now next_same;
          lengths = measured_kept 0 ((x + 1) % 2 ^ 64) (omega arith) s.lengths;
          grown = each_set (λ (u : Know N B). IsGrown number u.seen u.parts) vs id w s.grown (s.grown id v e);
        },
        record {
          is = refl;
          first = let a : t.first ≤ x = s.drawn.first in let b : v.first ≡ t.first = (sv.told live).2 in omega arith;
          least = s.drawn.least id v e;
          drawn = λ y a. ⊎_elim (λ (h : y < x). h) (λ (h : x ≤ y). let f : Know N B → ℕ = λ u. count y u.drawn in let z : total f vs ≡ 0 = s.drawn.below y h in let b : f v ≤ total f vs = total_least f vs id v e in absurd (omega arith)) (cases_lt y x);
          seen = λ k y a. s.drawn.times k y (times_starts number time y (sv.front k) a);
        },
      )

  pub lifts : (id : ℕ) (v : Know N B) (least : ℕ) → v.live ≡ true → least < 2 ^ 63 → Moves (Kept journal base number time) id v 0 (λ n. max n least) (λ found w. w ≡ lifted v least)
  lifts id v least live low ws hs vs s e small =
      let inside : 1 < length ws = let wide : length ws ≡ length hs + 2 = s.lengths.wide in omega arith in
      let x : ℕ = clock ws in
      let w : Know N B = lifted v least in
      let ws' : List ℕ = set ws 0 (max x least) in
      let now : clock ws' ≡ max x least = word_same ws 0 (max x least) (omega arith) in
      let next_same : next_seat ws' ≡ next_seat ws = get_or-set_other ws 0 1 (max x least) 0 (λ p. omega arith) in (
        w,
        record {
          truth = s.truth;
          shown = shown_kept journal base id v w s.shown e (λ o. o) (λ k o. o) (λ k. refl);
          numbers = numbered_kept number ws' id v w s.numbers e next_same (λ o. o) (λ n. refl);
          drawn = drawn_kept time ws' id v w s.drawn e (omega arith) (λ n. refl) (let a : v.least ≤ x = s.drawn.least id v e in omega arith);
          sums = summed_lifts ws' id v least s.sums e live low now next_same;
          lengths = measured_kept 0 (max x least) (omega arith) s.lengths;
          grown = each_set (λ (u : Know N B). IsGrown number u.seen u.parts) vs id w s.grown (s.grown id v e);
        },
        refl,
      )

  pub gets_number : (id : ℕ) (v : Know N B) → v.live ≡ true → 1 ≤ v.allowance → Moves (Kept journal base number time) id v 1 (λ n. (n + 1) % 2 ^ 64) (Numbers v)
  gets_number id v live one ws hs vs s e small =
      let inside : 1 < length ws = let wide : length ws ≡ length hs + 2 = s.lengths.wide in omega arith in
      let x : ℕ = next_seat ws in
      let w : Know N B = numbered v x in
      let few : x ≤ 2 ^ 40 + 1 = let a : x + total (λ (u : Know N B). u.allowance) vs ≤ 2 ^ 40 + 1 = s.sums.few in omega arith in
      let ws' : List ℕ = set ws 1 ((x + 1) % 2 ^ 64) in
      let now : next_seat ws' ≡ x + 1 = word_same ws 1 ((x + 1) % 2 ^ 64) inside ∙ mod-eq_of_lt (omega arith) in
      let clock_same : clock ws' ≡ clock ws = get_or-set_other ws 1 0 ((x + 1) % 2 ^ 64) 0 (λ p. omega arith) in (
        w,
        record {
          truth = s.truth;
          shown = shown_kept journal base id v w s.shown e (λ o. o) (λ k o. o) (λ k. refl);
          numbers = numbered_numbers number ws' id v s.numbers e live now;
          drawn = drawn_kept time ws' id v w s.drawn e (omega arith) (λ n. refl) (let a : v.least ≤ clock ws = s.drawn.least id v e in omega arith);
          sums = summed_numbers ws' id v x s.sums e one clock_same now;
          lengths = measured_kept 1 ((x + 1) % 2 ^ 64) (omega arith) s.lengths;
          grown = each_set (λ (u : Know N B). IsGrown number u.seen u.parts) vs id w s.grown (s.grown id v e);
        },
        record {
          is = refl;
          above = λ n a. ⊎_elim (λ (h : n < x). h) (λ (h : x ≤ n). let f : Know N B → ℕ = λ u. count n (numbers u) in let z : total f vs ≡ 0 = s.numbers.unused n h in let y : f v ≤ total f vs = total_least f vs id v e in absurd (omega arith)) (cases_lt n x);
        },
      )

  -- a step that reads the clock, and changes nothing but what the seat offers
  pub offers : (id : ℕ) (v : Know N B) (x : ℕ) → Moves (Kept journal base number time) id v 0 (λ n. n) (λ found w. w ≡ offered v x)
  offers id v x ws hs vs s e small =
      let inside : 1 < length ws = let wide : length ws ≡ length hs + 2 = s.lengths.wide in omega arith in
      let w : Know N B = offered v x in
      let ws' : List ℕ = set ws 0 (get_or ws 0 0) in
      let clock_same : clock ws' ≡ clock ws = word_same ws 0 (get_or ws 0 0) (omega arith) in
      let next_same : next_seat ws' ≡ next_seat ws = get_or-set_other ws 0 1 (get_or ws 0 0) 0 (λ p. omega arith) in (
        w,
        record {
          truth = s.truth;
          shown = shown_kept journal base id v w s.shown e (λ o. o) (λ k o. o) (λ k. refl);
          numbers = numbered_kept number ws' id v w s.numbers e next_same (λ o. o) (λ n. refl);
          drawn = drawn_kept time ws' id v w s.drawn e (omega arith) (λ n. refl) (let a : v.least ≤ clock ws = s.drawn.least id v e in omega arith);
          sums = summed_kept ws' id v w s.sums e clock_same next_same refl refl;
          lengths = measured_kept 0 (get_or ws 0 0) (omega arith) s.lengths;
          grown = each_set (λ (u : Know N B). IsGrown number u.seen u.parts) vs id w s.grown (s.grown id v e);
        },
        refl,
      )

  -- the same, where the seat learns what a join has made of it
  pub settles : (id : ℕ) (v : Know N B) → Moves (Kept journal base number time) id v 0 (λ n. n) (λ found. Settled number v)
  settles id v ws hs vs s e small =
      let inside : 1 < length ws = let wide : length ws ≡ length hs + 2 = s.lengths.wide in omega arith in
      let w : Know N B = settled v in
      let ws' : List ℕ = set ws 0 (get_or ws 0 0) in
      let clock_same : clock ws' ≡ clock ws = word_same ws 0 (get_or ws 0 0) (omega arith) in
      let next_same : next_seat ws' ≡ next_seat ws = get_or-set_other ws 0 1 (get_or ws 0 0) 0 (λ p. omega arith) in (
        w,
        record {
          truth = s.truth;
          shown = shown_kept journal base id v w s.shown e (λ o. o) (λ k o. o) (λ k. refl);
          numbers = numbered_kept number ws' id v w s.numbers e next_same (λ o. o) (λ n. refl);
          drawn = drawn_kept time ws' id v w s.drawn e (omega arith) (λ n. refl) (let a : v.least ≤ clock ws = s.drawn.least id v e in omega arith);
          sums = summed_kept ws' id v w s.sums e clock_same next_same refl refl;
          lengths = measured_kept 0 (get_or ws 0 0) (omega arith) s.lengths;
          grown = each_set (λ (u : Know N B). IsGrown number u.seen u.parts) vs id w s.grown (no_parts number w.seen);
        },
        record {
          is = refl;
          grown = s.grown id v e;
          once = λ x. let f : Know N B → ℕ = λ u. count x u.drawn in let a : f v ≤ total f vs = total_least f vs id v e in let b : total f vs ≤ 1 = s.drawn.once x in omega arith;
          apart = λ n. let f : Know N B → ℕ = λ u. count n (numbers u) in let a : f v ≤ total f vs = total_least f vs id v e in let b : total f vs ≤ 1 = numbered_once number s.numbers n in omega arith;
        },
      )

  pub splits : (id : ℕ) (v : Know N B) → v.live ≡ true → v.gift ≤ v.allowance → v.spare ≡ get_or v.spare 0 0 ∷ drop 1 v.spare → Forks (Kept journal base number time) id v (stayed v) (given v)
  splits id v live gift sp ws hs vs s e = record {
    truth = s.truth;
    shown = shown_splits journal base id v s.shown e;
    numbers = numbered_splits number id v s.numbers e live sp;
    drawn = drawn_splits time id v s.drawn e;
    sums = summed_splits id v s.sums e live gift sp;
    lengths = s.lengths;
    grown = each_more (λ (u : Know N B). IsGrown number u.seen u.parts) (set vs id (stayed v)) (given v) (each_set (λ (u : Know N B). IsGrown number u.seen u.parts) vs id (stayed v) s.grown (s.grown id v e)) (no_parts number v.seen);
  }

  pub joins : (id other : ℕ) (v w : Know N B) → v.live ≡ true → w.live ≡ true → w.inside ≡ [] → Merges (Kept journal base number time) id v other w (joined v w) spent
  joins id other v w lv lw iw ws hs vs s e ne e' =
      let e_w : IsAt vs other w = sym (at_else vs id other (joined v w) ne) ∙ e' in
      let n = numbered_joins number (length hs) id other v w s.numbers e ne e' lv lw (s.shown.views id v e) (s.shown.views other w e_w) in
      record {
        truth = s.truth;
        shown = shown_joins journal base id other v w s.shown e ne e' lv lw iw;
        numbers = n.0;
        drawn = drawn_joins time id other v w s.drawn e ne e';
        sums = summed_joins id other v w s.sums e e' lv lw;
        lengths = s.lengths;
        grown = each_set (λ (u : Know N B). IsGrown number u.seen u.parts) (set vs id (joined v w)) other spent (each_set (λ (u : Know N B). IsGrown number u.seen u.parts) vs id (joined v w) s.grown n.1) (no_parts number []);
      }
