-- The rule holds of a table that begins.
use Rattle.std.proofs.Common.{◌≡◌, ℕ, zero, suc, ◌+◌, ◌^◌, ◌<◌, ◌≤◌, List, [], ◌∷◌, length, map, get_or, Option, Some, refl, ap, sym, ◌∙◌, subst, arith}
use Rattle.std.proofs.lemmas.List.{length-map}
use mathlib.Core.Option.{some, some-injective, some-ne-none}
use lib.ListN.{get_elem?}
use Rattle.turn_lock.specs.Client.{IsHome, all_home}
use Rattle.turn_facts.specs.Counts.{count, Among, total}
use Rattle.turn_facts.specs.Notes.{times}
use Rattle.turn_facts.specs.Prefixes.{IsAt}
use Rattle.turn_facts.proofs.Counts.{count-nil, count-here, count-else}
use Rattle.turn_facts.proofs.Notes.{times-nil}
use Rattle.turn_facts.proofs.Places.{at_get, at_map}
use Rattle.turn_facts.proofs.Prefixes.{starts_all}
use Rattle.turn_facts.proofs.Totals.{total_one}
use Rattle.turn_table.specs.declared.knows.Know.{Know}
use Rattle.turn_table.specs.Knowledge.{at_slot, numbers, weight, allowance, opening}
use Rattle.turn_table.specs.Rule.{Truth, SeesAll, OwnsAll, IsGrown, Kept, gone, first_words}

-- what holds of the only seat holds of each
only : {A : Type 0} (P : A → Type 0) (a : A) → P a → (j : ℕ) (b : A) → IsAt (a ∷ []) j b → P b
only P a p zero b e = subst P (some-injective a b e) p
only P a p (suc j) b e = absurd (some-ne-none b (sym e))

none_gone : {S : Type 0} (xs : List S) (k : ℕ) → gone (get_elem? (all_home xs) k) ≡ 0
none_gone [] k = refl
none_gone (x ∷ xs) zero = refl
none_gone (x ∷ xs) (suc k) = none_gone xs k

home_at : {S : Type 0} (xs : List S) (k : ℕ) (x : S) → IsHome (all_home xs) k x → IsAt xs k x
home_at [] k x e = absurd (some-ne-none (some (Some x)) (sym e))
home_at (y ∷ xs) zero x e = let p : y ≡ x = cc e in ap some p
home_at (y ∷ xs) (suc k) x e = home_at xs k x e

length_at : {S N : Type 0} (journal : S → List N) (xs : List S) (k : ℕ) → get_or (map (λ x. length (journal x)) xs) k 0 ≡ length (at_slot (map journal xs) k)
length_at journal [] k = refl
length_at journal (x ∷ xs) zero = refl
length_at journal (x ∷ xs) (suc k) = length_at journal xs k

module _ {S N B : Type 0} (journal : S → List N) (base : S → B) (number : N → ℕ) (time : N → Option ℕ) where
  time_at : (xs : List S) (first k x : ℕ) → ((j : ℕ) (y : S) (t : ℕ) → IsAt xs j y → Among t (times time (journal y)) → t < first) → Among x (times time (at_slot (map journal xs) k)) → x < first
  time_at [] first k x h a = let z : count x (times time []) ≡ count x [] = ap (count x) (times-nil number time) in let y : count x [] ≡ 0 = count-nil x in absurd (omega arith)
  time_at (y ∷ xs) first zero x h a = h 0 y x refl a
  time_at (y ∷ xs) first (suc k) x h a = time_at xs first k x (λ j. h (suc j)) a

  pub opens : (first : ℕ) (xs : List S) → first < 2 ^ 63 + 2 ^ 60 → ((k : ℕ) (x : S) (t : ℕ) → IsAt xs k x → Among t (times time (journal x)) → t < first)
      → Kept journal base number time (first_words journal first xs) (all_home xs) (opening (map journal xs) (map base xs) first ∷ [])
  opens first xs low above =
      let js : List (List N) = map journal xs in
      let v : Know N B = opening js (map base xs) first in
      let t : Truth N B = record { journals = at_slot js; bases = map base xs; origin = js; first = first } in
      let many : length (all_home xs) ≡ length xs = length-map xs (λ (x : S). some (Some x)) in
      let sv : SeesAll t (length (all_home xs)) v = record {
        long = λ l. length-map xs journal ∙ sym many;
        told = λ l. (refl, refl, refl);
        front = λ k. starts_all (at_slot js k);
        inside = λ k a. let z : count k [] ≡ 0 = count-nil k in absurd (omega arith);
      } in
      let ov : OwnsAll number t 1 v = record { mine = λ k n a. refl; fresh = λ l k n h. refl } in
      record {
        truth = t;
        shown = record {
          home = λ k x h. let at : IsAt xs k x = home_at xs k x h in (sym (at_get js k (journal x) [] (at_map journal xs k x at)), at_map base xs k x at);
          based = length-map xs base ∙ sym many;
          begun = length-map xs journal ∙ sym many;
          views = only (SeesAll t (length (all_home xs))) v sv;
          newest = λ k h. (0, v, refl, (refl, refl));
          insides = λ k. total_one (λ (u : Know N B). count k u.inside) v ∙ count-nil k ∙ sym (none_gone xs k);
        };
        numbers = record {
          given = λ n h. let a : total (λ (u : Know N B). count n (numbers u)) (v ∷ []) ≡ count n (0 ∷ []) = total_one (λ (u : Know N B). count n (numbers u)) v in let p : 0 ≡ n = omega arith in
              let b : count n (0 ∷ []) ≡ 1 + count n [] = subst (λ (i : ℕ). count n (i ∷ []) ≡ 1 + count n []) (sym p) (count-here n []) in let z : count n [] ≡ 0 = count-nil n in omega arith;
          unused = λ n h. total_one (λ (u : Know N B). count n (numbers u)) v ∙ count-else n 0 [] (λ p. omega arith) ∙ count-nil n;
          strange = λ k n h. refl;
          views = only (OwnsAll number t 1) v ov;
        };
        drawn = record {
          once = λ x. let a : total (λ (u : Know N B). count x u.drawn) (v ∷ []) ≡ count x [] = total_one (λ (u : Know N B). count x u.drawn) v in let z : count x [] ≡ 0 = count-nil x in omega arith;
          early = λ x h. total_one (λ (u : Know N B). count x u.drawn) v ∙ count-nil x;
          below = λ x h. total_one (λ (u : Know N B). count x u.drawn) v ∙ count-nil x;
          least = only (λ (u : Know N B). u.least ≤ first) v (omega arith);
          first = omega arith;
          times = λ k x a. time_at xs first k x above a;
        };
        sums = record {
          weights = total_one weight v;
          room = let a : total allowance (v ∷ []) ≡ 2 ^ 40 = total_one allowance v in omega arith;
          few = let a : total allowance (v ∷ []) ≡ 2 ^ 40 = total_one allowance v in omega arith;
          low = low;
        };
        lengths = record { wide = let a : length (map (λ (x : S). length (journal x)) xs) ≡ length xs = length-map xs (λ (x : S). length (journal x)) in omega arith; lengths = λ k h. let p : k + 2 ≡ suc (suc k) = omega arith in ap (λ (i : ℕ). get_or (first_words journal first xs) i 0) p ∙ length_at journal xs k };
        grown = only (λ (u : Know N B). IsGrown number u.seen u.parts) v (λ i p e. absurd (some-ne-none p (sym e)));
      }

  -- the same at lists that are equal to those
  pub opens_at : (first : ℕ) (xs ys : List S) (ws : List ℕ) → ws ≡ first_words journal first xs → ys ≡ xs → first < 2 ^ 63 + 2 ^ 60 → ((k : ℕ) (x : S) (t : ℕ) → IsAt xs k x → Among t (times time (journal x)) → t < first)
      → Kept journal base number time ws (all_home xs) (opening (map journal ys) (map base ys) first ∷ [])
  opens_at first xs ys ws e f low above =
      subst (λ (l : List ℕ). Kept journal base number time l (all_home xs) (opening (map journal ys) (map base ys) first ∷ [])) (sym e)
      (subst (λ (l : List S). Kept journal base number time (first_words journal first xs) (all_home xs) (opening (map journal l) (map base l) first ∷ [])) (sym f) (opens first xs low above))
