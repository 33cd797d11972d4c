-- A seat that has all that a table gives knows that no other seat is left.
use Rattle.std.proofs.Common.{◌≡◌, ℕ, zero, suc, ◌+◌, ◌^◌, ◌<◌, ◌≤◌, ◌≢◌, max, Bool, true, cond, List, [], ◌∷◌, length, map, refl, Option, Some, ap, sym, ◌∙◌, subst, ⊎_elim, arith}
use Rattle.std.proofs.lemmas.Bool.{cases_lt}
use Rattle.std.proofs.lemmas.List.{length-map}
use mathlib.Core.Option.{some}
use Rattle.turn_lock.specs.Client.{Homes, AllHome, Ended, all_home}
use Rattle.turn_facts.specs.Counts.{count, Among, total}
use Rattle.turn_facts.specs.Notes.{of, times}
use Rattle.turn_facts.specs.Prefixes.{IsAt}
use Rattle.turn_facts.proofs.Counts.{count-nil}
use Rattle.turn_facts.proofs.Notes.{times_starts}
use Rattle.turn_facts.proofs.Places.{same_or, at_below, at_one, at_get, at_map, at_map_back, same_lists}
use Rattle.turn_facts.proofs.Totals.{total_least, total_alone, total_some}
use Rattle.turn_table.specs.declared.knows.Know.{Know}
use Rattle.turn_table.specs.Knowledge.{at_slot, numbers, weight, allowance}
use Rattle.turn_table.specs.Rule.{Truth, SeesAll, Kept, gone, clock, next_seat}
use Rattle.turn_table.proofs.Owning.{weightless}

-- a list of journals has none behind its end
past : {N : Type 0} (ls : List (List N)) (k : ℕ) → length ls ≤ k → at_slot ls k ≡ []
past [] k h = refl
past (l ∷ ls) zero h = absurd (omega arith)
past (l ∷ ls) (suc k) h = past ls k (omega arith)

module _ {S N B : Type 0} (journal : S → List N) (base : S → B) (number : N → ℕ) (time : N → Option ℕ) where
  -- the values are at home with the journals and bases that the seat knows, no note is of a stranger, and the clock is above all that it drew or has seen
  pub record Ends (v : Know N B) (ws : List ℕ) (xs : List S) : Type 0 where
    pub journals : map journal xs ≡ v.seen
    pub bases : map base xs ≡ v.bases
    pub first : v.first ≤ clock ws
    pub whose : (k n : ℕ) → count n (numbers v) ≡ 0 → of number n (at_slot v.seen k) ≡ of number n (at_slot v.origin k)
    pub since : (x : ℕ) → Among x v.drawn → v.first ≤ x
    pub drawn : (x : ℕ) → Among x v.drawn → x < clock ws
    pub times : (k x : ℕ) → Among x (times time (at_slot v.seen k)) → x < clock ws
    pub most : clock ws ≤ 2 ^ 40 + max v.first (2 ^ 63)

  -- no other seat is left
  alone : {ws : List ℕ} {hs : Homes S} {vs : List (Know N B)} (id : ℕ) (v : Know N B) → Kept journal base number time ws hs vs → IsAt vs id v → weight v ≡ 2 ^ 40 + 1 → (j : ℕ) (u : Know N B) → IsAt vs j u → u.live ≡ true → (j ≡ id) × (u ≡ v)
  alone {ws} {hs} {vs} id v s e all j u at live =
      ⊎_elim (λ (p : j ≡ id). (p, at_one vs id u v (subst (λ (n : ℕ). IsAt vs n u) p at) e))
      (λ (p : j ≢ id). let z : weight u ≡ 0 = total_alone weight vs id j v u e at (λ q. p (sym q)) (let w : total weight vs ≡ 2 ^ 40 + 1 = s.sums.weights in omega arith) in let c : cond {A = ℕ} u.live 1 0 ≡ 1 = ap (λ (b : Bool). cond {A = ℕ} b 1 0) live in absurd (omega arith)) (same_or j id)

  pub ends_home : (id : ℕ) (v : Know N B) → weight v ≡ 2 ^ 40 + 1 → v.inside ≡ [] → AllHome (Kept journal base number time) id v
  ends_home id v all ins ws hs vs s e k out =
      let f : Know N B → ℕ = λ u. count k u.inside in
      let one : total f vs ≡ 1 = s.shown.insides k ∙ ap gone out in
      let t = total_some f vs (omega arith) in
      let live : t.1.live ≡ true = ((s.shown.views t.0 t.1 t.2).inside k t.3).0 in
      let is_v : t.1 ≡ v = (alone id v s e all t.0 t.1 t.2 live).1 in
      let z : count k t.1.inside ≡ 0 = ap (λ (u : Know N B). count k u.inside) is_v ∙ ap (count k) ins ∙ count-nil k in
      let some_of : 1 ≤ count k t.1.inside = t.3 in
      omega arith

  -- a number of another seat is none that was given, so there is no new note of it
  untouched : (id : ℕ) (v : Know N B) (ws : List ℕ) (hs : Homes S) (vs : List (Know N B)) (s : Kept journal base number time ws hs vs) → IsAt vs id v → v.live ≡ true → weight v ≡ 2 ^ 40 + 1 → ((k : ℕ) → k < length hs → at_slot v.seen k ≡ s.truth.journals k)
      → (k n : ℕ) → count n (numbers v) ≡ 0 → of number n (at_slot v.seen k) ≡ of number n (at_slot v.origin k)
  untouched id v ws hs vs s e live all newest k n z =
      let t : Truth N B = s.truth in
      let f : Know N B → ℕ = λ u. count n (numbers u) in
      let long : length v.seen ≡ length hs = (s.shown.views id v e).long live in
      let same : v.origin ≡ t.origin = ((s.shown.views id v e).told live).1 in
      let begun : length t.origin ≡ length hs = s.shown.begun in
      let none : (j : ℕ) (u : Know N B) → IsAt vs j u → f u ≡ 0 = λ j u at.
      ⊎_elim (λ (p : j ≡ id). ap f (at_one vs id u v (subst (λ (i : ℕ). IsAt vs i u) p at) e) ∙ z)
      (λ (p : j ≢ id). weightless n u (total_alone weight vs id j v u e at (λ q. p (sym q)) (let w : total weight vs ≡ 2 ^ 40 + 1 = s.sums.weights in omega arith))) (same_or j id) in
      ⊎_elim (λ (near : k < length hs). ⊎_elim
      (λ (b : n < next_seat ws). let one : total f vs ≡ 1 = s.numbers.given n b in let m = total_some f vs (omega arith) in let some_of : 1 ≤ f m.1 = m.3 in let q : f m.1 ≡ 0 = none m.0 m.1 m.2 in absurd (omega arith))
      (λ (b : next_seat ws ≤ n). ap (of number n) (newest k near) ∙ s.numbers.strange k n b ∙ ap (λ (l : List (List N)). of number n (at_slot l k)) (sym same)) (cases_lt n (next_seat ws)))
      (λ (far : length hs ≤ k). ap (of number n) (past v.seen k (omega arith) ∙ sym (past v.origin k (let o : length v.origin ≡ length t.origin = ap length same in omega arith)))) (cases_lt k (length hs))

  pub ends : (id : ℕ) (v : Know N B) (ws : List ℕ) (xs : List S) → v.live ≡ true → weight v ≡ 2 ^ 40 + 1 → Ended (Kept journal base number time) id v ws xs → Ends v ws xs
  ends id v ws xs live all end =
      let vs : List (Know N B) = end.0 in
      let s : Kept journal base number time ws (all_home xs) vs = end.1 in
      let e : IsAt vs id v = end.2 in
      let t : Truth N B = s.truth in
      let sv : SeesAll t (length (all_home xs)) v = s.shown.views id v e in
      let many : length (all_home xs) ≡ length xs = length-map xs (λ (x : S). some (Some x)) in
      let newest : (k : ℕ) → k < length xs → at_slot v.seen k ≡ t.journals k = λ k h. let n = s.shown.newest k (omega arith) in ap (λ (u : Know N B). at_slot u.seen k) (sym (alone id v s e all n.0 n.1 n.2 n.3.0).1) ∙ n.3.1 in
      let home : (k : ℕ) (x : S) → IsAt xs k x → (journal x ≡ t.journals k) × IsAt t.bases k (base x) = λ k x at. s.shown.home k x (at_map (λ (y : S). some (Some y)) xs k x at) in
      record {
        journals = same_lists (map journal xs) v.seen (length-map xs journal ∙ sym (sv.long live ∙ many)) (λ k a b at bt. let x = at_map_back journal xs k a at in let below : k < length xs = at_below xs k x.0 x.1 in sym x.2 ∙ (home k x.0 x.1).0 ∙ sym (newest k below) ∙ at_get v.seen k b [] bt);
        bases = same_lists (map base xs) v.bases (length-map xs base ∙ sym (ap length (sv.told live).0 ∙ s.shown.based ∙ many)) (λ k a b at bt. let x = at_map_back base xs k a at in sym x.2 ∙ at_one t.bases k (base x.0) b (home k x.0 x.1).1 (subst (λ (l : List B). IsAt l k b) (sv.told live).0 bt));
        whose = untouched id v ws (all_home xs) vs s e live all (λ k h. newest k (omega arith));
        first = let a : v.first ≡ t.first = (sv.told live).2 in let b : t.first ≤ clock ws = s.drawn.first in omega arith;
        since = λ x a. ⊎_elim (λ (h : x < t.first). let f : Know N B → ℕ = λ u. count x u.drawn in let z : total f vs ≡ 0 = s.drawn.early x h in let b : f v ≤ total f vs = total_least f vs id v e in absurd (omega arith)) (λ (h : t.first ≤ x). let w : v.first ≡ t.first = (sv.told live).2 in omega arith) (cases_lt x t.first);
        drawn = λ x a. ⊎_elim (λ (h : x < clock ws). h) (λ (h : clock ws ≤ x). let f : Know N B → ℕ = λ u. count x u.drawn in let z : total f vs ≡ 0 = s.drawn.below x h in let b : f v ≤ total f vs = total_least f vs id v e in absurd (omega arith)) (cases_lt x (clock ws));
        times = λ k x a. s.drawn.times k x (times_starts number time x (sv.front k) a);
        most = let a : v.first ≡ t.first = (sv.told live).2 in let b : clock ws + total allowance vs ≤ 2 ^ 40 + max t.first (2 ^ 63) = s.sums.room in let c : clock ws ≤ 2 ^ 40 + max t.first (2 ^ 63) = omega arith in subst (λ (n : ℕ). clock ws ≤ 2 ^ 40 + max n (2 ^ 63)) (sym a) c;
      }
