-- The numbers that seats drew, at each step.
use Rattle.std.proofs.Common.{◌≡◌, ℕ, ◌+◌, ◌<◌, ◌≤◌, ◌≢◌, ◌⊎◌, List, [], ◌∷◌, ◌++◌, set, Option, ap, sym, ◌∙◌, subst, ⊎_elim, arith}
use Rattle.std.proofs.lemmas.Bool.{cases_lt}
use Rattle.turn_facts.specs.Counts.{count, Among, total}
use Rattle.turn_facts.specs.Notes.{times}
use Rattle.turn_facts.specs.Prefixes.{IsAt}
use Rattle.turn_facts.proofs.Counts.{count-nil, count-here, count-else, count-append}
use Rattle.turn_facts.proofs.Places.{same_or, at_else, each_set, each_more, put_here, put_else}
use Rattle.turn_facts.proofs.Totals.{total_set, total_least, total_cut, total_pair}
use Rattle.turn_table.specs.declared.knows.Know.{Know}
use Rattle.turn_table.specs.Knowledge.{drew, stayed, given, joined, spent}
use Rattle.turn_table.specs.Rule.{Truth, Drawn, clock, grown_truth}

module _ {N B : Type 0} (time : N → Option ℕ) where
  -- a step that changes no number that was drawn, and no word but to a greater one
  pub drawn_kept : {t : Truth N B} {ws : List ℕ} {vs : List (Know N B)} (ws' : List ℕ) (id : ℕ) (v w : Know N B) → Drawn time t ws vs → IsAt vs id v → clock ws ≤ clock ws' → ((n : ℕ) → count n w.drawn ≡ count n v.drawn) → w.least ≤ clock ws' → Drawn time t ws' (set vs id w)
  drawn_kept {t} {ws} {vs} ws' id v w s e up r least =
      let equal : (n : ℕ) → total (λ (u : Know N B). count n u.drawn) (set vs id w) ≡ total (λ (u : Know N B). count n u.drawn) vs = λ n. let f : Know N B → ℕ = λ u. count n u.drawn in let a : total f (set vs id w) + f v ≡ total f vs + f w = total_set f vs id v w e in let b : count n w.drawn ≡ count n v.drawn = r n in omega arith in
      record {
        once = λ n. let P : ℕ → Type 0 = λ y. y ≤ 1 in subst P (sym (equal n)) (s.once n);
        early = λ n h. equal n ∙ s.early n h;
        below = λ n h. equal n ∙ s.below n (omega arith);
        least = each_set (λ (u : Know N B). u.least ≤ clock ws') vs id w (λ j u at. let a : u.least ≤ clock ws = s.least j u at in omega arith) least;
        first = let a : t.first ≤ clock ws = s.first in omega arith;
        times = λ k x a. let b : x < clock ws = s.times k x a in omega arith;
      }

  -- a seat adds notes whose timestamps it drew
  pub drawn_counts : {t : Truth N B} {ws : List ℕ} {vs : List (Know N B)} (id : ℕ) (v : Know N B) (k : ℕ) (l : List N) → Drawn time t ws vs → IsAt vs id v → ((x : ℕ) → Among x (times time l) → (Among x (times time (t.journals k))) ⊎ (Among x v.drawn)) → Drawn time (grown_truth t k l) ws vs
  drawn_counts {t} {ws} {vs} id v k l s e new = record {
    once = s.once;
    early = s.early;
    below = s.below;
    least = s.least;
    first = s.first;
    times = λ i x a. ⊎_elim (λ (p : i ≡ k). let now : (grown_truth t k l).journals i ≡ l = ap (grown_truth t k l).journals p ∙ put_here t.journals k l in let P : List N → Type 0 = λ m. Among x (times time m) in
        ⊎_elim (λ b. s.times k x b) (λ b. ⊎_elim (λ (h : x < clock ws). h) (λ (h : clock ws ≤ x). let f : Know N B → ℕ = λ u. count x u.drawn in let z : total f vs ≡ 0 = s.below x h in let y : f v ≤ total f vs = total_least f vs id v e in absurd (omega arith)) (cases_lt x (clock ws))) (new x (subst P now a)))
        (λ (p : i ≢ k). let P : List N → Type 0 = λ m. Among x (times time m) in s.times i x (subst P (put_else t.journals k l i p) a)) (same_or i k);
  }

  -- the seat draws what the clock shows
  pub drawn_draws : {t : Truth N B} {ws : List ℕ} {vs : List (Know N B)} (ws' : List ℕ) (id : ℕ) (v : Know N B) → Drawn time t ws vs → IsAt vs id v → clock ws' ≡ clock ws + 1 → Drawn time t ws' (set vs id (drew v (clock ws)))
  drawn_draws {t} {ws} {vs} ws' id v s e next =
      let x : ℕ = clock ws in
      let w : Know N B = drew v x in
      let here : count x w.drawn ≡ count x v.drawn + 1 = let a : count x w.drawn ≡ count x v.drawn + count x (x ∷ []) = count-append x v.drawn (x ∷ []) in let b : count x (x ∷ []) ≡ 1 + count x [] = count-here x [] in let z : count x [] ≡ 0 = count-nil x in omega arith in
      let else : (n : ℕ) → x ≢ n → count n w.drawn ≡ count n v.drawn = λ n ne. let a : count n w.drawn ≡ count n v.drawn + count n (x ∷ []) = count-append n v.drawn (x ∷ []) in let b : count n (x ∷ []) ≡ count n [] = count-else n x [] ne in let z : count n [] ≡ 0 = count-nil n in omega arith in
      let equal : (n : ℕ) → x ≢ n → total (λ (u : Know N B). count n u.drawn) (set vs id w) ≡ total (λ (u : Know N B). count n u.drawn) vs = λ n ne. let f : Know N B → ℕ = λ u. count n u.drawn in let a : total f (set vs id w) + f v ≡ total f vs + f w = total_set f vs id v w e in let b : count n w.drawn ≡ count n v.drawn = else n ne in omega arith in
      record {
        once = λ n. ⊎_elim (λ (p : x ≡ n). let Q : ℕ → Type 0 = λ m. total (λ (u : Know N B). count m u.drawn) (set vs id w) ≤ 1 in subst Q p (let f : Know N B → ℕ = λ u. count x u.drawn in let a : total f (set vs id w) + f v ≡ total f vs + f w = total_set f vs id v w e in let z : total f vs ≡ 0 = s.below x (omega arith) in omega arith))
            (λ (p : x ≢ n). let o : total (λ (u : Know N B). count n u.drawn) vs ≤ 1 = s.once n in let q : total (λ (u : Know N B). count n u.drawn) (set vs id w) ≡ total (λ (u : Know N B). count n u.drawn) vs = equal n p in omega arith) (same_or x n);
        early = λ n h. let a : t.first ≤ x = s.first in equal n (λ p. omega arith) ∙ s.early n h;
        below = λ n h. equal n (λ p. omega arith) ∙ s.below n (omega arith);
        least = each_set (λ (u : Know N B). u.least ≤ clock ws') vs id w (λ j u at. let a : u.least ≤ x = s.least j u at in omega arith) (let a : v.least ≤ x = s.least id v e in omega arith);
        first = let a : t.first ≤ x = s.first in omega arith;
        times = λ k y a. let b : y < x = s.times k y a in omega arith;
      }

  pub drawn_splits : {t : Truth N B} {ws : List ℕ} {vs : List (Know N B)} (id : ℕ) (v : Know N B) → Drawn time t ws vs → IsAt vs id v → Drawn time t ws (set vs id (stayed v) ++ given v ∷ [])
  drawn_splits {t} {ws} {vs} id v s e =
      let equal : (n : ℕ) → total (λ (u : Know N B). count n u.drawn) (set vs id (stayed v) ++ given v ∷ []) ≡ total (λ (u : Know N B). count n u.drawn) vs = λ n. let z : count n [] ≡ 0 = count-nil n in total_cut (λ (u : Know N B). count n u.drawn) vs id v (stayed v) (given v) e (omega arith) in
      record {
        once = λ n. let P : ℕ → Type 0 = λ y. y ≤ 1 in subst P (sym (equal n)) (s.once n);
        early = λ n h. equal n ∙ s.early n h;
        below = λ n h. equal n ∙ s.below n h;
        least = each_more (λ (u : Know N B). u.least ≤ clock ws) (set vs id (stayed v)) (given v) (each_set (λ (u : Know N B). u.least ≤ clock ws) vs id (stayed v) s.least (s.least id v e)) (s.least id v e);
        first = s.first;
        times = s.times;
      }

  pub drawn_joins : {t : Truth N B} {ws : List ℕ} {vs : List (Know N B)} (id other : ℕ) (v w : Know N B) → Drawn time t ws vs → IsAt vs id v → other ≢ id → IsAt (set vs id (joined v w)) other w → Drawn time t ws (set (set vs id (joined v w)) other spent)
  drawn_joins {t} {ws} {vs} id other v w s e ne e' =
      let e_w : IsAt vs other w = sym (at_else vs id other (joined v w) ne) ∙ e' in
      let equal : (n : ℕ) → total (λ (u : Know N B). count n u.drawn) (set (set vs id (joined v w)) other spent) ≡ total (λ (u : Know N B). count n u.drawn) vs = λ n. let z : count n [] ≡ 0 = count-nil n in let a : count n (v.drawn ++ w.drawn) ≡ count n v.drawn + count n w.drawn = count-append n v.drawn w.drawn in total_pair (λ (u : Know N B). count n u.drawn) vs id other v w (joined v w) spent e e' (omega arith) in
      record {
        once = λ n. let P : ℕ → Type 0 = λ y. y ≤ 1 in subst P (sym (equal n)) (s.once n);
        early = λ n h. equal n ∙ s.early n h;
        below = λ n h. equal n ∙ s.below n h;
        least = each_set (λ (u : Know N B). u.least ≤ clock ws) (set vs id (joined v w)) other spent (each_set (λ (u : Know N B). u.least ≤ clock ws) vs id (joined v w) s.least (let a : v.least ≤ clock ws = s.least id v e in let b : w.least ≤ clock ws = s.least other w e_w in omega arith)) (omega arith);
        first = s.first;
        times = s.times;
      }
