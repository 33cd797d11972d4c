-- Sums over a list, where an element changes, comes, or is one of two.
use Rattle.std.proofs.Common.{◌≡◌, ℕ, zero, suc, ◌+◌, ◌<◌, ◌≤◌, ◌≢◌, List, [], ◌∷◌, ◌++◌, set, refl, ap, sym, ⊎_elim, arith}
use Rattle.std.proofs.lemmas.Bool.{cases_lt}
use mathlib.Core.Option.{some-injective, some-ne-none}
use Rattle.turn_facts.specs.Counts.{total}
use Rattle.turn_facts.specs.Prefixes.{IsAt}

module _ {C : Type 0} (f : C → ℕ) where
  pub total_one : (v : C) → total f (v ∷ []) ≡ f v
  unfolding total
  total_one v = omega arith

  pub total_set : (vs : List C) (id : ℕ) (v w : C) → IsAt vs id v → total f (set vs id w) + f v ≡ total f vs + f w
  unfolding total
  total_set [] id v w e = absurd (some-ne-none v (sym e))
  total_set (x ∷ vs) zero v w e = let h : f x ≡ f v = ap f (some-injective x v e) in omega arith
  total_set (x ∷ vs) (suc id) v w e = let h : total f (set vs id w) + f v ≡ total f vs + f w = total_set vs id v w e in omega arith

  pub total_more : (vs : List C) (w : C) → total f (vs ++ w ∷ []) ≡ total f vs + f w
  unfolding total
  total_more [] w = omega arith
  total_more (x ∷ vs) w = let h : total f (vs ++ w ∷ []) ≡ total f vs + f w = total_more vs w in omega arith

  pub total_least : (vs : List C) (id : ℕ) (v : C) → IsAt vs id v → f v ≤ total f vs
  unfolding total
  total_least [] id v e = absurd (some-ne-none v (sym e))
  total_least (x ∷ vs) zero v e = let h : f x ≡ f v = ap f (some-injective x v e) in omega arith
  total_least (x ∷ vs) (suc id) v e = let h : f v ≤ total f vs = total_least vs id v e in omega arith

  pub total_two : (vs : List C) (i j : ℕ) (v w : C) → IsAt vs i v → IsAt vs j w → i ≢ j → f v + f w ≤ total f vs
  unfolding total
  total_two [] i j v w d e n = absurd (some-ne-none v (sym d))
  total_two (x ∷ vs) zero zero v w d e n = absurd (n refl)
  total_two (x ∷ vs) zero (suc j) v w d e n = let g : f x ≡ f v = ap f (some-injective x v d) in let h : f w ≤ total f vs = total_least vs j w e in omega arith
  total_two (x ∷ vs) (suc i) zero v w d e n = let g : f x ≡ f w = ap f (some-injective x w e) in let h : f v ≤ total f vs = total_least vs i v d in omega arith
  total_two (x ∷ vs) (suc i) (suc j) v w d e n = let h : f v + f w ≤ total f vs = total_two vs i j v w d e (λ p. n (ap suc p)) in omega arith

  -- where the sum is not 0, it is not 0 at some place
  pub total_some : (vs : List C) → 1 ≤ total f vs → (j : ℕ) × (v : C) × IsAt vs j v × (1 ≤ f v)
  unfolding total
  total_some [] h = absurd (omega arith)
  total_some (x ∷ vs) h = ⊎_elim (λ (p : 0 < f x). (0, x, refl, omega arith)) (λ (p : f x ≤ 0). let t = total_some vs (omega arith) in (suc t.0, t.1, t.2, t.3)) (cases_lt 0 (f x))

  -- where one place has all of the sum, no other has any of it
  pub total_alone : (vs : List C) (i j : ℕ) (v w : C) → IsAt vs i v → IsAt vs j w → i ≢ j → total f vs ≤ f v → f w ≡ 0
  total_alone vs i j v w d e n h = let t : f v + f w ≤ total f vs = total_two vs i j v w d e n in omega arith

module _ {C : Type 0} where
  pub total_le : (f g : C → ℕ) → ((v : C) → f v ≤ g v) → (vs : List C) → total f vs ≤ total g vs
  unfolding total
  total_le f g h [] = omega arith
  total_le f g h (x ∷ vs) = let a : total f vs ≤ total g vs = total_le f g h vs in let b : f x ≤ g x = h x in omega arith

  -- by how much the sums differ at one place they differ at least together
  pub total_below : (f g : C → ℕ) → ((v : C) → f v ≤ g v) → (vs : List C) (id : ℕ) (v : C) → IsAt vs id v → total f vs + g v ≤ total g vs + f v
  unfolding total
  total_below f g h [] id v e = absurd (some-ne-none v (sym e))
  total_below f g h (x ∷ vs) zero v e = let a : total f vs ≤ total g vs = total_le f g h vs in let b : f x ≡ f v = ap f (some-injective x v e) in let c : g x ≡ g v = ap g (some-injective x v e) in omega arith
  total_below f g h (x ∷ vs) (suc id) v e = let a : total f vs + g v ≤ total g vs + f v = total_below f g h vs id v e in let b : f x ≤ g x = h x in omega arith

  -- where two become two others of the same sum
  pub total_pair : (f : C → ℕ) (vs : List C) (id other : ℕ) (v w v' w' : C) → IsAt vs id v → IsAt (set vs id v') other w → f v' + f w' ≡ f v + f w → total f (set (set vs id v') other w') ≡ total f vs
  total_pair f vs id other v w v' w' d e h = let a : total f (set vs id v') + f v ≡ total f vs + f v' = total_set f vs id v v' d in let b : total f (set (set vs id v') other w') + f w ≡ total f (set vs id v') + f w' = total_set f (set vs id v') other w w' e in omega arith

  -- where one becomes two of the same sum
  pub total_cut : (f : C → ℕ) (vs : List C) (id : ℕ) (v v' w : C) → IsAt vs id v → f v' + f w ≡ f v → total f (set vs id v' ++ w ∷ []) ≡ total f vs
  total_cut f vs id v v' w d h = let a : total f (set vs id v') + f v ≡ total f vs + f v' = total_set f vs id v v' d in let b : total f (set vs id v' ++ w ∷ []) ≡ total f (set vs id v') + f w = total_more f (set vs id v') w in omega arith
