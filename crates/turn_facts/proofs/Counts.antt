-- How often a number stands in a list.
use Rattle.std.proofs.Common.{◌≡◌, ℕ, zero, suc, ◌≤◌, drop, ◌+◌, ◌≢◌, cond, Bool, List, [], ◌∷◌, ◌++◌, refl, ap, arith, eqb, eq-eqb, ne_eqb}
use Rattle.turn_facts.specs.Counts.{count}

pub count-nil : (x : ℕ) → count x [] ≡ 0
unfolding count
count-nil x = refl

pub count-here : (x : ℕ) (l : List ℕ) → count x (x ∷ l) ≡ 1 + count x l
unfolding count
count-here x l = ap (λ (b : Bool). cond b 1 0 + count x l) (eq-eqb x x refl)

pub count-else : (x y : ℕ) (l : List ℕ) → y ≢ x → count x (y ∷ l) ≡ count x l
unfolding count
count-else x y l n = let e : cond (eqb y x) 1 0 + count x l ≡ 0 + count x l = ap (λ (b : Bool). cond b 1 0 + count x l) (ne_eqb y x n) in omega arith

pub count-append : (x : ℕ) (l m : List ℕ) → count x (l ++ m) ≡ count x l + count x m
unfolding count
count-append x [] m = omega arith
count-append x (y ∷ l) m = let e : count x (l ++ m) ≡ count x l + count x m = count-append x l m in omega arith

pub count-drop : (x n : ℕ) (l : List ℕ) → count x (drop n l) ≤ count x l
unfolding count
count-drop x zero l = omega arith
count-drop x (suc n) [] = omega arith
count-drop x (suc n) (y ∷ l) = let h : count x (drop n l) ≤ count x l = count-drop x n l in omega arith
