-- A list that a loop changes from its front.
use Rattle.std.proofs.Common.{◌≡◌, ℕ, zero, suc, ◌<◌, ◌+◌, List, [], ◌∷◌, ◌++◌, map, take, drop, length, get_or, refl, sym, ap, ap₂, ◌∙◌, arith}
use Rattle.std.specs.Prelude.{slice_set}

module _ {X : Type 0} (f : X → X) where
  -- the first items are changed, the others not
  abbrev pub front : ℕ → List X → List X
  front i xs = map f (take i xs) ++ drop i xs

  front_suc : (i : ℕ) (xs : List X) (d : X) → i < length xs → slice_set (front i xs) i (f (get_or (front i xs) i d)) ≡ front (suc i) xs
  front_suc i [] d lt = absurd (omega arith)
  front_suc zero (x ∷ xs) d lt = refl
  front_suc (suc i) (x ∷ xs) d lt = ap (λ l. f x ∷ l) (front_suc i xs d (omega arith))

  pub front_set : (i : ℕ) (xs : List X) (x : X) → i < length xs → get_or (front i xs) i x ≡ x → slice_set (front i xs) i (f x) ≡ front (i + 1) xs
  front_set i xs x lt is = ap (λ y. slice_set (front i xs) i (f y)) (sym is) ∙ front_suc i xs x lt ∙ ap (λ n. front n xs) (let e : suc i ≡ i + 1 = omega arith in e)

  -- a test that the change does not touch
  pub front_alike : {Y : Type 0} (g : X → Y) → ((x : X) → g (f x) ≡ g x) → (i : ℕ) (xs : List X) → map g (front i xs) ≡ map g xs
  front_alike g same zero xs = refl
  front_alike g same (suc i) [] = refl
  front_alike g same (suc i) (x ∷ xs) = ap₂ (λ y l. y ∷ l) (same x) (front_alike g same i xs)

pub set_same : {X : Type 0} (xs : List X) (i : ℕ) (x : X) → get_or xs i x ≡ x → slice_set xs i x ≡ xs
set_same [] i x e = refl
set_same (y ∷ xs) zero x e = ap (λ z. z ∷ xs) (sym e)
set_same (y ∷ xs) (suc i) x e = ap (λ l. y ∷ l) (set_same xs i x e)

pub any_default : {X : Type 0} (xs : List X) (i : ℕ) (d e : X) → i < length xs → get_or xs i d ≡ get_or xs i e
any_default [] i d e lt = absurd (omega arith)
any_default (x ∷ xs) zero d e lt = refl
any_default (x ∷ xs) (suc i) d e lt = any_default xs i d e (omega arith)
