-- How often a number stands in a list, and sums over what seats know.
use Rattle.std.specs.Prelude.{ℕ, ◌+◌, ◌≤◌, ◌==◌, cond, List, [], ◌∷◌}

-- how often x stands in a list
unfoldable pub count : ℕ → List ℕ → ℕ
count x [] = 0
count x (y ∷ l) = cond (y == x) 1 0 + count x l

-- x stands in a list
abbrev pub Among : ℕ → List ℕ → Type 0
Among x l = 1 ≤ count x l

-- no number stands twice in a list
abbrev pub NoneTwice : List ℕ → Type 0
NoneTwice l = (x : ℕ) → count x l ≤ 1

-- the sum of f over a list
unfoldable pub total : {C : Type 0} → (C → ℕ) → List C → ℕ
total f [] = 0
total f (v ∷ vs) = f v + total f vs
