-- Words on lists: an element, the union of parts, and rising order by a number.
use Rattle.std.specs.Prelude.{◌≡◌, ◌⊎◌, ℕ, nat_le, if◌then◌else◌, List, [], ◌∷◌, ◌++◌}

-- an element of a list
abbrev pub IsIn : {X : Type 0} → X → List X → Type 0
IsIn x [] = ⊥
IsIn x (y ∷ ys) = (x ≡ y) ⊎ IsIn x ys

-- all items of some lists, one list after another
abbrev pub joined : {X : Type 0} → List (List X) → List X
joined [] = []
joined (part ∷ parts) = part ++ joined parts

-- an item into a list that rises by a number of each, at its place
abbrev pub insert_by : {X : Type 0} → (X → ℕ) → X → List X → List X
insert_by at x [] = x ∷ []
insert_by at x (y ∷ ys) = if nat_le (at x) (at y) then x ∷ y ∷ ys else y ∷ insert_by at x ys

-- the items of a list, rising by a number of each
abbrev pub rising_by : {X : Type 0} → (X → ℕ) → List X → List X
rising_by at [] = []
rising_by at (x ∷ xs) = insert_by at x (rising_by at xs)
