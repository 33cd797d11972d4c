-- What a client of the lock shows for each step, over plain lists: its words, the values at home, and what each seat knows.
-- `holds words homes knowns` is the client's rule. Each seat has a number, and `knowns` at that number is what it knows.
use Rattle.std.specs.Prelude.{◌≡◌, ◌≢◌, ℕ, ◌<◌, ◌^◌, List, [], ◌∷◌, ◌++◌, map, slice_index_or, slice_set, Option, Some}
use mathlib.Core.Option.{none, some}
use mathlib.Core.Option as maybe
use lib.ListN.{get_elem?}

-- slot by slot: `none` is out, and `some (Some x)` is at home with the value x
abbrev pub Homes : Type 0 → Type 0
Homes S = List (maybe.Option (Option S))

-- the value x is at home in the slot k
abbrev pub IsHome : {S : Type 0} → Homes S → ℕ → S → Type 0
IsHome hs k x = get_elem? hs k ≡ some (some (Some x))

-- the value of the slot k is out
abbrev pub IsOut : {S : Type 0} → Homes S → ℕ → Type 0
IsOut hs k = get_elem? hs k ≡ some none

-- the values xs, each at home in its slot
abbrev pub all_home : {S : Type 0} → List S → Homes S
all_home xs = map (λ x. some (Some x)) xs

module _ {S C : Type 0} (holds : List ℕ → Homes S → List C → Type 0) where
  -- whatever the others know, the rule stays when the seat id, which knows v, takes the value of the slot k and then knows some w
  abbrev pub Gains : ℕ → C → ℕ → (S → C → Type 0) → Type 0
  Gains id v k then = (ws : List ℕ) (hs : Homes S) (vs : List C) (x : S) → holds ws hs vs → get_elem? vs id ≡ some v → IsHome hs k x
      → (w : C) × holds ws (slice_set hs k none) (slice_set vs id w) × then x w

  -- the same when it gives the value y back to the slot k
  abbrev pub Gives : ℕ → C → ℕ → S → (C → Type 0) → Type 0
  Gives id v k y then = (ws : List ℕ) (hs : Homes S) (vs : List C) → holds ws hs vs → get_elem? vs id ≡ some v → IsOut hs k
      → (w : C) × holds ws (slice_set hs k (some (Some y))) (slice_set vs id w) × then w

  -- the same when the word i becomes f of what it was
  abbrev pub Moves : ℕ → C → ℕ → (ℕ → ℕ) → (ℕ → C → Type 0) → Type 0
  Moves id v i f then = (ws : List ℕ) (hs : Homes S) (vs : List C) → holds ws hs vs → get_elem? vs id ≡ some v → slice_index_or ws i 0 < 2 ^ 64
      → (w : C) × holds (slice_set ws i (f (slice_index_or ws i 0))) hs (slice_set vs id w) × then (slice_index_or ws i 0) w

  -- the same while the value of the slot k is out
  abbrev pub MovesOut : ℕ → C → ℕ → ℕ → (ℕ → ℕ) → (ℕ → C → Type 0) → Type 0
  MovesOut id v k i f then = (ws : List ℕ) (hs : Homes S) (vs : List C) → holds ws hs vs → get_elem? vs id ≡ some v → IsOut hs k → slice_index_or ws i 0 < 2 ^ 64
      → (w : C) × holds (slice_set ws i (f (slice_index_or ws i 0))) hs (slice_set vs id w) × then (slice_index_or ws i 0) w

  -- what the seat id knows is cut in two, and a new seat has the second
  abbrev pub Forks : ℕ → C → C → C → Type 0
  Forks id v left right = (ws : List ℕ) (hs : Homes S) (vs : List C) → holds ws hs vs → get_elem? vs id ≡ some v → holds ws hs (slice_set vs id left ++ right ∷ [])

  -- the seat id takes in what another seat knows, and the other is spent
  abbrev pub Merges : ℕ → C → ℕ → C → C → C → Type 0
  Merges id v other w both spent = (ws : List ℕ) (hs : Homes S) (vs : List C) → holds ws hs vs → get_elem? vs id ≡ some v → other ≢ id → get_elem? (slice_set vs id both) other ≡ some w
      → holds ws hs (slice_set (slice_set vs id both) other spent)

  -- a seat that knows v can tell that no value is out
  abbrev pub AllHome : ℕ → C → Type 0
  AllHome id v = (ws : List ℕ) (hs : Homes S) (vs : List C) → holds ws hs vs → get_elem? vs id ≡ some v → (k : ℕ) → get_elem? hs k ≢ some none

  -- what `close` tells: the rule held of the client's words ws, of the values xs, each of them at home, and of what the seat id knew
  abbrev pub Ended : ℕ → C → List ℕ → List S → Type 0
  Ended id v ws xs = (vs : List C) × holds ws (all_home xs) vs × (get_elem? vs id ≡ some v)
