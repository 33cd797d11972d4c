-- What the calls of a keeper do to the objects that it tells.
use Rattle.std.specs.Prelude.{◌≡◌, ◌⊎◌, ℕ, List, map, Option, Some, None, Result, MatchResult}
use Rattle.std.specs.Ordering.{nat_cmp}
use Rattle.std.specs.FinMap as fin

-- objects by their names, each of some bytes
abbrev pub Objects : Type 0
Objects = fin.FinMap nat_cmp (List ℕ)

-- a fact on the objects before and after a call, where they are told
abbrev pub WhereTold : Option Objects → Option Objects → (Objects → Objects → Type 0) → Type 0
WhereTold None new fact = Unit {0}
WhereTold (Some old) None fact = ⊥
WhereTold (Some old) (Some new) fact = fact old new

-- the change was made; or the call failed, and it was made or not
abbrev pub Changes : {E : Type 0} → Option Objects → Option Objects → Result (Unit {0}) E → (Objects → Objects) → Type 0
Changes old new result change = WhereTold old new (λ before after. MatchResult result (λ _. after ≡ change before) (λ _. (after ≡ before) ⊎ (after ≡ change before)))

-- nothing changes
abbrev pub Stays : Option Objects → Option Objects → Type 0
Stays old new = WhereTold old new (λ before after. after ≡ before)

-- the objects that some entries are, each of what `bytes_of` sees in it
abbrev pub objects_of : {V : Type 0} → (V → List ℕ) → List (ℕ × V) → Objects
objects_of bytes_of entries = fin.from_entries (map (λ entry. (entry.0, bytes_of entry.1)) entries)

-- the objects with other bytes under a name, or with none
abbrev pub spoiled : ℕ → Option (List ℕ) → Objects → Objects
spoiled name None objects = fin.remove objects name
spoiled name (Some bytes) objects = fin.insert objects name bytes
