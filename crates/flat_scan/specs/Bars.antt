-- When a row is too far to be kept; only proofs need it.
use Rattle.std.specs.Prelude.{◌≡◌, ℕ, ◌+◌, ◌*◌, ◌/◌, ◌<◌, ◌≤◌, Bool, true, false, List, slice_get, Option, Some, None}
use Rattle.std.specs.Ordering.{is_lt}
use Rattle.row_types.specs.declared.hits.Distance.{Distance}
use Rattle.row_types.specs.declared.hits.Hit.{Hit}
use Rattle.row_types.specs.Hits.{value_cmp, num_of, den_of}

-- whether a distance is greater than that of a hit, whatever the keys
abbrev pub is_past : Option Hit → Distance → Bool
is_past None distance = false
is_past (Some last) distance = is_lt (value_cmp last.distance distance)

-- the distances of the rows from a number up to another are all greater than that of a hit
abbrev pub AreAllPast : (ℕ → Distance) → Option Hit → ℕ → ℕ → Type 0
AreAllPast far hit from to = (j : ℕ) → from ≤ j → j < to → is_past hit (far j) ≡ true

-- distances are those of the rows from a number on
abbrev pub AreDistancesFrom : (ℕ → Distance) → ℕ → List Distance → Type 0
AreDistancesFrom far from distances = (j : ℕ) (d : Distance) → slice_get distances j ≡ Some d → d ≡ far (from + j)

-- a turn of four rows, from one up to another, with their distances, where all rows of the turns before it are past a hit
pub record IsNextFour (far : ℕ → Distance) (hit : Option Hit) (from to turn : ℕ) (distances : List Distance) : Type 0 where
  pub start : from ≤ turn
  pub within : turn < to
  pub same : AreDistancesFrom far (4 * turn) distances
  pub before : AreAllPast far hit (4 * from) (4 * turn)

-- the greatest number of bits that is not past a hit; without one, the greatest number of 32 bits
abbrev pub whole_of : Option Hit → ℕ
whole_of None = 4294967295
whole_of (Some last) = num_of last.distance / den_of last.distance

-- the parts of its distance; without a hit no fraction is greater than 0/0 by cross products
abbrev pub num_in : Option Hit → ℕ
num_in None = 0
num_in (Some last) = num_of last.distance

abbrev pub den_in : Option Hit → ℕ
den_in None = 0
den_in (Some last) = den_of last.distance
