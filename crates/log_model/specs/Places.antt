-- Rows by the place of their put in a journal, and their vectors' words side by side.
use Rattle.std.specs.Prelude.{◌≡◌, ℕ, ◌+◌, ◌/◌, ◌<◌, ◌≤◌, Bool, List, [], ◌∷◌, length, take, drop}
use Rattle.std.specs.List.{AllByRecursion}
use Rattle.row_types.specs.Bits.{AreWordsOf}
use Rattle.row_types.specs.declared.rows.Row.{Row}

-- a row, with the position of its put in the journal, and the timestamp
pub record Placed : Type 0 where
  pub position : ℕ
  pub ts : ℕ
  pub row : Row

abbrev pub placed : ℕ → ℕ → Row → Placed
placed position ts row = record { position = position; ts = ts; row = row }

-- a row may stand before another: its position is lower, and its timestamp is not higher
pub record PlacedBefore (row later : Placed) : Type 0 where
  pub lower : row.position < later.position
  pub not_later : row.ts ≤ later.ts

-- each row may stand before each later one
abbrev pub Rise : List Placed → Type 0
Rise [] = Unit {0}
Rise (x ∷ rows) = AllByRecursion (PlacedBefore x) rows × Rise rows

abbrev pub vector_of : Placed → List Bool
vector_of x = x.row.vector

-- the number of words of a vector
abbrev pub width_of : ℕ → ℕ
width_of dim = (dim + 63) / 64

-- one column of words: those of each row's vector, `width` words a row, one row after another
abbrev pub IsColumn : ℕ → List (List Bool) → List ℕ → Type 0
IsColumn width [] words = words ≡ []
IsColumn width (vector ∷ vectors) words = (width ≤ length words) × AreWordsOf vector (take width words) × IsColumn width vectors (drop width words)
