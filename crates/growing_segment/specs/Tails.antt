-- What contracts see of a tail, of a chunk of it, and of the key index.
use Rattle.std.specs.Prelude.{◌≡◌, ℕ, ◌≤◌, List, [], ◌∷◌, ◌++◌, length}
use Rattle.std.specs.List.{AllByRecursion}
use Rattle.log_model.specs.Places.{Placed, Rise}

-- a tail: its dimension, its rows in the order in which they were put, and how many more it takes without memory
pub record Tail : Type 0 where
  pub dim : ℕ
  pub rows : List Placed
  pub spare : ℕ

-- rows that no call changes any more, all of one dimension
pub record Rows : Type 0 where
  pub dim : ℕ
  pub rows : List Placed

abbrev pub HasDimension : ℕ → Placed → Type 0
HasDimension dim x = length x.row.vector ≡ dim

-- what every tail keeps of its rows: they are few enough, of its dimension, and rise
pub record AreOfTail (dim : ℕ) (rows : List Placed) : Type 0 where
  pub few : length rows ≤ 65536
  pub fit : AllByRecursion (HasDimension dim) rows
  pub rise : Rise rows

-- a chunk that is frozen is full
abbrev pub IsWhole : Rows → Type 0
IsWhole chunk = length chunk.rows ≡ 256

abbrev pub HasChunkDimension : ℕ → Rows → Type 0
HasChunkDimension dim chunk = chunk.dim ≡ dim

-- the rows of chunks, one chunk after another
abbrev pub rows_in : List Rows → List Placed
rows_in [] = []
rows_in (chunk ∷ chunks) = chunk.rows ++ rows_in chunks
