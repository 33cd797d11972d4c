-- What the types keep of their fields; no caller needs it.
use Rattle.std.specs.Prelude.{ℕ, ◌+◌, ◌*◌, ◌≤◌, List, ◌++◌, map}
use Rattle.std.specs.List.{AllByRecursion}
use Rattle.log_model.specs.Places.{Placed, width_of, vector_of, IsColumn}
use Rattle.growing_segment.specs.Tails.{Rows, HasDimension, HasChunkDimension, IsWhole, AreOfTail, rows_in}

-- of the fields of a chunk's block: the words are those of the rows, and there was room for a whole chunk
pub record IsBlock (dim : ℕ) (rows : List Placed) (words : List ℕ) (row_room word_room : ℕ) : Type 0 where
  pub dim_fits : dim ≤ 4096
  pub fit : AllByRecursion (HasDimension dim) rows
  pub column : IsColumn (width_of dim) (map vector_of rows) words
  pub holds_rows : 256 ≤ row_room
  pub holds_words : 256 * width_of dim ≤ word_room

-- of the fields of a tail, and of a shared one
pub record KeepsTail (dim : ℕ) (chunks : List Rows) (latest : List Placed) : Type 0 where
  pub dim_fits : dim ≤ 4096
  pub whole : AllByRecursion IsWhole chunks
  pub dims : AllByRecursion (HasChunkDimension dim) chunks
  pub rows_fit : AreOfTail dim (rows_in chunks ++ latest)

-- of the fields of a key index: all its nodes have room among the spare ones
pub record IsIndex (nodes spare capacity : ℕ) : Type 0 where
  pub room : spare + nodes ≤ capacity
