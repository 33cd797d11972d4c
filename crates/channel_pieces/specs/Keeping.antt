-- How many rows of each segment on nodes are not dead at or before a floor.
use Rattle.std.specs.Prelude.{ℕ, Bool, not, List, map, length}
use Rattle.std.specs.List.{count_by}
use Rattle.journal_model.specs.Puts.{is_dead_by}
use Rattle.journal_model.specs.Views.{Shown}
use Rattle.channel_pieces.specs.declared.keeping.KeptRows.{KeptRows}
use Rattle.channel_pieces.specs.Pieces.{MarkedSegment}
use Rattle.channel_pieces.specs.Counting.{on_nodes}

-- a row that is not dead at or before a floor
abbrev pub outlives : ℕ → Shown → Bool
outlives floor s = not (is_dead_by floor s.mark)

abbrev pub kept_of : ℕ → MarkedSegment → KeptRows
kept_of floor s = record { number = s.number; rows = length s.rows; kept = count_by (outlives floor) s.rows }

-- each segment on nodes, with its rows and those that the floor leaves
abbrev pub kept_on_nodes : ℕ → List MarkedSegment → List KeptRows
kept_on_nodes floor segments = map (kept_of floor) (on_nodes segments)
