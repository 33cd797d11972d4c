-- What pieces count, and the node that has the fewest rows.
use Rattle.std.specs.Prelude.{ℕ, ◌<◌, ◌≤◌, Bool, not, is_some, List, length}
use Rattle.std.specs.List.{filter, count_by, sum_by}
use Rattle.journal_model.specs.declared.notes.Home.TheVariants.{Leader, Node}
use Rattle.journal_model.specs.Views.{Shown}
use Rattle.channel_pieces.specs.declared.counting.PieceCounts.{PieceCounts}
use Rattle.channel_pieces.specs.Pieces.{MarkedSegment, MarkedLayout, is_at}

-- a row that did not die
abbrev pub is_unmarked : Shown → Bool
is_unmarked s = not (is_some s.mark)

abbrev pub rows_of : List MarkedSegment → ℕ
rows_of segments = sum_by (λ s. length s.rows) segments

abbrev pub live_rows_of : List MarkedSegment → ℕ
live_rows_of segments = sum_by (λ s. count_by is_unmarked s.rows) segments

-- the segments that do not wait at the leader
abbrev pub on_nodes : List MarkedSegment → List MarkedSegment
on_nodes segments = filter (λ s. not (is_at Leader s)) segments

abbrev pub counted_with : ℕ → List MarkedSegment → PieceCounts
counted_with tail segments = record {
  tail = tail;
  waiting = length (filter (is_at Leader) segments);
  node_rows = rows_of (on_nodes segments);
  node_live = live_rows_of (on_nodes segments);
}

-- the rows of the tail, the segments that wait, and the rows on nodes, all of them and those that did not die
abbrev pub counted : MarkedLayout → PieceCounts
counted layout = counted_with (length layout.tail) layout.segments

-- the rows of the segments on a node
abbrev pub rows_on : ℕ → List MarkedSegment → ℕ
rows_on node segments = rows_of (filter (is_at (Node node)) segments)

-- of so many nodes the one with the fewest rows, and of several such nodes the least
pub record IsLeast (nodes : ℕ) (segments : List MarkedSegment) (node : ℕ) : Type 0 where
  pub below : node < nodes
  pub fewest : (other : ℕ) → other < nodes → rows_on node segments ≤ rows_on other segments
  pub first : (other : ℕ) → other < node → rows_on node segments < rows_on other segments
