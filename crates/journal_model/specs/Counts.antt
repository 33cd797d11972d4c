-- What a channel counts.
use Rattle.std.specs.Prelude.{ℕ, ◌+◌, ◌*◌, ◌<◌, ◌≤◌, Bool, not, is_some, List, length}
use Rattle.std.specs.List.{filter, list_any, count_by, AllByRecursion}
use Rattle.std.specs.FinMap as fin
use Rattle.journal_model.specs.declared.notes.Home.TheVariants.{Leader}
use Rattle.journal_model.specs.declared.notes.Note.{Note}
use Rattle.journal_model.specs.Notes.{live_in}
use Rattle.journal_model.specs.Puts.{death}
use Rattle.journal_model.specs.Layouts.{Channel, Segment, Layout, is_home, rows_in, layout_of}
use Rattle.log_model.specs.Places.{Placed}

-- a row that no later note ends
abbrev pub is_alive : List Note → Placed → Bool
is_alive notes x = not (is_some (death notes x))

abbrev pub is_waiting : Segment → Bool
is_waiting s = list_any (is_home Leader) s.homes

abbrev pub waiting_in : List Segment → List Segment
waiting_in segments = filter is_waiting segments

-- the segments on nodes, in rising order
abbrev pub on_nodes : List Segment → List Segment
on_nodes segments = filter (λ s. not (is_waiting s)) segments

pub record Counts : Type 0 where
  pub live : ℕ
  pub tail : ℕ
  pub waiting : ℕ
  pub node_rows : ℕ
  pub node_live : ℕ

abbrev pub counted : List Note → Layout → Counts
counted notes layout = record {
  live = fin.len (live_in notes);
  tail = length layout.tail;
  waiting = length (waiting_in layout.segments);
  node_rows = length (rows_in (on_nodes layout.segments));
  node_live = count_by (is_alive notes) (rows_in (on_nodes layout.segments));
}

abbrev pub counts_of : Channel → List Note → Counts
counts_of channel notes = counted notes (layout_of channel notes)

-- the counts bound each other
pub record IsBounded (channel : Channel) (c : Counts) : Type 0 where
  pub node_live : c.node_live ≤ c.node_rows
  pub live_least : c.node_live ≤ c.live
  pub live_most : c.live ≤ c.tail + c.waiting * channel.seal_rows + c.node_live

-- a tail is shorter than `seal_rows`, and no segment is longer
pub record IsSized (channel : Channel) (layout : Layout) : Type 0 where
  pub tail : length layout.tail < channel.seal_rows
  pub pieces : AllByRecursion (λ s. length s.piece ≤ channel.seal_rows) layout.segments
