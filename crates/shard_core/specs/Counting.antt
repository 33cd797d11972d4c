-- What a shard counts, and where its segments stand.
use Rattle.std.specs.Prelude.{ℕ, ◌<◌, ◌≤◌, Bool, List, length, map}
use Rattle.std.specs.List.{filter, list_any}
use Rattle.journal_model.specs.declared.notes.Home.TheVariants.{Node}
use Rattle.journal_model.specs.declared.notes.Note.{Note}
use Rattle.journal_model.specs.Layouts.{Channel, Segment, is_home, rows_in, layout_of}
use Rattle.journal_model.specs.Counts.{Counts as ChannelCounts, waiting_in}
use Rattle.shard_core.specs.declared.counting.Counts.{Counts}

abbrev pub counts_told : Counts → ChannelCounts
counts_told c = record { live = c.live; tail = c.tail; waiting = c.waiting; node_rows = c.node_rows; node_live = c.node_live }

abbrev pub is_on : ℕ → Segment → Bool
is_on node s = list_any (is_home (Node node)) s.homes

-- the numbers of the segments that wait at the leader, rising
abbrev pub waiting_numbers : Channel → List Note → List ℕ
waiting_numbers channel notes = map (λ s. s.number) (waiting_in (layout_of channel notes).segments)

-- the numbers of the segments on a node, rising
abbrev pub numbers_on : Channel → List Note → ℕ → List ℕ
numbers_on channel notes node = map (λ s. s.number) (filter (is_on node) (layout_of channel notes).segments)

-- how many rows the segments on a node have
abbrev pub rows_on : List Segment → ℕ → ℕ
rows_on segments node = length (rows_in (filter (is_on node) segments))

-- of so many nodes the one with the fewest rows, and of several such nodes the least
pub record IsLeastNode (nodes : ℕ) (segments : List Segment) (node : ℕ) : Type 0 where
  pub below : node < nodes
  pub fewest : (other : ℕ) → other < nodes → rows_on segments node ≤ rows_on segments other
  pub first : (other : ℕ) → other < node → rows_on segments node < rows_on segments other
