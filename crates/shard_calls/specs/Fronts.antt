-- The front of a collection, and the seats of those who call it.
use Rattle.std.specs.Prelude.{◌≡◌, ℕ, ◌+◌, ◌<◌, ◌≤◌, List, [], length, map}
use Rattle.turn_facts.specs.Counts.{Among}
use Rattle.turn_facts.specs.Prefixes.{IsAt}
use Rattle.turn_table.specs.Seats.{Table, SeatView}
use Rattle.coarse_lists.specs.declared.collections.Collection.{Collection}
use Rattle.coarse_lists.specs.Collections.{IsInRange}
use Rattle.journal_model.specs.declared.notes.Note.{Note}
use Rattle.shard_core.specs.Shards.{ChannelShard, ChannelBase, base_of}

-- the table of turns, the collection, and the floor of all shards
pub record FrontView : Type 0 where
  pub table : Table ChannelBase
  pub collection : Collection
  pub floor : ℕ

abbrev pub front_of : Table ChannelBase → Collection → ℕ → FrontView
front_of table collection floor = record { table = table; collection = collection; floor = floor }

abbrev pub notes_of : ChannelShard → List Note
notes_of shard = shard.state.notes

-- the base of a channel of a collection, where all have one floor
abbrev pub base_at : Collection → ℕ → ℕ → ChannelBase
base_at collection floor k = record { channel = record { number = k; seal_rows = collection.seal_rows }; collection = collection; floor = floor }

-- these are the bases of all channels of a collection, in their order, with one floor
pub record AreBases (collection : Collection) (floor : ℕ) (bases : List ChannelBase) : Type 0 where
  pub range : IsInRange collection
  pub many : length bases ≡ collection.channels
  pub each : (k : ℕ) (b : ChannelBase) → IsAt bases k b → b ≡ base_at collection floor k

-- shards of all channels of some collection, in their order, with one floor
pub record AreShards (shards : List ChannelShard) : Type 0 where
  pub collection : Collection
  pub floor : ℕ
  pub bases : AreBases collection floor (map base_of shards)

-- what every front keeps
pub record IsFront (front : FrontView) : Type 0 where
  pub bases : AreBases front.collection front.floor front.table.bases
  pub first : 1 ≤ front.table.first

-- ---- seats

-- the seat is of the table, in no turn, and may draw at least n numbers
pub record IsReady (table : Table ChannelBase) (n : ℕ) (seat : SeatView Note ChannelBase) : Type 0 where
  pub same : seat.table ≡ table
  pub rest : seat.turns ≡ []
  pub enough : n ≤ seat.allowance

-- what a call leaves of a seat: it may have drawn n numbers, each for one of its allowance, and has those that it had
pub record Spends (n : ℕ) (old new : SeatView Note ChannelBase) : Type 0 where
  pub table : new.table ≡ old.table
  pub turns : new.turns ≡ old.turns
  pub number : new.number ≡ old.number
  pub joined : new.joined ≡ old.joined
  pub allowance : old.allowance ≤ new.allowance + n
  pub share : new.allowance + length new.drawn ≡ old.allowance + length old.drawn
  pub drawn : (x : ℕ) → Among x old.drawn → Among x new.drawn
