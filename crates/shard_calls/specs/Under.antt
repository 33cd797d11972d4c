-- What stands between the calls and their turns: a turn as it is worked on, and a write whose row may be shared. Only proofs
-- need it.
use Rattle.std.specs.Prelude.{◌≡◌, ◌⊎◌, ℕ, ◌<◌, ◌≤◌, Bool, true, cond, List}
use Rattle.log_model.specs.declared.logs.Write.{Write}
use Rattle.log_model.specs.declared.logs.Write.TheVariants as writes
use Rattle.log_model.specs.Logs.{key_of}
use Rattle.answer_lines.specs.declared.answers.Wrote.{Wrote}
use Rattle.answer_lines.specs.declared.answers.Wrote.TheVariants as told
use Rattle.request_lines.specs.Requests.{FitsWrite}
use Rattle.turn_table.specs.Knowledge.{at_slot}
use Rattle.turn_table.specs.Seats.{Table, SeatView, IsGiven}
use Rattle.turn_table.specs.declared.turns.Turn.{Turn}
use Rattle.journal_model.specs.declared.notes.PutKind.{PutKind}
use Rattle.journal_model.specs.declared.notes.PutKind.TheVariants.{Insert, Upsert}
use Rattle.journal_model.specs.declared.notes.Note.{Note}
use Rattle.journal_model.specs.Notes.{put_write, tick_of}
use Rattle.shard_core.specs.Keys.{channel_of}
use Rattle.shard_core.specs.Shards.{ChannelShard, ChannelBase}
use Rattle.shard_core.specs.declared.replies.PutReply.{PutReply}
use Rattle.shard_core.specs.declared.replies.PutReply.TheVariants as replies
use Rattle.shard_calls.specs.declared.writes.Change.{Change}
use Rattle.shard_calls.specs.declared.writes.Change.TheVariants.{Put, Remove}
use Rattle.shard_calls.specs.Calls.{IsIdle, TicksFirst}

-- the seat holds this turn of the table and may draw a number, and nothing was done under the turn
pub record IsInside (table : Table ChannelBase) (seat : SeatView Note ChannelBase) (turn : Turn ChannelShard) : Type 0 where
  pub same : seat.table ≡ table
  pub first : 1 ≤ table.first
  pub allowance : 1 ≤ seat.allowance
  pub given : IsGiven seat turn
  pub notes : turn.value.state.notes ≡ at_slot seat.seen turn.slot

-- the write of a change
abbrev pub written : Change → Write
written (Put how row) = put_write how row
written (Remove key) = writes.Delete key

-- the change is one of the collection, and of a key of the channel
pub record FitsIn (base : ChannelBase) (change : Change) : Type 0 where
  pub write : FitsWrite base.collection (written change)
  pub key : channel_of base.collection.channels (key_of (written change)) ≡ base.channel.number

-- what a put is told
abbrev pub put_told : PutKind → PutReply → Wrote
put_told how replies.Exists = told.Exists
put_told Insert (replies.Wrote was) = told.Inserted
put_told Upsert (replies.Wrote was) = told.Was was

-- a look that waits for the tick to come up to its guarantee: the tick is there, or it does not wait; or it writes one
pub record IsReached (guarantee : ℕ) (wait : Bool) (before notes : List Note) (numbers : List ℕ) : Type 0 where
  pub idle : IsIdle notes numbers
  pub reached : wait ≡ true → guarantee ≤ tick_of before

abbrev pub CatchesUp : ℕ → ℕ → ℕ → Bool → List Note → List Note → List ℕ → Type 0
CatchesUp by line guarantee wait before notes numbers = IsReached guarantee wait before notes numbers ⊎ TicksFirst by line guarantee wait before notes numbers
