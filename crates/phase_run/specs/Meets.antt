-- What a meet makes of the shards of channels, and of their counts.
use Rattle.std.specs.Prelude.{◌≡◌, ◌⊎◌, ℕ, ◌+◌, ◌*◌, nat_lt, cond, List, [], ◌∷◌, ◌++◌}
use Rattle.answer_lines.specs.declared.answers.MeetReply.{MeetReply}
use Rattle.journal_model.specs.declared.notes.Note.{Note}
use Rattle.journal_model.specs.Runs.{IsSound}
use Rattle.journal_model.specs.Counts.{Counts, counts_of}
use Rattle.shard_core.specs.Keys.{AreKeysIn}
use Rattle.shard_core.specs.Shards.{ChannelShard}
use Rattle.phase_model.specs.Rests.{Rest}
use Rattle.phase_model.specs.Meets.{meet_tick}

-- the journal behind the tick of the meet
abbrev pub met_notes : ℕ → ChannelShard → List Note
met_notes ts shard = shard.state.notes ++ meet_tick 0 ts ∷ []

-- a channel has met: its tick is its last note, and its floor; what the shard keeps stands
pub record IsMet (ts : ℕ) (old new : ChannelShard) : Type 0 where
  pub notes : new.state.notes ≡ met_notes ts old
  pub floor : new.state.floor ≡ ts
  pub collection : new.collection ≡ old.collection
  pub channel : new.channel ≡ old.channel
  pub sound : IsSound new.channel new.state
  pub keys : AreKeysIn new.collection.channels new.channel.number new.state.notes

-- a channel is as it was
pub record Stays (old new : ChannelShard) : Type 0 where
  pub state : new.state ≡ old.state
  pub collection : new.collection ≡ old.collection
  pub channel : new.channel ≡ old.channel

-- what stands of a channel where memory was wanting: it has met, or is as it was
abbrev pub MayHaveMet : ℕ → ChannelShard → ChannelShard → Type 0
MayHaveMet ts old new = IsMet ts old new ⊎ Stays old new

-- the journals, the clock and the floor behind a meet at the number ts
abbrev pub met_rest : Rest → ℕ → List (List Note) → Rest
met_rest old ts journals = record { clock = ts + 1; met = ts; floor = ts; mine = old.mine; journals = journals }

-- ---- counts

-- 1 where more than half of the rows on nodes are dead
abbrev pub due_of : Counts → ℕ
due_of counts = cond (nat_lt (2 * counts.node_live) counts.node_rows) 1 0

-- a count of all channels together, behind the ticks of a meet
abbrev pub total_met : (Counts → ℕ) → ℕ → List ChannelShard → ℕ
total_met part ts [] = 0
total_met part ts (shard ∷ shards) = part (counts_of shard.channel (met_notes ts shard)) + total_met part ts shards

-- the counts of these shards together, once they have met
pub record AreCountsOf (ts : ℕ) (shards : List ChannelShard) (counted : MeetReply) : Type 0 where
  pub ts_is : counted.ts.0 ≡ ts
  pub live : counted.live ≡ total_met (λ c. c.live) ts shards
  pub tail : counted.tail ≡ total_met (λ c. c.tail) ts shards
  pub waiting : counted.waiting ≡ total_met (λ c. c.waiting) ts shards
  pub node_rows : counted.node_rows ≡ total_met (λ c. c.node_rows) ts shards
  pub node_live : counted.node_live ≡ total_met (λ c. c.node_live) ts shards
  pub failed : counted.failed ≡ total_met due_of ts shards

-- the counts of one channel more
pub record Adds (counts : Counts) (old new : MeetReply) : Type 0 where
  pub ts : new.ts ≡ old.ts
  pub live : new.live ≡ old.live + counts.live
  pub tail : new.tail ≡ old.tail + counts.tail
  pub waiting : new.waiting ≡ old.waiting + counts.waiting
  pub node_rows : new.node_rows ≡ old.node_rows + counts.node_rows
  pub node_live : new.node_live ≡ old.node_live + counts.node_live
  pub failed : new.failed ≡ old.failed + due_of counts
