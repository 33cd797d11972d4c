-- A channel's shard as contracts see it, and what its calls do and answer.
use Rattle.std.specs.Prelude.{◌≡◌, ℕ, ◌+◌, Bool, true, Option, Some, None}
use Rattle.coarse_lists.specs.declared.collections.Collection.{Collection}
use Rattle.journal_model.specs.declared.notes.PutKind.{PutKind}
use Rattle.journal_model.specs.declared.notes.PutKind.TheVariants.{Insert}
use Rattle.journal_model.specs.declared.notes.Note.{Note}
use Rattle.journal_model.specs.Layouts.{Channel}
use Rattle.journal_model.specs.Runs.{State, is_step}
use Rattle.journal_model.specs.Answers as answers
use Rattle.journal_model.specs.Answers.{Reply}
use Rattle.journal_model.specs.Views.{view_of}
use Rattle.channel_journal.specs.Notes.{ChannelJournal, with_note}
use Rattle.channel_view.specs.Views.{ChannelView, view_in}
use Rattle.shard_core.specs.declared.replies.Looked.{Looked}
use Rattle.shard_core.specs.declared.replies.Looked.TheVariants.{Served, Pending}
use Rattle.shard_core.specs.declared.replies.PutReply.{PutReply}
use Rattle.shard_core.specs.declared.replies.PutReply.TheVariants.{Wrote, Exists}
use Rattle.shard_core.specs.declared.replies.SealReply.{SealReply}
use Rattle.shard_core.specs.declared.replies.SealReply.TheVariants.{Sealed, Empty}

-- the collection, the channel, its journal with the floor, and how many more notes it takes without memory
pub record ChannelShard : Type 0 where
  pub collection : Collection
  pub channel : Channel
  pub state : State
  pub spare : ℕ

-- what no turn changes of a shard
pub record ChannelBase : Type 0 where
  pub channel : Channel
  pub collection : Collection
  pub floor : ℕ

abbrev pub base_of : ChannelShard → ChannelBase
base_of s = record { channel = s.channel; collection = s.collection; floor = s.state.floor }

-- a note is a step of the core: it is allowed, and it stands behind all others; the collection, the channel and the
-- floor stay, and one note less is taken without memory
pub record Steps (old new : ChannelShard) (note : Note) : Type 0 where
  pub step : is_step old.channel old.state note ≡ true
  pub state : new.state ≡ with_note old.state note
  pub collection : new.collection ≡ old.collection
  pub channel : new.channel ≡ old.channel
  pub spare : old.spare ≡ new.spare + 1

-- ---- answers

-- an insert of a live key answers that it exists; any other put tells whether the key was live
abbrev pub put_reply : PutKind → Bool → PutReply
put_reply Insert true = Exists
put_reply how was = Wrote was

-- the segment that a seal made, and how many rows it has
abbrev pub segment_of : SealReply → Option ℕ
segment_of (Sealed segment rows) = Some segment
segment_of Empty = None

abbrev pub rows_of : SealReply → ℕ
rows_of (Sealed segment rows) = rows
rows_of Empty = 0

abbrev pub looked_reply : Looked → Reply
looked_reply (Served view) = answers.Served
looked_reply (Pending tick) = answers.Pending tick.0

-- a fact of the view, if there is one
abbrev pub IfServed : Looked → (ChannelView → Type 0) → Type 0
IfServed (Served view) P = P view
IfServed (Pending tick) P = Unit {0}

-- the view of the journal, of this channel of the collection
pub record IsViewOf (s : ChannelShard) (view : ChannelView) : Type 0 where
  pub collection : view.collection ≡ s.collection
  pub channel : view.channel ≡ s.channel.number
  pub rows : view_in view ≡ view_of s.channel s.state.floor s.state.notes

abbrev pub shard_of : Collection → ChannelJournal → ℕ → ChannelShard
shard_of collection journal spare = record { collection = collection; channel = journal.channel; state = journal.state; spare = spare }
