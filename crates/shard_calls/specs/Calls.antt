-- What calls owe for their turn: what was written where, and what a look gives.
use Rattle.std.specs.Prelude.{◌≡◌, ◌⊎◌, ℕ, ◌<◌, ◌≤◌, Bool, true, false, List, [], ◌∷◌, ◌++◌}
use Rattle.journal_model.specs.declared.notes.Kind.TheVariants.{Tick}
use Rattle.journal_model.specs.declared.notes.Note.{Note}
use Rattle.journal_model.specs.Notes.{note_of, tick_of}
use Rattle.journal_model.specs.Runs.{IsSound}
use Rattle.journal_model.specs.Views.{IsExact}
use Rattle.channel_view.specs.Views.{ChannelView, view_in}
use Rattle.shard_core.specs.Keys.{AreKeysIn}
use Rattle.shard_core.specs.Shards.{ChannelBase}
use Rattle.shard_core.specs.declared.replies.Looked.{Looked}
use Rattle.shard_core.specs.declared.replies.Looked.TheVariants.{Served, Pending}
use Rattle.call_model.specs.Turns.{stamp}

-- no note was added and no number drawn
pub record IsIdle (notes : List Note) (numbers : List ℕ) : Type 0 where
  pub none : notes ≡ []
  pub undrawn : numbers ≡ []

-- the tick of a look that waits, where the tick before is below its guarantee
pub record TicksFirst (by line guarantee : ℕ) (wait : Bool) (before notes : List Note) (numbers : List ℕ) : Type 0 where
  pub ts : ℕ
  pub drawn : numbers ≡ ts ∷ []
  pub noted : notes ≡ note_of by line (Tick (stamp ts)) ∷ []
  pub waits : wait ≡ true
  pub below : tick_of before < guarantee

-- what stands of a look that got no memory: nothing, or its tick
abbrev pub BreaksOff : ℕ → ℕ → ℕ → Bool → List Note → List Note → List ℕ → Type 0
BreaksOff by line guarantee wait before notes numbers = IsIdle notes numbers ⊎ TicksFirst by line guarantee wait before notes numbers

-- an exact view of a journal of the channel, which is sound and has keys of the channel alone
pub record IsViewAt (base : ChannelBase) (notes : List Note) (view : ChannelView) : Type 0 where
  pub collection : view.collection ≡ base.collection
  pub channel : view.channel ≡ base.channel.number
  pub floor : view.floor ≡ base.floor
  pub exact : IsExact notes (view_in view)
  pub sound : IsSound base.channel (record { notes = notes; floor = base.floor })
  pub keys : AreKeysIn base.collection.channels base.channel.number notes

-- what a look gives of the journal that it left: a view, where its tick is not below the guarantee, and else, where it does
-- not wait, the tick
abbrev pub Gives : ChannelBase → ℕ → Bool → List Note → Looked → Type 0
Gives base guarantee wait notes (Served view) = IsViewAt base notes view × (guarantee ≤ tick_of notes)
Gives base guarantee wait notes (Pending tick) = (wait ≡ false) × (tick.0 ≡ tick_of notes) × (tick.0 < guarantee)
