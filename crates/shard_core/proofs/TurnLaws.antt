-- A shard behind turns: a note makes its journal longer by one and leaves its base.
use Rattle.std.proofs.Common.{◌≡◌, ℕ, [], ◌∷◌, ◌++◌, ap, ap₂, ◌∙◌}
use Rattle.coarse_lists.specs.declared.collections.Collection.{Collection}
use Rattle.journal_model.specs.declared.notes.Note.{Note}
use Rattle.journal_model.specs.Layouts.{Channel}
use Rattle.journal_model.specs.Runs.{State}
use Rattle.shard_core.specs.Shards.{ChannelShard, ChannelBase, Steps, base_of}

pub note_added : (old new : ChannelShard) (note : Note) → Steps old new note → new.state.notes ≡ old.state.notes ++ note ∷ []
note_added old new note s = ap (λ (st : State). st.notes) s.state

pub same_base : (old new : ChannelShard) → new.collection ≡ old.collection → new.channel ≡ old.channel → new.state.floor ≡ old.state.floor → base_of new ≡ base_of old
same_base old new collection channel floor =
    let made : Channel → Collection → ℕ → ChannelBase = λ c k f. record { channel = c; collection = k; floor = f } in
    ap (λ (c : Channel). made c new.collection new.state.floor) channel ∙ ap₂ (made old.channel) collection floor

pub base_kept : (old new : ChannelShard) (note : Note) → Steps old new note → base_of new ≡ base_of old
base_kept old new note s = same_base old new s.collection s.channel (ap (λ (st : State). st.floor) s.state)
