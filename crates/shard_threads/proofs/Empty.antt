-- A shard that was just made, of a collection that is equal to another.
use Rattle.std.proofs.Common.{◌≡◌, ℕ, [], ap, ◌∙◌}
use Rattle.coarse_lists.specs.declared.collections.Collection.{Collection}
use Rattle.journal_model.specs.Layouts.{Channel}
use Rattle.shard_core.specs.Shards.{ChannelShard}
use Rattle.shard_calls.proofs.Plain.{IsEmpty}

channel_in : ℕ → Collection → Channel
channel_in k d = record { number = k; seal_rows = d.seal_rows }

pub empty_of : (collection own : Collection) (k : ℕ) (s : ChannelShard) → own ≡ collection → s.collection ≡ own → s.channel ≡ record { number = k; seal_rows = own.seal_rows } → s.state ≡ record { notes = []; floor = 0 } → IsEmpty collection k s
unfolding channel_in
empty_of collection own k s same of_it channel state = record { collection_is = of_it ∙ same; channel_is = channel ∙ ap (channel_in k) same; state_is = state }
