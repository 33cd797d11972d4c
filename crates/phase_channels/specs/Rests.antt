-- Channels at rest.
use Rattle.std.specs.Prelude.{◌≡◌, ℕ, length, map}
use Rattle.std.specs.Arc.{arc_value}
use Rattle.coarse_lists.specs.declared.collections.Collection.{Collection}
use Rattle.hybrid_time.specs.declared.times.Timestamp.{Timestamp}
use Rattle.turn_facts.specs.Prefixes.{IsAt}
use Rattle.shard_core.specs.Shards.{base_of}
use Rattle.shard_calls.specs.Fronts.{notes_of, AreBases}
use Rattle.phase_model.specs.Rests.{Rest}
use Rattle.phase_channels.specs.declared.channels.Channels.{Channels}

abbrev pub collection_in : Channels → Collection
collection_in channels = arc_value channels.collection

-- the channels stand as `rest` says
pub record AreAtRest (rest : Rest) (channels : Channels) : Type 0 where
  pub bases : AreBases (collection_in channels) rest.floor (map base_of channels.shards.items)
  pub journals : rest.journals ≡ map notes_of channels.shards.items
  pub clock : rest.clock ≡ channels.clock
  pub many : length channels.mine.items ≡ 16
  pub mine : (caller : ℕ) (ts : Timestamp) → IsAt channels.mine.items caller ts → ts.0 ≡ rest.mine caller
