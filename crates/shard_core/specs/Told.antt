-- What a journal's calls tell of what is to be brought up. Only proofs need it.
use Rattle.std.specs.Prelude.{ℕ, option_to_list, List, [], ◌∷◌, Option}
use Rattle.std.specs.Option.{option_map}
use Rattle.hybrid_time.specs.declared.times.Timestamp.{Timestamp}
use Rattle.channel_journal.specs.declared.outcomes.PutOutcome.{PutOutcome}
use Rattle.channel_journal.specs.declared.outcomes.PutOutcome.TheVariants.{Exists, Added}
use Rattle.shard_core.specs.declared.pending.Pending.{Pending}
use Rattle.shard_core.specs.declared.pending.Pending.TheVariants.{Row}
use Rattle.shard_core.specs.Steps.{pending_end}

abbrev pub pending_told : ℕ → PutOutcome → List Pending
pending_told position Exists = []
pending_told position (Added ended sealed) = Row position ∷ pending_end sealed

abbrev pub deaths_told : Timestamp → Option ℕ → List (ℕ × Timestamp)
deaths_told ts ended = option_to_list (option_map (λ position. (position, ts)) ended)
