use Rattle.std.proofs.Common.{ℕ, ◌<◌, get_or}
use Rattle.shard_core.specs.Shards.{ChannelShard}
use Rattle.phase_run.specs.Phases.{KeepsJournal}
use Rattle.phase_run.proofs.phases.tell_all_kept.Given as goal

abbrev pub invariant-loop-shard : goal.invariant-loop-shard
invariant-loop-shard l = (k : ℕ) (d : ChannelShard) → k < l.shard-index → KeepsJournal (get_or l.shards k d)
