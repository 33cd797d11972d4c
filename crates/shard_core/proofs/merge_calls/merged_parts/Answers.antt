use Rattle.shard_core.proofs.MergedLaws.{merged_at, commit_step}
use Rattle.shard_core.proofs.merge_calls.merged_parts.Goals as goal

pub returns : goal.returns
returns c = record { stands = merged_at; step = commit_step }
