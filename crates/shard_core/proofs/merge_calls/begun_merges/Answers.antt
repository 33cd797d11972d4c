use Rattle.shard_core.proofs.MergingLaws.{merging_later}
use Rattle.shard_core.proofs.merge_calls.begun_merges.Goals as goal

pub returns : goal.returns
returns c = record { later = merging_later }
