use Rattle.std.proofs.Common.{◌≡◌, take}
use Rattle.std.specs.List.{filter}
use Rattle.shard_core.specs.Grouping.{is_small}
use Rattle.shard_core.proofs.grouping.small_of.Given as goal

abbrev pub invariant-segments : goal.invariant-segments
invariant-segments l = l.small.items ≡ filter (is_small l.most) (take l.segment-index l.segments)
