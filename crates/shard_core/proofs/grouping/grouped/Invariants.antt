use Rattle.std.proofs.Common.{◌≡◌, take}
use Rattle.shard_core.specs.Grouping.{no_groups, with_all}
use Rattle.shard_core.proofs.grouping.grouped.Given as goal

abbrev pub invariant-segments : goal.invariant-segments
invariant-segments l = l.groups ≡ with_all (no_groups l.least l.most) (take l.segment-index l.segments)
