use Rattle.std.specs.Arc.{arc_value}
use Rattle.phase_channels.proofs.Beginning.{AreNewShards}
use Rattle.phase_channels.proofs.channels.new_shards.Given as goal

abbrev pub invariant-loop-channel : goal.invariant-loop-channel
invariant-loop-channel l = AreNewShards (arc_value l.collection) l.channel l.shards.items
