use Rattle.std.proofs.Common.{ap}
use Rattle.shard_core.specs.Shards.{ChannelShard}
use Rattle.shard_tests.proofs.StepLaws.{driven_same}
use Rattle.shard_tests.proofs.bench.Bench.meet_groups.Goals as goal

pub invariant_of-self : goal.invariant_of-self
invariant_of-self c =
    driven_same c.self.inside.next c.self.inside.moves.items c.self.inside.shard c.meet_groups.new.self (ap (λ (s : ChannelShard). s.state.notes) c.meet_groups.ensures.same) (ap (λ (s : ChannelShard). s.channel) c.meet_groups.ensures.same) c.self.invariant
