use Rattle.std.specs.Arc.{arc_value}
use Rattle.shard_core.proofs.ViewLaws.{source_of}
use Rattle.shard_core.proofs.shard.Shard.counts.Goals as goal

pub close_deaths-requires-clause-source : goal.close_deaths-requires-clause-source
close_deaths-requires-clause-source c = source_of (arc_value c.self.inside.collection) c.self.inside.journal c.self.inside.lagging c.self.inside.spare c.self.inside.lagging.room c.self.invariant.0 c.self.invariant.1 c.len.ensures.sound
