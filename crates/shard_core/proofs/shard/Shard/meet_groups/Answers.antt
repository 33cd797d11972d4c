use Rattle.std.proofs.Common.{◌≡◌, map, IfOk, subst}
use Rattle.std.specs.Arc.{arc_value}
use Rattle.journal_model.specs.Groups.{numbers_of, meet_groups}
use Rattle.shard_core.specs.Shards.{ChannelShard}
use Rattle.shard_core.proofs.ViewLaws.{source_of}
use Rattle.shard_core.proofs.shard.Shard.meet_groups.Goals as goal

pub catch_up-requires-clause-source : goal.catch_up-requires-clause-source
catch_up-requires-clause-source c = source_of (arc_value c.self.inside.collection) c.self.inside.journal c.self.inside.lagging c.self.inside.spare c.self.inside.lagging.room c.self.invariant.0 c.self.invariant.1 c.len.ensures.sound

pub returns-clause-groups : goal.returns-clause-groups
returns-clause-groups c =
    subst (λ (s : ChannelShard). IfOk c.take_meet_groups.result (λ groups. map (λ group. group.items) groups.items ≡ numbers_of (meet_groups s.channel s.state.notes s.state.floor))) c.self.view_is c.take_meet_groups.ensures
