use Rattle.std.proofs.Common.{ap}
use Rattle.std.specs.Arc.{arc_value}
use Rattle.std.proofs.lemmas.Result.{IfOk-weaker}
use Rattle.shard_core.specs.Shards.{ChannelShard, IsViewOf, shard_of}
use Rattle.shard_core.proofs.ViewLaws.{source_of, view_like}
use Rattle.shard_core.proofs.shard.Shard.current_view.Goals as goal

pub catch_up-requires-clause-source : goal.catch_up-requires-clause-source
catch_up-requires-clause-source c = source_of (arc_value c.self.inside.collection) c.self.inside.journal c.self.inside.lagging c.self.inside.spare c.self.inside.lagging.room c.self.invariant.0 c.self.invariant.1 c.len.ensures.sound

pub returns-clause-view : goal.returns-clause-view
returns-clause-view c = IfOk-weaker c.take_view.result (IsViewOf (shard_of (arc_value c.self.inside.collection) c.self.inside.journal 0)) (IsViewOf c.args.self.now)
    (λ view v. view_like (shard_of (arc_value c.self.inside.collection) c.self.inside.journal 0) c.args.self.now view
    (ap (λ (s : ChannelShard). s.collection) c.self.view_is) (ap (λ (s : ChannelShard). s.channel) c.self.view_is) (ap (λ (s : ChannelShard). s.state) c.self.view_is) v)
    c.take_view.ensures.view
