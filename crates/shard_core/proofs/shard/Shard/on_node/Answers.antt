use Rattle.std.proofs.Common.{◌≡◌, ap, ◌∙◌}
use Rattle.std.specs.Arc.{arc_value}
use Rattle.std.proofs.lemmas.Result.{IfOk-weaker}
use Rattle.journal_model.specs.declared.notes.Home.TheVariants.{Node}
use Rattle.channel_pieces.specs.Pieces.{numbers_at}
use Rattle.shard_core.specs.Shards.{ChannelShard}
use Rattle.shard_core.specs.Counting.{numbers_on}
use Rattle.shard_core.proofs.ViewLaws.{source_of, brought_up}
use Rattle.shard_core.proofs.CountLaws.{numbers_are}
use Rattle.shard_core.proofs.shard.Shard.on_node.Goals as goal

pub catch_up-requires-clause-source : goal.catch_up-requires-clause-source
catch_up-requires-clause-source c = source_of (arc_value c.self.inside.collection) c.self.inside.journal c.self.inside.lagging c.self.inside.spare c.self.inside.lagging.room c.self.invariant.0 c.self.invariant.1 c.len.ensures.sound

pub returns-clause-numbers : goal.returns-clause-numbers
returns-clause-numbers c =
    let j = c.self.inside.journal in
    let l = c.catch_up.new.self in
    IfOk-weaker c.on_node.result (λ numbers. numbers.items ≡ numbers_at (Node c.args.node) l.pieces.segments) (λ numbers. numbers.items ≡ numbers_on c.args.self.now.channel c.args.self.now.state.notes c.args.node)
    (λ numbers e. e ∙ numbers_are j.channel j.state.notes l.pieces (brought_up j l c.catch_up.ensures.behind c.in_ok-catch_up.ensures.ok.0 c.in_ok-catch_up.ensures.ok.1) c.args.node ∙ ap (λ (s : ChannelShard). numbers_on s.channel s.state.notes c.args.node) c.self.view_is)
    c.on_node.ensures
