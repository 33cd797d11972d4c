use Rattle.std.proofs.Common.{◌≡◌, ap, ◌∙◌}
use Rattle.std.specs.Arc.{arc_value}
use Rattle.std.proofs.lemmas.Result.{IfOk-weaker}
use Rattle.journal_model.specs.declared.notes.Home.TheVariants.{Leader}
use Rattle.channel_pieces.specs.Pieces.{numbers_at}
use Rattle.shard_core.specs.Shards.{ChannelShard}
use Rattle.shard_core.specs.Counting.{waiting_numbers}
use Rattle.shard_core.proofs.ViewLaws.{source_of, brought_up}
use Rattle.shard_core.proofs.CountLaws.{waiting_are}
use Rattle.shard_core.proofs.shard.Shard.waiting.Goals as goal

pub catch_up-requires-clause-source : goal.catch_up-requires-clause-source
catch_up-requires-clause-source c = source_of (arc_value c.self.inside.collection) c.self.inside.journal c.self.inside.lagging c.self.inside.spare c.self.inside.lagging.room c.self.invariant.0 c.self.invariant.1 c.len.ensures.sound

pub returns-clause-numbers : goal.returns-clause-numbers
returns-clause-numbers c =
    let j = c.self.inside.journal in
    let l = c.catch_up.new.self in
    IfOk-weaker c.waiting.result (λ numbers. numbers.items ≡ numbers_at Leader l.pieces.segments) (λ numbers. numbers.items ≡ waiting_numbers c.args.self.now.channel c.args.self.now.state.notes)
    (λ numbers e. e ∙ waiting_are j.channel j.state.notes l.pieces (brought_up j l c.catch_up.ensures.behind c.in_ok-catch_up.ensures.ok.0 c.in_ok-catch_up.ensures.ok.1) ∙ ap (λ (s : ChannelShard). waiting_numbers s.channel s.state.notes) c.self.view_is)
    c.waiting.ensures
