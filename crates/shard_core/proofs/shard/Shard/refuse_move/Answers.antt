use Rattle.std.proofs.Common.{ap, ◌∙◌}
use Rattle.std.specs.Arc.{arc_value}
use Rattle.journal_model.specs.Layouts.{layout_of}
use Rattle.journal_model.specs.Refusals.{move_refusal}
use Rattle.shard_core.specs.Shards.{ChannelShard}
use Rattle.shard_core.specs.Found.{move_refused}
use Rattle.shard_core.proofs.PlaceLaws.{move_same}
use Rattle.shard_core.proofs.MovedLaws.{found_kept}
use Rattle.shard_core.proofs.shard.Shard.refuse_move.Goals as goal

pub returns : goal.returns
returns c =
    let j = c.self.inside.journal in
    let l = c.self.inside.lagging in
    c.why_not_moved.ensures
    ∙ ap (λ o. move_refused c.args.segment o c.args.from) (c.homes.ensures ∙ found_kept (arc_value c.self.inside.collection) j l c.args.segment c.self.invariant.1)
    ∙ move_same (layout_of j.channel j.state.notes) c.args.segment c.args.from
    ∙ ap (λ (s : ChannelShard). move_refusal (layout_of s.channel s.state.notes) c.args.segment c.args.from) c.self.view_is
