use Rattle.std.proofs.Common.{ap, ◌∙◌}
use Rattle.std.specs.Arc.{arc_value}
use Rattle.journal_model.specs.Layouts.{layout_of}
use Rattle.journal_model.specs.Refusals.{release_refusal}
use Rattle.shard_core.specs.Shards.{ChannelShard}
use Rattle.shard_core.specs.Found.{release_refused}
use Rattle.shard_core.proofs.PlaceLaws.{release_same}
use Rattle.shard_core.proofs.MovedLaws.{found_kept}
use Rattle.shard_core.proofs.shard.Shard.refuse_release.Goals as goal

pub returns : goal.returns
returns c =
    let j = c.self.inside.journal in
    let l = c.self.inside.lagging in
    c.why_not_released.ensures
    ∙ ap (λ o. release_refused c.args.segment o c.args.node) (c.homes.ensures ∙ found_kept (arc_value c.self.inside.collection) j l c.args.segment c.self.invariant.1)
    ∙ release_same (layout_of j.channel j.state.notes) c.args.segment c.args.node
    ∙ ap (λ (s : ChannelShard). release_refusal (layout_of s.channel s.state.notes) c.args.segment c.args.node) c.self.view_is
