use Rattle.std.proofs.Common.{ap, ◌∙◌}
use Rattle.std.specs.Arc.{arc_value}
use Rattle.journal_model.specs.Layouts.{layout_of}
use Rattle.journal_model.specs.Refusals.{load_refusal}
use Rattle.shard_core.specs.Shards.{ChannelShard}
use Rattle.shard_core.specs.Found.{load_refused}
use Rattle.shard_core.proofs.PlaceLaws.{load_same}
use Rattle.shard_core.proofs.MovedLaws.{found_kept}
use Rattle.shard_core.proofs.shard.Shard.refuse_load.Goals as goal

pub returns : goal.returns
returns c =
    let j = c.self.inside.journal in
    let l = c.self.inside.lagging in
    c.why_not_loaded.ensures
    ∙ ap (λ o. load_refused c.args.segment o c.args.from c.args.node) (c.homes.ensures ∙ found_kept (arc_value c.self.inside.collection) j l c.args.segment c.self.invariant.1)
    ∙ load_same (layout_of j.channel j.state.notes) c.args.segment c.args.from c.args.node
    ∙ ap (λ (s : ChannelShard). load_refusal (layout_of s.channel s.state.notes) c.args.segment c.args.from c.args.node) c.self.view_is
