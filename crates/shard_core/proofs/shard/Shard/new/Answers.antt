use Rattle.std.proofs.Common.{ap, ◌∙◌}
use Rattle.std.specs.Arc.{arc_value}
use Rattle.coarse_lists.specs.declared.collections.Collection.{Collection}
use Rattle.shard_core.specs.Kept.{kinds_in}
use Rattle.shard_core.proofs.KeepLaws.{started}
use Rattle.shard_core.proofs.shard.Shard.new.Goals as goal

pub invariant_of-result : goal.invariant_of-result
invariant_of-result c =
    started (arc_value c.args.collection) c.args.channel c.deref-2.result.now.dim c.deref-3.result.now.nodes c.deref-4.result.now.seal_rows c.of.result c.in_ok-journal.journal c.of-2.result c.in_ok-pieces.pieces c.requires.range c.requires.channel
    (ap (λ (k : Collection). k.dim) c.deref-2.ensures) (ap (λ (k : Collection). k.nodes) c.deref-3.ensures) (ap (λ (k : Collection). k.seal_rows) c.deref-4.ensures)
    (c.of.ensures ∙ c.in_ok-kinds.ensures ∙ ap kinds_in (c.as_slice.ensures ∙ ap (λ (k : Collection). k.schema.columns) c.deref.ensures))
    c.in_ok-journal.ensures.channel c.in_ok-journal.ensures.state c.of-2.ensures c.in_ok-pieces.ensures
