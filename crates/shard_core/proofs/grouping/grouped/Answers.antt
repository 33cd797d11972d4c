use Rattle.std.proofs.Common.{get_or, sym, ap, ◌∙◌}
use Rattle.channel_pieces.specs.declared.keeping.KeptRows.{KeptRows}
use Rattle.shard_core.specs.Grouping.{no_groups, with_next}
use Rattle.shard_core.proofs.GroupLaws.{with_all-more}
use Rattle.shard_core.proofs.grouping.grouped.Goals as goal

pub segments-preserved : goal.segments-preserved
segments-preserved c =
    let next : KeptRows = get_or c.args.segments.now c.segments.segment-index (record { number = 0; rows = 0; kept = 0 }) in
    c.in_ok-add.ensures
    ∙ ap (with_next next) c.segments.invariant
    ∙ sym (with_all-more (no_groups c.args.least c.args.most) c.args.segments.now c.segments.segment-index (record { number = 0; rows = 0; kept = 0 }) c.segments-test.true)
