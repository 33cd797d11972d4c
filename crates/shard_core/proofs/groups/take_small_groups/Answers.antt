use Rattle.std.proofs.Common.{◌≡◌, map, ap, ap₂, ◌∙◌}
use Rattle.std.proofs.lemmas.Result.{IfOk-weaker}
use Rattle.std.specs.List.{filter}
use Rattle.journal_model.specs.Groups.{numbers_of, small_groups}
use Rattle.channel_pieces.specs.Keeping.{kept_on_nodes}
use Rattle.shard_core.specs.Grouping.{groups_of, is_small}
use Rattle.shard_core.proofs.ViewLaws.{brought_up}
use Rattle.shard_core.proofs.GroupLaws.{small_made}
use Rattle.shard_core.proofs.groups.take_small_groups.Goals as goal

pub returns : goal.returns
returns c =
    let j = c.args.journal.now in
    let l = c.args.lagging.now in
    IfOk-weaker c.grouped.result (λ groups. map (λ group. group.items) groups.items ≡ groups_of 2 c.seal_rows-most.result c.as_slice-2.result.now)
    (λ groups. map (λ group. group.items) groups.items ≡ numbers_of (small_groups j.channel j.state.notes j.state.floor))
    (λ groups e.
    e
    ∙ ap₂ (groups_of 2) c.seal_rows-most.ensures.rows
    (c.as_slice-2.ensures.value ∙ c.in_ok-small.ensures ∙ ap₂ (λ most kept. filter (is_small most) kept) c.seal_rows-most.ensures.rows c.as_slice.ensures.value)
    ∙ small_made j.channel j.state.notes j.state.floor l.pieces (brought_up j l c.requires.behind c.requires.pending c.requires.deaths) c.in_ok-kept.kept.items
    (c.in_ok-kept.ensures ∙ ap (λ floor. kept_on_nodes floor l.pieces.segments) c.floor.ensures))
    c.grouped.ensures
