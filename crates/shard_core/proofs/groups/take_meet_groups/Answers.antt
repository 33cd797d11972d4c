use Rattle.std.proofs.Common.{◌≡◌, true, false, map, sym, ap, ap₂, ◌∙◌}
use Rattle.std.proofs.lemmas.Result.{IfOk-weaker}
use Rattle.journal_model.specs.Groups.{numbers_of, meet_groups}
use Rattle.channel_pieces.specs.Keeping.{kept_on_nodes}
use Rattle.shard_core.specs.Grouping.{groups_of, are_mostly_dead}
use Rattle.shard_core.proofs.ViewLaws.{brought_up}
use Rattle.shard_core.proofs.GroupLaws.{meet_made, meet_spared}
use Rattle.shard_core.proofs.groups.take_meet_groups.Goals as goal

pub returns-then-not-is_mostly_dead : goal.returns-then-not-is_mostly_dead
returns-then-not-is_mostly_dead c =
    let j = c.args.journal.now in
    let l = c.args.lagging.now in
    let few : are_mostly_dead c.in_ok-kept.kept.items ≡ false = ap are_mostly_dead (sym c.as_slice.ensures.value) ∙ sym c.is_mostly_dead.ensures ∙ c.if-not-is_mostly_dead.true in
    let spared = meet_spared j.channel j.state.notes j.state.floor l.pieces (brought_up j l c.requires.behind c.requires.pending c.requires.deaths) c.in_ok-kept.kept.items
    (c.in_ok-kept.ensures ∙ ap (λ floor. kept_on_nodes floor l.pieces.segments) c.floor.ensures) few in
    ap (map (λ group. group.items)) c.new.ensures.items ∙ spared

pub returns : goal.returns
returns c =
    let j = c.args.journal.now in
    let l = c.args.lagging.now in
    let many : are_mostly_dead c.in_ok-kept.kept.items ≡ true = ap are_mostly_dead (sym c.as_slice.ensures.value) ∙ sym c.is_mostly_dead.ensures ∙ c.if-not-is_mostly_dead.false in
    IfOk-weaker c.grouped.result (λ groups. map (λ group. group.items) groups.items ≡ groups_of 1 c.seal_rows.result c.as_slice-2.result.now)
    (λ groups. map (λ group. group.items) groups.items ≡ numbers_of (meet_groups j.channel j.state.notes j.state.floor))
    (λ groups e.
    e
    ∙ ap₂ (groups_of 1) c.seal_rows.ensures.rows c.as_slice-2.ensures.value
    ∙ meet_made j.channel j.state.notes j.state.floor l.pieces (brought_up j l c.requires.behind c.requires.pending c.requires.deaths) c.in_ok-kept.kept.items
    (c.in_ok-kept.ensures ∙ ap (λ floor. kept_on_nodes floor l.pieces.segments) c.floor.ensures) many)
    c.grouped.ensures
