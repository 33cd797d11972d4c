use Rattle.std.proofs.Common.{◌≡◌, ◌+◌, ℕ, Bool, not, Option, drop, get_or, sym, ap, ◌∙◌}
use Rattle.std.specs.Arc.{arc_value}
use Rattle.std.specs.Option.{option_or}
use Rattle.journal_model.specs.declared.refusals.MoveError.{MoveError}
use Rattle.journal_model.specs.declared.refusals.MoveError.TheVariants.{Gone}
use Rattle.journal_model.specs.Layouts.{layout_of}
use Rattle.journal_model.specs.Refusals.{refused_if, is_on_node, first_without}
use Rattle.shard_core.specs.Shards.{ChannelShard}
use Rattle.shard_core.specs.Found.{on_nodes_refused}
use Rattle.shard_core.proofs.PlaceLaws.{merge_same, first_next}
use Rattle.shard_core.proofs.MovedLaws.{found_kept}
use Rattle.shard_core.proofs.shard.Shard.refuse_merge.Goals as goal

pub segments-preserved : goal.segments-preserved
segments-preserved c =
    let s = c.args.self.now in
    let j = c.self.inside.journal in
    let n : ℕ = get_or c.args.segments.now c.segments.segment-index 0 in
    let test : ℕ → Bool = is_on_node (layout_of s.channel s.state.notes) in
    let rest : Option MoveError = first_without test (drop (c.segments.segment-index + 1) c.args.segments.now) in
    let why : c.why_not_merged.result ≡ refused_if (not (test n)) (Gone n) =
    c.why_not_merged.ensures
    ∙ ap (on_nodes_refused n) (c.homes.ensures ∙ found_kept (arc_value c.self.inside.collection) j c.self.inside.lagging n c.self.invariant.1)
    ∙ merge_same (layout_of j.channel j.state.notes) n
    ∙ ap (λ (z : ChannelShard). refused_if (not (is_on_node (layout_of z.channel z.state.notes) n)) (Gone n)) c.self.view_is in
    c.segments.invariant
    ∙ first_next test c.args.segments.now c.segments.segment-index 0 c.segments-test.true
    ∙ ap (λ (o : Option MoveError). option_or o rest) (sym why ∙ c.in_default.is)

pub returns-in-Some : goal.returns-in-Some
returns-in-Some c =
    let s = c.args.self.now in
    let j = c.self.inside.journal in
    let n : ℕ = get_or c.args.segments.now c.segments.segment-index 0 in
    let test : ℕ → Bool = is_on_node (layout_of s.channel s.state.notes) in
    let rest : Option MoveError = first_without test (drop (c.segments.segment-index + 1) c.args.segments.now) in
    let why : c.why_not_merged.result ≡ refused_if (not (test n)) (Gone n) =
    c.why_not_merged.ensures
    ∙ ap (on_nodes_refused n) (c.homes.ensures ∙ found_kept (arc_value c.self.inside.collection) j c.self.inside.lagging n c.self.invariant.1)
    ∙ merge_same (layout_of j.channel j.state.notes) n
    ∙ ap (λ (z : ChannelShard). refused_if (not (is_on_node (layout_of z.channel z.state.notes) n)) (Gone n)) c.self.view_is in
    sym (c.segments.invariant
    ∙ first_next test c.args.segments.now c.segments.segment-index 0 c.segments-test.true
    ∙ ap (λ (o : Option MoveError). option_or o rest) (sym why ∙ c.in-Some.is))
