use Rattle.std.proofs.Common.{rules, arith, ◌≡◌, [], drop, sym, ap, subst, ◌∙◌}
use Rattle.std.proofs.lemmas.List.{nil_from_length}
use Rattle.shard_core.specs.Shelves.{shelves_in_pieces}
use Rattle.shard_core.specs.Steps.{after_all, with_ends}
use Rattle.shard_core.specs.Lagging.{IsBehind}
use Rattle.shard_core.specs.Kept.{IsBehindOf}
use Rattle.shard_core.proofs.MoveLaws.{behind_marked}
use Rattle.shard_core.proofs.SourceLaws.{behind_rest}
use Rattle.shard_core.proofs.lagging.Lagging.catch_up.Goals as goal

pub returns-in_ok-mark-clause-behind : goal.returns-in_ok-mark-clause-behind
returns-in_ok-mark-clause-behind c =
    let channel = c.args.journal.now.channel in
    let notes = c.args.journal.now.state.notes in
    let pending = c.self.inside.pending.items in
    let deaths = c.self.inside.deaths.items in
    let was = shelves_in_pieces c.self.inside.pieces in
    let now = shelves_in_pieces c.apply_some-done.new.pieces in
    let k : IsBehind channel notes pending deaths was = subst (IsBehindOf c.args.journal.now) (sym c.self.view_is) c.requires.behind in
    let rest : after_all notes now (drop c.apply_some-done.result pending) ≡ after_all notes was pending =
    subst (λ ps. after_all notes now (drop c.apply_some-done.result ps) ≡ after_all notes was ps) c.as_slice.ensures.value c.apply_some-done.ensures.rest in
    let none : c.drop_front.new.pending.items ≡ [] = nil_from_length c.drop_front.new.pending.items (grind (arith, rules)) in
    let left : IsBehind channel notes [] deaths now = subst (λ ps. IsBehind channel notes ps deaths now) (sym c.drop_front.ensures.items ∙ none) (behind_rest channel notes pending deaths was now c.apply_some-done.result k rest) in
    let marked : shelves_in_pieces c.mark.new.self ≡ with_ends deaths now = ap shelves_in_pieces c.in_ok-mark.ensures.ok ∙ ap (λ ds. with_ends ds now) c.as_slice-then-not-is_empty-2.ensures.value in
    rw (none, c.clear.ensures.items, marked) (behind_marked channel notes deaths now left)
