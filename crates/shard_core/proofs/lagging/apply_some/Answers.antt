use Rattle.std.proofs.Common.{◌≡◌, ◌+◌, ◌∷◌, drop, refl, sym, ap, subst, ◌∙◌, slice_index_or}
use Rattle.std.proofs.lemmas.List.{drop_more}
use Rattle.shard_core.specs.declared.pending.Pending.TheVariants.{Row}
use Rattle.shard_core.specs.Shelves.{shelves_in_pieces}
use Rattle.shard_core.specs.Steps.{after_all, after_pending}
use Rattle.shard_core.specs.Lagging.{IsBehind}
use Rattle.shard_core.specs.Kept.{Pends}
use Rattle.shard_core.proofs.MoveLaws.{behind_next}
use Rattle.shard_core.proofs.SourceLaws.{err_holds, ok_holds, source_shaped, next_of}
use Rattle.shard_core.proofs.lagging.apply_some.Goals as goal

pub pending-init : goal.pending-init
pending-init c = (refl, c.requires.pends, refl, record { dim_is = refl; kinds_are = refl; nodes_are = refl })

pub apply-requires-clause-source : goal.apply-requires-clause-source
apply-requires-clause-source c = source_shaped c.args.journal.now c.args.pieces.now c.pending.pieces c.requires.source c.pending.invariant.3

pub apply-requires-clause-next : goal.apply-requires-clause-next
apply-requires-clause-next c =
    next_of c.args.journal.now c.pending.pieces (slice_index_or c.args.pending.now c.pending.next-index (Row 0)) (drop (c.pending.next-index + 1) c.args.pending.now)
    (source_shaped c.args.journal.now c.args.pieces.now c.pending.pieces c.requires.source c.pending.invariant.3)
    (subst (λ l. Pends c.args.journal.now.channel c.args.journal.now.state.notes l (shelves_in_pieces c.pending.pieces)) (drop_more c.args.pending.now c.pending.next-index (Row 0) c.pending-test.true) c.pending.invariant.1)

pub returns-then-is_err-clause-rest : goal.returns-then-is_err-clause-rest
returns-then-is_err-clause-rest c =
    let same : c.apply.new.pieces ≡ c.pending.pieces = err_holds c.apply.result (sym c.is_err.ensures.value ∙ c.if-is_err.true) c.apply.ensures.err in
    ap (λ p. after_all c.args.journal.now.state.notes (shelves_in_pieces p) (drop c.pending.done c.args.pending.now)) same
    ∙ ap (λ n. after_all c.args.journal.now.state.notes (shelves_in_pieces c.pending.pieces) (drop n c.args.pending.now)) c.pending.invariant.0
    ∙ c.pending.invariant.2

pub pending-preserved : goal.pending-preserved
pending-preserved c =
    let i = c.pending.next-index in
    let notes = c.args.journal.now.state.notes in
    let next = slice_index_or c.args.pending.now i (Row 0) in
    let rest = drop (i + 1) c.args.pending.now in
    let more : drop i c.args.pending.now ≡ next ∷ rest = drop_more c.args.pending.now i (Row 0) c.pending-test.true in
    let shows : shelves_in_pieces c.apply.new.pieces ≡ after_pending notes (shelves_in_pieces c.pending.pieces) next = ok_holds c.apply.result (sym c.is_err.ensures.value ∙ c.if-is_err.false) c.apply.ensures.ok in
    let k : Pends c.args.journal.now.channel notes (next ∷ rest) (shelves_in_pieces c.pending.pieces) = subst (λ l. Pends c.args.journal.now.channel notes l (shelves_in_pieces c.pending.pieces)) more c.pending.invariant.1 in (
      ap (λ n. n + 1) c.pending.invariant.0,
      record { deaths = k.deaths; behind = subst (λ s. IsBehind c.args.journal.now.channel notes rest k.deaths s) (sym shows) (behind_next c.args.journal.now.channel notes next rest k.deaths (shelves_in_pieces c.pending.pieces) k.behind) },
      ap (λ s. after_all notes s rest) shows ∙ ap (after_all notes (shelves_in_pieces c.pending.pieces)) (sym more) ∙ c.pending.invariant.2,
      record {
        dim_is = c.apply.ensures.shape.dim_is ∙ c.pending.invariant.3.dim_is;
        kinds_are = c.apply.ensures.shape.kinds_are ∙ c.pending.invariant.3.kinds_are;
        nodes_are = c.apply.ensures.shape.nodes_are ∙ c.pending.invariant.3.nodes_are;
      },
    )

pub returns-clause-rest : goal.returns-clause-rest
returns-clause-rest c =
    ap (λ n. after_all c.args.journal.now.state.notes (shelves_in_pieces c.pending.pieces) (drop n c.args.pending.now)) c.pending.invariant.0
    ∙ c.pending.invariant.2
