use Rattle.std.proofs.Common.{◌≡◌, map, Some, sym, ap, subst, ◌∙◌, take}
use Rattle.std.specs.List.{AllByRecursion}
use Rattle.std.proofs.lemmas.Result.{on_ok_weaker}
use Rattle.row_types.specs.declared.rows.Row.{Row}
use Rattle.log_model.specs.Places.{Placed, placed, PlacedBefore}
use Rattle.journal_model.specs.Puts.{effective}
use Rattle.seg_sealed.specs.Segments.{IsRowOf}
use Rattle.channel_pieces.specs.Pieces.{placed_of}
use Rattle.shard_core.specs.Shelves.{shelves_in_pieces}
use Rattle.shard_core.specs.Steps.{with_shown}
use Rattle.shard_core.specs.Kept.{IsPutOf}
use Rattle.shard_core.proofs.SourceLaws.{row_of_note, puts_row, last_before, each_unmapped}
use Rattle.shard_core.proofs.lagging.push_row.Goals as goal

-- the row of the position is that of its note
same_row : (c : goal.In_ok-share-in-Put) → c.requires.next.0 ≡ placed c.args.position c.in-Put.ts.0 c.in_ok-share-in-Put.field-0
same_row c =
    row_of_note c.args.journal.now.state.notes c.args.position c.note.result.now c.in-Put.ts.0 c.in-Put.how c.in-Put.row c.requires.next.0 c.note.ensures
    (ap (effective (take c.args.position c.args.journal.now.state.notes)) (sym c.in-Put.is)) c.requires.next.1
    ∙ ap (placed c.args.position c.in-Put.ts.0) (sym c.in_ok-share-in-Put.ensures)

pub push-requires-clause-fits : goal.push-requires-clause-fits
push-requires-clause-fits c =
    let dim = c.args.pieces.now.dim in
    let kinds = c.args.pieces.now.kinds in
    let of_note : IsPutOf dim kinds c.note.result.now.kind = puts_row dim kinds c.args.journal.now.state.notes c.args.position c.note.result.now c.requires.source.puts c.note.ensures in
    subst (λ (row : Row). IsRowOf dim kinds (placed c.args.position c.in-Put.ts.0 row)) (sym c.in_ok-share-in-Put.ensures) (subst (IsPutOf dim kinds) c.in-Put.is of_note c.args.position)

pub push-requires-clause-last : goal.push-requires-clause-last
push-requires-clause-last c =
    let x : Placed = c.requires.next.0 in
    let fits = c.requires.next.2 in
    subst (λ y. AllByRecursion (λ s. PlacedBefore (placed_of s) y) c.args.pieces.now.tail) (same_row c)
    (each_unmapped (λ y. PlacedBefore y x) placed_of c.args.pieces.now.tail (last_before c.args.journal.now.state.notes c.requires.source.sound.journal (map placed_of c.args.pieces.now.tail) x fits.rises fits.put))

pub returns-clause-ok : goal.returns-clause-ok
returns-clause-ok c =
    let same : c.requires.next.0 ≡ placed c.args.position c.in-Put.ts.0 c.in_ok-share-in-Put.field-0 =
    row_of_note c.args.journal.now.state.notes c.args.position c.note.result.now c.in-Put.ts.0 c.in-Put.how c.in-Put.row c.requires.next.0 c.note.ensures
    (ap (effective (take c.args.position c.args.journal.now.state.notes)) (sym c.in-Put.is)) c.requires.next.1
    ∙ ap (placed c.args.position c.in-Put.ts.0) (sym c.in_ok-share-in-Put.ensures) in
    on_ok_weaker c.push.result
    (λ e. ap shelves_in_pieces e
    ∙ ap (with_shown (shelves_in_pieces c.args.pieces.now)) (ap Some (sym same) ∙ sym c.requires.next.1))
    c.push.ensures.ok
