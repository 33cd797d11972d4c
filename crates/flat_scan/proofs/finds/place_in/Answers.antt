use Rattle.std.proofs.Common.{◌≡◌, ◌<◌, false, length, slice_get, Some, None, sym, subst}
use Rattle.std.proofs.lemmas.Option.{slice_get-get_or}
use Rattle.seg_sealed.specs.Parts.{shown_as}
use Rattle.flat_scan.specs.Rows.{shown_at, no_row}
use Rattle.flat_scan.specs.KeyPlaces.{shows_key}
use Rattle.flat_scan.proofs.MarkedRows.{if_some}
use Rattle.flat_scan.proofs.AllLists.{all_next}
use Rattle.flat_scan.proofs.finds.place_in.Goals as goal

pub rows-preserved : goal.rows-preserved
rows-preserved g c =
    let rows = g.R.Rows.shown c.args.rows.now in
    let s = shown_at rows c.rows.i in
    let below : c.rows.i < length rows = subst (λ n. c.rows.i < n) c.len-i-end.ensures c.rows-test.true in
    let there : slice_get rows c.rows.i ≡ Some s = slice_get-get_or rows c.rows.i (shown_as no_row None) below in
    let none : false ≡ shows_key c.args.ts.0 c.args.key.0 s = if_some (λ x. false ≡ shows_key c.args.ts.0 c.args.key.0 x) (slice_get rows c.rows.i) s c.if-has_key.ensures there in
    record { none = all_next (λ x. shows_key c.args.ts.0 c.args.key.0 x ≡ false) rows c.rows.i s there c.rows.invariant.none (sym none) }
