use Rattle.std.proofs.Common.{◌≡◌, ℕ, List, Bool, [], ◌∷◌, ◌++◌, length, map, take, sym, ap, subst, ◌∙◌, refl, arith, ◌+◌}
use Rattle.row_types.specs.declared.rows.Key.{Key}
use Rattle.row_types.specs.declared.rows.Row.{Row}
use Rattle.row_types.specs.Bits.{AreWordsOf}
use Rattle.log_model.specs.Places.{Placed, IsColumn, width_of, vector_of}
use Rattle.seg_sealed.specs.Segments.{key_of}
use Rattle.seg_sealed.proofs.ColumnSteps.{more, one_more, whole, all_at}
use Rattle.seg_sealed.proofs.WordLaws.{column-push, words_long}
use Rattle.seg_sealed.proofs.columns.heads_of.Goals as goal

pub rows-preserved : goal.rows-preserved
rows-preserved g c =
    let rows : List Placed = g.T.TailRows.rows c.args.from.now in
    let x : Placed = c.row.result.now in
    let row : c.get-row.result.now ≡ x.row = c.get-row.ensures ∙ ap (λ (x : Placed). x.row) c.behind-from.view_is in
    let words : AreWordsOf x.row.vector c.words.result.now = subst (λ (r : Row). AreWordsOf r.vector c.words.result.now) row c.words.ensures in
    let dim : length x.row.vector ≡ c.args.dim = all_at (λ (x : Placed). length x.row.vector ≡ c.args.dim) rows c.rows.i x c.row.ensures c.requires.fit in
    let column = column-push (width_of c.args.dim) (map vector_of (take c.rows.i rows)) c.rows.words.items x.row.vector c.words.result.now c.rows.invariant.1 words (words_long c.args.dim x.row.vector c.words.result.now dim words) in (
      c.in_ok-push.ensures.items ∙ ap (λ (r : Row). c.rows.keys.items ++ r.key ∷ []) row ∙ more key_of rows c.rows.i x c.rows.keys.items c.row.ensures c.rows.invariant.0,
      subst (λ ws. IsColumn (width_of c.args.dim) (map vector_of (take (c.rows.i + 1) rows)) ws) (sym c.in_ok-extend_from_slice.ensures.items)
          (subst (λ vs. IsColumn (width_of c.args.dim) vs (c.rows.words.items ++ c.words.result.now)) (one_more vector_of rows c.rows.i x c.row.ensures) column),
    )

pub returns-clause-keys : goal.returns-clause-keys
returns-clause-keys g c =
    let end : c.rows.i ≡ length (g.T.TailRows.rows c.args.from.now) = let a = c.len-count.ensures in let b = c.rows-test.false in let d = c.rows.auto.i-end in omega arith in
    whole key_of (g.T.TailRows.rows c.args.from.now) c.rows.i c.rows.keys.items end c.rows.invariant.0

pub returns-clause-words : goal.returns-clause-words
returns-clause-words g c =
    let end : c.rows.i ≡ length (g.T.TailRows.rows c.args.from.now) = let a = c.len-count.ensures in let b = c.rows-test.false in let d = c.rows.auto.i-end in omega arith in
    subst (λ vs. IsColumn (width_of c.args.dim) vs c.rows.words.items) (whole vector_of (g.T.TailRows.rows c.args.from.now) c.rows.i (map vector_of (take c.rows.i (g.T.TailRows.rows c.args.from.now))) end refl) c.rows.invariant.1
