use Rattle.std.proofs.Common.{◌≡◌, ℕ, ◌+◌, List, [], ◌∷◌, ◌++◌, length, map, take, slice_get, Some, refl, sym, ap, subst, ◌∙◌, arith}
use Rattle.std.proofs.lemmas.Option.{slice_get_read}
use Rattle.std.proofs.lemmas.List.{length-map, length-take-le}
use Rattle.row_types.specs.declared.rows.Kind.{Kind}
use Rattle.row_types.specs.declared.rows.Field.{Field}
use Rattle.seg_sealed.specs.Segments.{kind_of, fields_of, field_at, column_of, columns_from}
use Rattle.seg_sealed.proofs.ColumnSteps.{one_more, columns-snoc, whole}
use Rattle.seg_sealed.proofs.columns.columns_of.Goals as goal

pub columns-preserved : goal.columns-preserved
columns-preserved g c =
    let rows : List (List Field) = map fields_of (g.T.TailRows.rows c.args.from.now) in
    let first : List Field = c.args.first.now in
    let kinds : List Kind = map kind_of (take c.columns.at first) in
    let f : Field = c.index-first-at.result in
    let lt = c.columns-test.true in
    let there : slice_get first c.columns.at ≡ Some f = slice_get_read first (length first) c.columns.at f refl lt c.index-first-at.is in
    let many : length kinds ≡ c.columns.at = length-map (take c.columns.at first) kind_of ∙ length-take-le c.columns.at first (omega arith) in
    let column : c.in_ok-column.column ≡ column_of (kind_of f) (map (field_at (0 + length kinds)) rows) =
    c.in_ok-column.ensures ∙ ap (λ (k : Kind). column_of k (map (field_at c.columns.at) rows)) c.kind_in.ensures ∙ ap (λ n. column_of (kind_of f) (map (field_at n) rows)) (let e : c.columns.at ≡ 0 + length kinds = omega arith in e) in
    c.in_ok-push.ensures.items ∙ ap (λ cs. cs ++ c.in_ok-column.column ∷ []) c.columns.invariant
    ∙ ap (λ d. columns_from 0 kinds rows ++ d ∷ []) column
    ∙ sym (columns-snoc 0 kinds (kind_of f) rows) ∙ ap (λ ks. columns_from 0 ks rows) (one_more kind_of first c.columns.at f there)

pub returns : goal.returns
returns g c =
    let end : c.columns.at ≡ length c.args.first.now = let b = c.columns-test.false in let d = c.columns.auto.at-end in omega arith in
    c.columns.invariant ∙ ap (λ ks. columns_from 0 ks (map fields_of (g.T.TailRows.rows c.args.from.now))) (whole kind_of c.args.first.now c.columns.at (map kind_of (take c.columns.at c.args.first.now)) end refl)
