use Rattle.std.proofs.Common.{◌≡◌, ℕ, ◌+◌, List, [], ◌∷◌, ◌++◌, length, map, take, slice_get, Some, refl, sym, ap, ◌∙◌, arith}
use Rattle.std.specs.Option.{option_map}
use Rattle.std.proofs.lemmas.Option.{slice_get_read, slice_get-map}
use Rattle.std.proofs.lemmas.List.{length-map, length-take-le}
use Rattle.row_types.specs.declared.rows.Kind.{Kind}
use Rattle.row_types.specs.declared.rows.Field.{Field}
use Rattle.binlog_format.specs.declared.objects.Column.{Column}
use Rattle.seg_sealed.specs.Segments.{fields_of, field_at, column_of, columns_from}
use Rattle.seg_sealed.specs.Fields.{kind_in}
use Rattle.seg_sealed.specs.Runs.{rows_of_runs}
use Rattle.seg_sealed.proofs.ColumnSteps.{one_more, columns-snoc, whole}
use Rattle.seg_sealed.proofs.RunLaws.{kinds_at}
use Rattle.seg_sealed.proofs.runs.columns_in.Goals as goal

pub column_in-requires : goal.column_in-requires
column_in-requires c =
    let like : List Column = c.args.like.now in
    let f : Column = c.index-like-at.result in
    let there : slice_get like c.columns.at ≡ Some f = slice_get_read like (length like) c.columns.at f refl c.columns-test.true c.index-like-at.is in
    kinds_at c.args.runs.now (map kind_in like) c.columns.at c.kind_of.result c.requires
    (slice_get-map kind_in like c.columns.at ∙ ap (option_map kind_in) there ∙ ap (λ (k : Kind). Some k) (sym c.kind_of.ensures))

pub columns-preserved : goal.columns-preserved
columns-preserved c =
    let rows : List (List Field) = map fields_of (rows_of_runs c.args.runs.now) in
    let like : List Column = c.args.like.now in
    let kinds : List Kind = map kind_in (take c.columns.at like) in
    let f : Column = c.index-like-at.result in
    let there : slice_get like c.columns.at ≡ Some f = slice_get_read like (length like) c.columns.at f refl c.columns-test.true c.index-like-at.is in
    let lt = c.columns-test.true in
    let many : length kinds ≡ c.columns.at = length-map (take c.columns.at like) kind_in ∙ length-take-le c.columns.at like (omega arith) in
    let column : c.in_ok-column.column ≡ column_of (kind_in f) (map (field_at (0 + length kinds)) rows) =
    c.in_ok-column.ensures ∙ ap (λ (k : Kind). column_of k (map (field_at c.columns.at) rows)) c.kind_of.ensures ∙ ap (λ n. column_of (kind_in f) (map (field_at n) rows)) (let e : c.columns.at ≡ 0 + length kinds = omega arith in e) in
    c.in_ok-push.ensures.items ∙ ap (λ cs. cs ++ c.in_ok-column.column ∷ []) c.columns.invariant
    ∙ ap (λ d. columns_from 0 kinds rows ++ d ∷ []) column
    ∙ sym (columns-snoc 0 kinds (kind_in f) rows) ∙ ap (λ ks. columns_from 0 ks rows) (one_more kind_in like c.columns.at f there)

pub returns : goal.returns
returns c =
    let end : c.columns.at ≡ length c.args.like.now = let b = c.columns-test.false in let d = c.columns.auto.at-end in omega arith in
    c.columns.invariant ∙ ap (λ ks. columns_from 0 ks (map fields_of (rows_of_runs c.args.runs.now))) (whole kind_in c.args.like.now c.columns.at (map kind_in (take c.columns.at c.args.like.now)) end refl)
