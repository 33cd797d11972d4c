use Rattle.std.proofs.Common.{◌≡◌, ◌≤◌, ℕ, List, length, map, Some, None, refl, sym, ap, subst, ◌∙◌, arith}
use Rattle.row_types.specs.declared.rows.Kind.{Kind}
use Rattle.log_model.specs.Places.{Placed, IsColumn, width_of, vector_of}
use Rattle.binlog_format.specs.declared.objects.InsertLog.{InsertLog}
use Rattle.seg_sealed.specs.Segments.{SealedSegment, with_lists, fields_of, columns_from, log_of}
use Rattle.seg_sealed.specs.Fields.{kind_in, sealed_of, log_in, KeepsColumns}
use Rattle.seg_sealed.specs.Runs.{RowRun, rows_of_runs, with_rows}
use Rattle.seg_sealed.proofs.ColumnLaws.{kinds_of-columns}
use Rattle.seg_sealed.proofs.RunLaws.{dims_of, kinds_like}
use Rattle.seg_sealed.proofs.SealLaws.{log_is, kept_of, seen_as}
use Rattle.seg_sealed.proofs.sealed.Sealed.of_runs.Goals as goal

pub rows_in-count-requires : goal.rows_in-count-requires
rows_in-count-requires c = c.requires.sealed.few

pub words_in-requires-clause-dim : goal.words_in-requires-clause-dim
words_in-requires-clause-dim c = let a = c.dim-dim.ensures in let b = c.requires.sealed.dim.most in omega arith

pub words_in-requires-clause-count : goal.words_in-requires-clause-count
words_in-requires-clause-count c = let a = c.rows_in-count.ensures in let b = c.requires.sealed.few in omega arith

pub words_in-requires-clause-alike : goal.words_in-requires-clause-alike
words_in-requires-clause-alike c = dims_of c.args.like.now c.dim-dim.result c.args.runs.now c.dim-dim.ensures c.requires.alike

pub columns_in-requires : goal.columns_in-requires
columns_in-requires c =
    let like : SealedSegment = c.args.like.now in
    kinds_like like (map kind_in c.columns.result.now) c.args.runs.now (ap (map kind_in) c.columns.ensures ∙ kinds_of-columns 0 like.kinds (map fields_of like.rows)) c.requires.alike

pub invariant_of-result : goal.invariant_of-result
invariant_of-result c =
    let rows : List Placed = rows_of_runs c.args.runs.now in
    let like : SealedSegment = c.args.like.now in
    let s : SealedSegment = with_rows c.args.number like rows in
    let words : List ℕ = c.in_ok-words.words.items in
    let dim : c.dim-dim.result ≡ s.dim = c.dim-dim.ensures in
    let column : IsColumn (width_of s.dim) (map vector_of rows) words = subst (λ d. IsColumn (width_of d) (map vector_of rows) words) dim c.in_ok-words.ensures in
    let kinds : map kind_in c.columns.result.now ≡ s.kinds = ap (map kind_in) c.columns.ensures ∙ kinds_of-columns 0 like.kinds (map fields_of like.rows) in
    let columns : c.in_ok-columns.columns.items ≡ columns_from 0 s.kinds (map fields_of rows) = c.in_ok-columns.ensures ∙ ap (λ ks. columns_from 0 ks (map fields_of rows)) kinds in
    let log : log_in c.args.number c.dim-dim.result c.in_ok-positions.positions.items c.in_ok-stamps.stamps.items c.in_ok-keys.keys.items words c.in_ok-columns.columns.items ≡ log_of s =
    ap (λ d. log_in c.args.number d c.in_ok-positions.positions.items c.in_ok-stamps.stamps.items c.in_ok-keys.keys.items words c.in_ok-columns.columns.items) dim
    ∙ log_is s c.requires.sealed c.in_ok-positions.positions.items c.in_ok-stamps.stamps.items c.in_ok-keys.keys.items words c.in_ok-columns.columns.items c.in_ok-positions.ensures c.in_ok-stamps.ensures c.in_ok-keys.ensures column columns in
    subst (λ l. KeepsColumns l words None) (sym log) (kept_of s words c.requires.sealed column)

pub returns : goal.returns
returns c =
    let rows : List Placed = rows_of_runs c.args.runs.now in
    let like : SealedSegment = c.args.like.now in
    let s : SealedSegment = with_rows c.args.number like rows in
    let words : List ℕ = c.in_ok-words.words.items in
    let dim : c.dim-dim.result ≡ s.dim = c.dim-dim.ensures in
    let column : IsColumn (width_of s.dim) (map vector_of rows) words = subst (λ d. IsColumn (width_of d) (map vector_of rows) words) dim c.in_ok-words.ensures in
    let kinds : map kind_in c.columns.result.now ≡ s.kinds = ap (map kind_in) c.columns.ensures ∙ kinds_of-columns 0 like.kinds (map fields_of like.rows) in
    let columns : c.in_ok-columns.columns.items ≡ columns_from 0 s.kinds (map fields_of rows) = c.in_ok-columns.ensures ∙ ap (λ ks. columns_from 0 ks (map fields_of rows)) kinds in
    let log : log_in c.args.number c.dim-dim.result c.in_ok-positions.positions.items c.in_ok-stamps.stamps.items c.in_ok-keys.keys.items words c.in_ok-columns.columns.items ≡ log_of s =
    ap (λ d. log_in c.args.number d c.in_ok-positions.positions.items c.in_ok-stamps.stamps.items c.in_ok-keys.keys.items words c.in_ok-columns.columns.items) dim
    ∙ log_is s c.requires.sealed c.in_ok-positions.positions.items c.in_ok-stamps.stamps.items c.in_ok-keys.keys.items words c.in_ok-columns.columns.items c.in_ok-positions.ensures c.in_ok-stamps.ensures c.in_ok-keys.ensures column columns in
    ap (λ l. with_lists (sealed_of l) None) log ∙ seen_as s c.requires.sealed
