use Rattle.std.proofs.Common.{◌≡◌, ℕ, List, length, map, Some, None, refl, sym, ap, subst, ◌∙◌}
use Rattle.row_types.specs.declared.rows.Row.{Row}
use Rattle.row_types.specs.declared.rows.Field.{Field}
use Rattle.log_model.specs.Places.{Placed, IsColumn, width_of, vector_of}
use Rattle.binlog_format.specs.declared.objects.InsertLog.{InsertLog}
use Rattle.seg_sealed.specs.Segments.{SealedSegment, kind_of, sealed_rows, with_lists, fields_of, columns_from, log_of}
use Rattle.seg_sealed.specs.Fields.{sealed_of, log_in, KeepsColumns}
use Rattle.seg_sealed.proofs.SealLaws.{dim_first, kinds_first, log_is, kept_of, seen_as}
use Rattle.seg_sealed.proofs.sealed.Sealed.build.Goals as goal

pub invariant_of-result : goal.invariant_of-result
invariant_of-result g c =
    let rows : List Placed = g.T.TailRows.rows c.args.from.now in
    let s : SealedSegment = sealed_rows c.args.number rows in
    let first : c.get-first.result.now ≡ c.row.result.now.row = c.get-first.ensures ∙ ap (λ (x : Placed). x.row) c.behind-from.view_is in
    let dim : c.dim-dim.result ≡ s.dim = c.dim-dim.ensures.dim ∙ ap (λ (r : Row). length r.vector) first ∙ sym (dim_first rows c.row.result.now c.row.ensures) in
    let column : IsColumn (width_of s.dim) (map vector_of rows) c.in_ok-heads.heads.words.items = subst (λ d. IsColumn (width_of d) (map vector_of rows) c.in_ok-heads.heads.words.items) dim c.in_ok-heads.ensures.words in
    let kinds : map kind_of c.as_slice.result.now ≡ s.kinds = ap (map kind_of) (c.as_slice.ensures ∙ ap (λ (r : Row). r.fields) first) ∙ sym (kinds_first rows c.row.result.now c.row.ensures) in
    let columns : c.in_ok-columns.columns.items ≡ columns_from 0 s.kinds (map fields_of rows) = c.in_ok-columns.ensures ∙ ap (λ ks. columns_from 0 ks (map fields_of rows)) kinds in
    let log : log_in c.args.number c.dim-dim.result c.in_ok-positions.positions.items c.in_ok-stamps.stamps.items c.in_ok-heads.heads.keys.items c.in_ok-heads.heads.words.items c.in_ok-columns.columns.items ≡ log_of s =
    ap (λ d. log_in c.args.number d c.in_ok-positions.positions.items c.in_ok-stamps.stamps.items c.in_ok-heads.heads.keys.items c.in_ok-heads.heads.words.items c.in_ok-columns.columns.items) dim
    ∙ log_is s c.requires c.in_ok-positions.positions.items c.in_ok-stamps.stamps.items c.in_ok-heads.heads.keys.items c.in_ok-heads.heads.words.items c.in_ok-columns.columns.items c.in_ok-positions.ensures c.in_ok-stamps.ensures c.in_ok-heads.ensures.keys column columns in
    subst (λ l. KeepsColumns l c.in_ok-heads.heads.words.items None) (sym log) (kept_of s c.in_ok-heads.heads.words.items c.requires column)

pub returns : goal.returns
returns g c =
    let rows : List Placed = g.T.TailRows.rows c.args.from.now in
    let s : SealedSegment = sealed_rows c.args.number rows in
    let first : c.get-first.result.now ≡ c.row.result.now.row = c.get-first.ensures ∙ ap (λ (x : Placed). x.row) c.behind-from.view_is in
    let dim : c.dim-dim.result ≡ s.dim = c.dim-dim.ensures.dim ∙ ap (λ (r : Row). length r.vector) first ∙ sym (dim_first rows c.row.result.now c.row.ensures) in
    let column : IsColumn (width_of s.dim) (map vector_of rows) c.in_ok-heads.heads.words.items = subst (λ d. IsColumn (width_of d) (map vector_of rows) c.in_ok-heads.heads.words.items) dim c.in_ok-heads.ensures.words in
    let kinds : map kind_of c.as_slice.result.now ≡ s.kinds = ap (map kind_of) (c.as_slice.ensures ∙ ap (λ (r : Row). r.fields) first) ∙ sym (kinds_first rows c.row.result.now c.row.ensures) in
    let columns : c.in_ok-columns.columns.items ≡ columns_from 0 s.kinds (map fields_of rows) = c.in_ok-columns.ensures ∙ ap (λ ks. columns_from 0 ks (map fields_of rows)) kinds in
    let log : log_in c.args.number c.dim-dim.result c.in_ok-positions.positions.items c.in_ok-stamps.stamps.items c.in_ok-heads.heads.keys.items c.in_ok-heads.heads.words.items c.in_ok-columns.columns.items ≡ log_of s =
    ap (λ d. log_in c.args.number d c.in_ok-positions.positions.items c.in_ok-stamps.stamps.items c.in_ok-heads.heads.keys.items c.in_ok-heads.heads.words.items c.in_ok-columns.columns.items) dim
    ∙ log_is s c.requires c.in_ok-positions.positions.items c.in_ok-stamps.stamps.items c.in_ok-heads.heads.keys.items c.in_ok-heads.heads.words.items c.in_ok-columns.columns.items c.in_ok-positions.ensures c.in_ok-stamps.ensures c.in_ok-heads.ensures.keys column columns in
    ap (λ l. with_lists (sealed_of l) None) log ∙ seen_as s c.requires
