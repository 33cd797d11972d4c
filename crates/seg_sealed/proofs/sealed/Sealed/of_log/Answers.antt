use Rattle.std.proofs.Common.{◌≡◌, ℕ, List, length, map, Some, None, refl, sym, ap, subst, ◌∙◌}
use Rattle.row_types.specs.declared.rows.Row.{Row}
use Rattle.row_types.specs.declared.rows.Field.{Field}
use Rattle.log_model.specs.Places.{Placed, IsColumn, width_of, vector_of}
use Rattle.binlog_format.specs.declared.objects.InsertLog.{InsertLog}
use Rattle.seg_sealed.specs.Segments.{SealedSegment, kind_of, sealed_rows, with_lists, fields_of, columns_from, log_of}
use Rattle.seg_sealed.specs.Fields.{sealed_of, log_in, KeepsColumns}
use Rattle.seg_sealed.proofs.SealLaws.{log_same, kept_log, back_of}
use Rattle.seg_sealed.proofs.LogLaws.{log_back}
use Rattle.seg_sealed.proofs.sealed.Sealed.of_log.Goals as goal

pub invariant_of-result : goal.invariant_of-result
invariant_of-result c =
    let column : IsColumn (width_of c.args.log.dim) c.args.log.vectors c.in_ok-words.words.items = subst (λ vs. IsColumn (width_of c.args.log.dim) vs c.in_ok-words.words.items) c.as_slice.ensures c.in_ok-words.ensures in
    let log : log_in c.args.log.segment c.args.log.dim c.into_vec.result.items c.into_vec-2.result.items c.into_vec-3.result.items c.in_ok-words.words.items c.into_vec-4.result.items ≡ c.args.log =
    log_same c.args.log c.in_ok-words.words.items c.requires column c.into_vec.result.items c.into_vec-2.result.items c.into_vec-3.result.items c.into_vec-4.result.items c.into_vec.ensures c.into_vec-2.ensures c.into_vec-3.ensures c.into_vec-4.ensures in
    subst (λ l. KeepsColumns l c.in_ok-words.words.items None) (sym log) (kept_log c.args.log c.in_ok-words.words.items c.requires column)

pub returns-clause-log : goal.returns-clause-log
returns-clause-log c =
    let column : IsColumn (width_of c.args.log.dim) c.args.log.vectors c.in_ok-words.words.items = subst (λ vs. IsColumn (width_of c.args.log.dim) vs c.in_ok-words.words.items) c.as_slice.ensures c.in_ok-words.ensures in
    let log : log_in c.args.log.segment c.args.log.dim c.into_vec.result.items c.into_vec-2.result.items c.into_vec-3.result.items c.in_ok-words.words.items c.into_vec-4.result.items ≡ c.args.log =
    log_same c.args.log c.in_ok-words.words.items c.requires column c.into_vec.result.items c.into_vec-2.result.items c.into_vec-3.result.items c.into_vec-4.result.items c.into_vec.ensures c.into_vec-2.ensures c.into_vec-3.ensures c.into_vec-4.ensures in
    ap (λ l. log_of (with_lists (sealed_of l) None)) log ∙ log_back c.args.log c.requires

pub returns-clause-back : goal.returns-clause-back
returns-clause-back c s sealed e =
    let column : IsColumn (width_of c.args.log.dim) c.args.log.vectors c.in_ok-words.words.items = subst (λ vs. IsColumn (width_of c.args.log.dim) vs c.in_ok-words.words.items) c.as_slice.ensures c.in_ok-words.ensures in
    let log : log_in c.args.log.segment c.args.log.dim c.into_vec.result.items c.into_vec-2.result.items c.into_vec-3.result.items c.in_ok-words.words.items c.into_vec-4.result.items ≡ c.args.log =
    log_same c.args.log c.in_ok-words.words.items c.requires column c.into_vec.result.items c.into_vec-2.result.items c.into_vec-3.result.items c.into_vec-4.result.items c.into_vec.ensures c.into_vec-2.ensures c.into_vec-3.ensures c.into_vec-4.ensures in
    ap (λ l. with_lists (sealed_of l) None) log ∙ back_of c.args.log s sealed e
