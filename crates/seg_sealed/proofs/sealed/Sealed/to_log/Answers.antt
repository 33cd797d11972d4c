use Rattle.std.proofs.Common.{◌≡◌, Ok, Err, IfOk, Result, sym, subst}
use Rattle.row_types.specs.declared.allocation.Memory.{Memory}
use Rattle.binlog_format.specs.declared.objects.InsertLog.{InsertLog}
use Rattle.binlog_format.specs.Inserts.{IsInsertLog}
use Rattle.seg_sealed.specs.Segments.{SealedSegment, IsSealed, log_of}
use Rattle.seg_sealed.proofs.LogLaws.{log_valid}
use Rattle.seg_sealed.proofs.sealed.Sealed.to_log.Goals as goal

valid : (s : SealedSegment) → IsSealed s → (r : Result InsertLog Memory) → IfOk r (λ log. log ≡ log_of s) → IfOk r (λ log. IsInsertLog log)
valid s sealed (Ok log) is = subst IsInsertLog (sym is) (log_valid s sealed)
valid s sealed (Err e) is = tt

pub returns-clause-valid : goal.returns-clause-valid
returns-clause-valid c = valid c.args.self.now (subst IsSealed c.self.view_is c.self.invariant.sealed) c.copied.result c.copied.ensures
