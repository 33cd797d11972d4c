use Rattle.log_model.proofs.Reached.{IsReached}
use Rattle.log_model.proofs.slow.live_at.Given as goal

abbrev pub invariant-entries : goal.invariant-entries
invariant-entries l = IsReached l.log l.ts.0 l.entry-index l.rows.entries
