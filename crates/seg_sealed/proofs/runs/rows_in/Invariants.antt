use Rattle.std.proofs.Common.{◌≡◌, length, take}
use Rattle.seg_sealed.specs.Runs.{rows_of_runs}
use Rattle.seg_sealed.proofs.runs.rows_in.Given as goal

abbrev pub invariant-runs : goal.invariant-runs
invariant-runs l = l.count ≡ length (rows_of_runs (take l.run-index l.runs))
