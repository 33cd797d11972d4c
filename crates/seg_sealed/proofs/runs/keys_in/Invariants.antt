use Rattle.std.proofs.Common.{◌≡◌, map, take}
use Rattle.seg_sealed.specs.Segments.{key_of}
use Rattle.seg_sealed.specs.Runs.{rows_of_runs}
use Rattle.seg_sealed.proofs.runs.keys_in.Given as goal

abbrev pub invariant-runs : goal.invariant-runs
invariant-runs l = l.keys.items ≡ map key_of (rows_of_runs (take l.run-index l.runs))
