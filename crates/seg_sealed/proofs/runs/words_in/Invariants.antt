use Rattle.std.proofs.Common.{map, take}
use Rattle.log_model.specs.Places.{IsColumn, width_of, vector_of}
use Rattle.seg_sealed.specs.Runs.{rows_of_runs}
use Rattle.seg_sealed.proofs.runs.words_in.Given as goal

abbrev pub invariant-runs : goal.invariant-runs
invariant-runs l = IsColumn (width_of l.dim) (map vector_of (rows_of_runs (take l.run-index l.runs))) l.words.items
