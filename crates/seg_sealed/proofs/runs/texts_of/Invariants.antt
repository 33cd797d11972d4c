use Rattle.std.proofs.Common.{◌≡◌, map, take}
use Rattle.log_model.specs.Places.{Placed}
use Rattle.seg_sealed.specs.Segments.{field_at, text_of}
use Rattle.seg_sealed.specs.Runs.{rows_of_runs}
use Rattle.seg_sealed.proofs.runs.texts_of.Given as goal

abbrev pub invariant-runs : goal.invariant-runs
invariant-runs l = l.texts.items ≡ map (λ (x : Placed). text_of (field_at l.at x.row.fields)) (rows_of_runs (take l.run-index l.runs))
