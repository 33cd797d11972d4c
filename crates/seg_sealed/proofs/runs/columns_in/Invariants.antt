use Rattle.std.proofs.Common.{◌≡◌, map, take}
use Rattle.seg_sealed.specs.Segments.{fields_of, columns_from}
use Rattle.seg_sealed.specs.Fields.{kind_in}
use Rattle.seg_sealed.specs.Runs.{rows_of_runs}
use Rattle.seg_sealed.proofs.runs.columns_in.Given as goal

abbrev pub invariant-columns : goal.invariant-columns
invariant-columns l = l.columns.items ≡ columns_from 0 (map kind_in (take l.at l.like)) (map fields_of (rows_of_runs l.runs))
