use Rattle.std.proofs.Common.{◌≡◌, take}
use Rattle.log_model.specs.Scans.{passes_filter, hits_found}
use Rattle.log_model.proofs.slow.measure.Given as goal

abbrev pub invariant-rows : goal.invariant-rows
invariant-rows l = l.hits.items ≡ hits_found (passes_filter l.query.filter) l.plan l.query (take l.row-index l.rows)
