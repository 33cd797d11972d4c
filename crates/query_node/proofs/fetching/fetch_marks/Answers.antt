use Rattle.std.proofs.Common.{length, sym, subst, ◌∙◌}
use Rattle.std.proofs.lemmas.Result.{err_from_is_err_and}
use Rattle.seg_sealed.specs.Marks.{delete_log_of}
use Rattle.seg_sealed.specs.Parts.{AreDeathsOf}
use Rattle.query_node.proofs.fetching.fetch_marks.Goals as goal
use Rattle.query_node.proofs.Reading.{deaths_back, spells_here}
use Rattle.query_node.proofs.Getting.{no_memory}

pub returns-in_err-object-clause-fetched : goal.returns-in_err-object-clause-fetched
returns-in_err-object-clause-fetched g c = let p = err_from_is_err_and c.from_residual.result c.from_residual.ensures.1 in rw (p.1, p.2) (no_memory _ _)

pub returns-in-Ok-clause-deaths : goal.returns-in-Ok-clause-deaths
returns-in-Ok-clause-deaths g c =
    let P = c.args.part.now in
    let log = delete_log_of P.sealed.number P.applied P.deaths in
    let here = spells_here log _ _ _ c.deref.ensures.value c.in-Ok.ensures.found c.in_ok-object.ensures.spells in
    c.in_ok-marks_of-in-Ok.ensures.deaths log here ∙ deaths_back P.deaths

pub returns-in-Ok-clause-applied : goal.returns-in-Ok-clause-applied
returns-in-Ok-clause-applied g c =
    let P = c.args.part.now in
    let log = delete_log_of P.sealed.number P.applied P.deaths in
    c.in_ok-marks_of-in-Ok.ensures.applied log (spells_here log _ _ _ c.deref.ensures.value c.in-Ok.ensures.found c.in_ok-object.ensures.spells)

pub returns-in-Ok-clause-below : goal.returns-in-Ok-clause-below
returns-in-Ok-clause-below g c =
    let P = c.args.part.now in
    let log = delete_log_of P.sealed.number P.applied P.deaths in
    let here = spells_here log _ _ _ c.deref.ensures.value c.in-Ok.ensures.found c.in_ok-object.ensures.spells in
    let same = c.in_ok-marks_of-in-Ok.ensures.deaths log here ∙ deaths_back P.deaths in
    subst (AreDeathsOf (length P.sealed.rows)) (sym same) c.in_ok-object.ensures.deaths
