use Rattle.std.proofs.Common.{map, length-append, arith}
use Rattle.journal_model.specs.Lists.{joined}
use Rattle.seg_sealed.specs.Parts.{shown_from, shown_rows}
use Rattle.flat_scan.proofs.MarkedRows.{shown-length}
use Rattle.flat_scan.proofs.Offers.{offered_behind}
use Rattle.view_scan.proofs.searches.offer_all.Goals as goal

pub returns-clause-offered : goal.returns-clause-offered
returns-clause-offered g c =
    let view = c.args.view.now in
    offered_behind c.args.ts.0 c.args.plan.now c.args.query.now c.args.gather.now c.offer_growing.new.gather c.offer_sealed.new.gather
    (shown_from view.deaths 0 view.tail.rows) (joined (map shown_rows view.parts)) c.offer_growing.ensures.offered c.offer_sealed.ensures.offered

pub returns-clause-steps : goal.returns-clause-steps
returns-clause-steps g c =
    let view = c.args.view.now in
    omega (
      arith,
      c.offer_growing.ensures.steps,
      c.offer_sealed.ensures.steps,
      shown-length view.deaths 0 view.tail.rows,
      length-append (shown_from view.deaths 0 view.tail.rows) (joined (map shown_rows view.parts)),
    )
