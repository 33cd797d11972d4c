use Rattle.std.proofs.Common.{◌*◌, ◌/◌}
use Rattle.flat_scan.proofs.Offers.{whole_offered}
use Rattle.flat_scan.proofs.scans.offer_rows.Goals as goal

pub returns-clause-offered : goal.returns-clause-offered
returns-clause-offered g c =
    whole_offered c.args.asked.now.ts.0 c.args.asked.now.plan.now c.args.asked.now.query.now c.args.gather.now c.offer_fours.new.gather c.offer_ones.new.gather (g.R.Rows.shown c.args.rows.now) (4 * (c.len-count.result / 4))
    c.bar.ensures.own c.offer_fours.ensures.offered c.offer_ones.ensures.offered
