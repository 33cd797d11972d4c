use Rattle.std.proofs.Common.{◌≡◌, ◌+◌, ◌*◌, ◌≤◌, length, subst, arith}
use Rattle.flat_scan.specs.Rows.{AreOffered}
use Rattle.flat_scan.proofs.Offers.{passed_offered}
use Rattle.flat_scan.proofs.scans.offer_fours.Goals as goal

pub fours-preserved : goal.fours-preserved
fours-preserved g c =
    let rows = g.R.Rows.shown c.args.rows.now in
    let ts = c.args.asked.now.ts.0 in
    let plan = c.args.asked.now.plan.now in
    let query = c.args.asked.now.query.now in
    let four = c.in-Some.four in
    let near = c.in-Some.ensures.near in
    let order : 4 * c.fours.from ≤ 4 * four.turn = omega (arith, near.start) in
    let within : 4 * four.turn ≤ length rows = omega (arith, near.within, c.requires.there) in
    let next : 4 * four.turn + 4 ≡ 4 * (four.turn + 1) = omega arith in
    let before = passed_offered ts plan query c.args.gather.now c.fours.gather rows (g.D.Distances.count c.args.far.now) (g.D.Distances.far c.args.far.now) c.fours.bar.hit 0 (4 * c.fours.from) (4 * four.turn) order within
    c.fours.invariant.own c.fours.invariant.bar c.requires.apart near.before c.fours.invariant.offered in
    record {
      own = c.offer_four.ensures.own;
      bar = c.offer_four.ensures.bar;
      within = omega (arith, near.within);
      offered = subst (λ n. AreOffered ts plan query rows 0 n c.args.gather.now c.offer_four.new.gather) next (λ first f. c.offer_four.ensures.offered first (before first f));
      steps = omega (arith, c.fours.invariant.steps, c.in-Some.ensures.steps);
    }

pub returns-clause-offered : goal.returns-clause-offered
returns-clause-offered g c =
    let rows = g.R.Rows.shown c.args.rows.now in
    let order : 4 * c.fours.from ≤ 4 * c.args.fours = omega (arith, c.fours.invariant.within) in
    passed_offered c.args.asked.now.ts.0 c.args.asked.now.plan.now c.args.asked.now.query.now c.args.gather.now c.fours.gather rows (g.D.Distances.count c.args.far.now) (g.D.Distances.far c.args.far.now) c.fours.bar.hit 0 (4 * c.fours.from) (4 * c.args.fours) order c.requires.there
    c.fours.invariant.own c.fours.invariant.bar c.requires.apart c.in_default.ensures.near c.fours.invariant.offered
