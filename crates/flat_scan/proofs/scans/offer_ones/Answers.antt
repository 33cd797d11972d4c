use Rattle.std.proofs.Common.{◌≡◌, ◌<◌, [], ◌∷◌, length, slice_get, Some, None, arith}
use Rattle.std.proofs.lemmas.Option.{slice_get-get_or}
use Rattle.seg_sealed.specs.Parts.{shown_as}
use Rattle.view_laws.specs.Found.{hits_seen}
use Rattle.flat_scan.specs.Rows.{shown_at, no_row}
use Rattle.flat_scan.proofs.Offers.{own_offered, more_offered}
use Rattle.flat_scan.proofs.scans.offer_ones.Goals as goal

pub rows-preserved : goal.rows-preserved
rows-preserved g c =
    let rows = g.R.Rows.shown c.args.rows.now in
    let ts = c.args.asked.now.ts.0 in
    let plan = c.args.asked.now.plan.now in
    let query = c.args.asked.now.query.now in
    let i = c.rows.i in
    let s = shown_at rows i in
    let below : i < length rows = omega (arith, c.rows-test.true, c.len-i-end.ensures) in
    let there : slice_get rows i ≡ Some s = slice_get-get_or rows i (shown_as no_row None) below in
    record {
      own = own_offered c.rows.gather c.offer_near.new.gather (hits_seen ts plan query (s ∷ [])) c.offer_near.ensures.offered;
      bar = c.offer_near.ensures.bar;
      offered = more_offered ts plan query c.args.gather.now c.rows.gather c.offer_near.new.gather rows c.args.from i s there c.rows.invariant.offered c.offer_near.ensures.offered;
      steps = omega (arith, c.rows.invariant.steps, c.measured-distance.ensures.steps);
    }
