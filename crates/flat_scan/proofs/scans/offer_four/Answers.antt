use Rattle.std.proofs.Common.{◌≡◌, ◌+◌, ◌*◌, ◌<◌, [], ◌∷◌, length, slice_get, Some, None, subst, arith}
use Rattle.std.proofs.lemmas.Option.{slice_get-get_or}
use Rattle.seg_sealed.specs.Parts.{shown_as}
use Rattle.flat_scan.specs.Rows.{shown_at, no_row, AreOffered}
use Rattle.view_laws.specs.Found.{hits_seen}
use Rattle.flat_scan.proofs.Offers.{own_offered, more_offered}
use Rattle.flat_scan.proofs.scans.offer_four.Goals as goal

pub four-preserved : goal.four-preserved
four-preserved g c =
    let rows = g.R.Rows.shown c.args.rows.now in
    let ts = c.args.asked.now.ts.0 in
    let plan = c.args.asked.now.plan.now in
    let query = c.args.asked.now.query.now in
    let from = 4 * c.args.four.now.turn in
    let i = from + c.four.j in
    let s = shown_at rows i in
    let below : i < length rows = omega (arith, c.requires.there, c.four-test.true) in
    let there : slice_get rows i ≡ Some s = slice_get-get_or rows i (shown_as no_row None) below in
    let next : i + 1 ≡ from + (c.four.j + 1) = omega arith in
    record {
      own = own_offered c.four.gather c.offer_near.new.gather (hits_seen ts plan query (s ∷ [])) c.offer_near.ensures.offered;
      bar = c.offer_near.ensures.bar;
      offered = subst (λ n. AreOffered ts plan query rows from n c.args.gather.now c.offer_near.new.gather) next
          (more_offered ts plan query c.args.gather.now c.four.gather c.offer_near.new.gather rows from i s there c.four.invariant.offered c.offer_near.ensures.offered);
    }
