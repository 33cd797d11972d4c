use Rattle.std.proofs.Common.{◌≡◌, ◌+◌, ◌++◌, List, length, take, ap, refl, sym, subst, ◌∙◌, length-append, arith}
use Rattle.std.proofs.lemmas.Option.{slice_get_read}
use Rattle.journal_model.specs.Views.{Shown}
use Rattle.top_list.specs.Kept.{Offered}
use Rattle.view_laws.specs.Found.{hits_seen}
use Rattle.flat_scan.proofs.Offers.{own_offered, offered_behind}
use Rattle.channel_search.specs.Found.{rows_in, rows_in_all}
use Rattle.channel_search.proofs.Joining.{rows-next}
use Rattle.channel_search.proofs.searches.offer_views.Goals as goal

pub views-preserved : goal.views-preserved
views-preserved g c =
    let ts = c.args.ts.0 in
    let plan = c.args.plan.now in
    let query = c.args.query.now in
    let before = rows_in_all (take c.views.view-index c.args.views.now) in
    let rows = rows_in c.view-item.result in
    let there = slice_get_read c.args.views.now (length c.args.views.now) c.views.view-index c.view-item.result refl c.views-test.true c.view-item.is in
    let next : rows_in_all (take (c.views.view-index + 1) c.args.views.now) ≡ before ++ rows = rows-next c.args.views.now c.views.view-index c.view-item.result there in
    let long : length (rows_in_all (take (c.views.view-index + 1) c.args.views.now)) ≡ length before + length rows = ap (λ (l : List Shown). length l) next ∙ length-append before rows in
    record {
      own = own_offered c.views.gather c.offer_all.new.gather (hits_seen ts plan query rows) c.offer_all.ensures.offered;
      offered = subst (λ (l : List Shown). Offered c.args.gather.now c.offer_all.new.gather (hits_seen ts plan query l)) (sym next)
          (offered_behind ts plan query c.args.gather.now c.views.gather c.offer_all.new.gather before rows c.views.invariant.offered c.offer_all.ensures.offered);
      steps = omega (arith, c.offer_all.ensures.steps, c.views.invariant.steps, long);
    }
