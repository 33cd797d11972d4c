use Rattle.std.proofs.Common.{◌≡◌, ◌+◌, ◌++◌, List, length, map, take, ap, refl, sym, subst, ◌∙◌, length-append, arith}
use Rattle.std.proofs.lemmas.Option.{slice_get_read}
use Rattle.journal_model.specs.Lists.{joined}
use Rattle.journal_model.specs.Views.{Shown}
use Rattle.seg_sealed.specs.Parts.{shown_rows}
use Rattle.top_list.specs.Kept.{Offered}
use Rattle.view_laws.specs.Found.{hits_seen}
use Rattle.flat_scan.proofs.Offers.{own_offered, offered_behind}
use Rattle.view_scan.proofs.Found.{joined-next}
use Rattle.view_scan.proofs.searches.offer_parts.Goals as goal

pub parts-preserved : goal.parts-preserved
parts-preserved g c =
    let ts = c.args.ts.0 in
    let plan = c.args.plan.now in
    let query = c.args.query.now in
    let before = joined (map shown_rows (take c.parts.part-index c.args.parts.now)) in
    let rows = shown_rows c.part-item.result in
    let there = slice_get_read c.args.parts.now (length c.args.parts.now) c.parts.part-index c.part-item.result refl c.parts-test.true c.part-item.is in
    let next : joined (map shown_rows (take (c.parts.part-index + 1) c.args.parts.now)) ≡ before ++ rows = joined-next c.args.parts.now c.parts.part-index c.part-item.result there in
    let long : length (joined (map shown_rows (take (c.parts.part-index + 1) c.args.parts.now))) ≡ length before + length rows = ap (λ (l : List Shown). length l) next ∙ length-append before rows in
    record {
      own = own_offered c.parts.gather c.offer_part.new.gather (hits_seen ts plan query rows) c.offer_part.ensures.offered;
      offered = subst (λ (l : List Shown). Offered c.args.gather.now c.offer_part.new.gather (hits_seen ts plan query l)) (sym next)
          (offered_behind ts plan query c.args.gather.now c.parts.gather c.offer_part.new.gather before rows c.parts.invariant.offered c.offer_part.ensures.offered);
      steps = omega (arith, c.offer_part.ensures.steps, c.parts.invariant.steps, long);
    }
