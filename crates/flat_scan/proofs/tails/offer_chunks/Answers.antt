use Rattle.std.proofs.Common.{◌≡◌, ◌+◌, ◌++◌, List, length, take, ap, sym, subst, ◌∙◌, refl, add-one, length-append, arith}
use Rattle.std.proofs.lemmas.Option.{slice_get_read}
use Rattle.log_model.specs.Places.{Placed}
use Rattle.seg_sealed.specs.Parts.{shown_from}
use Rattle.top_list.specs.Kept.{Offered}
use Rattle.view_laws.specs.Found.{hits_seen}
use Rattle.growing_segment.specs.Tails.{HasDimension, rows_in}
use Rattle.flat_scan.proofs.Offers.{own_offered, offered_piece}
use Rattle.flat_scan.proofs.TailChunks.{rows-next, chunk-fit, chunk-few}
use Rattle.flat_scan.proofs.tails.offer_chunks.Goals as goal

pub offer_chunk-from-requires-clause-fit : goal.offer_chunk-from-requires-clause-fit
offer_chunk-from-requires-clause-fit g c = chunk-fit (HasDimension (length c.args.asked.now.query.now.vector)) c.args.chunks.now c.chunks.chunk-index c.chunk-item.result (slice_get_read c.args.chunks.now (length c.args.chunks.now) c.chunks.chunk-index c.chunk-item.result refl c.chunks-test.true c.chunk-item.is) c.requires.fit

pub offer_chunk-from-requires-clause-few : goal.offer_chunk-from-requires-clause-few
offer_chunk-from-requires-clause-few g c = omega (arith, chunk-few c.args.chunks.now c.chunks.chunk-index c.chunk-item.result (slice_get_read c.args.chunks.now (length c.args.chunks.now) c.chunks.chunk-index c.chunk-item.result refl c.chunks-test.true c.chunk-item.is), c.chunks.invariant.count, c.requires.few)

pub chunks-preserved : goal.chunks-preserved
chunks-preserved g c =
    let ts = c.args.asked.now.ts.0 in
    let plan = c.args.asked.now.plan.now in
    let query = c.args.asked.now.query.now in
    let deaths = c.args.marks.now.deaths in
    let before = rows_in (take c.chunks.chunk-index c.args.chunks.now) in
    let rows = c.chunk-item.result.rows in
    let next : rows_in (take (c.chunks.chunk-index + 1) c.args.chunks.now) ≡ before ++ rows = rw add-one (rows-next c.args.chunks.now c.chunks.chunk-index c.chunk-item.result (slice_get_read c.args.chunks.now (length c.args.chunks.now) c.chunks.chunk-index c.chunk-item.result refl c.chunks-test.true c.chunk-item.is)) in
    let long : length (rows_in (take (c.chunks.chunk-index + 1) c.args.chunks.now)) ≡ length before + length rows = ap (λ (l : List Placed). length l) next ∙ length-append before rows in
    record {
      own = own_offered c.chunks.gather c.offer_chunk-from.new.gather (hits_seen ts plan query (shown_from deaths c.chunks.from rows)) c.offer_chunk-from.ensures.offered;
      count = omega (arith, c.offer_chunk-from.ensures.next, c.chunks.invariant.count, long);
      offered = subst (λ (l : List Placed). Offered c.args.gather.now c.offer_chunk-from.new.gather (hits_seen ts plan query (shown_from deaths 0 l))) (sym next)
          (offered_piece ts plan query c.args.gather.now c.chunks.gather c.offer_chunk-from.new.gather deaths before rows c.chunks.from c.chunks.invariant.count c.chunks.invariant.offered c.offer_chunk-from.ensures.offered);
      steps = omega (arith, c.offer_chunk-from.ensures.steps, c.chunks.invariant.steps, long);
    }
