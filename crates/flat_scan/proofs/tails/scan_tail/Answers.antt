use Rattle.std.proofs.Common.{◌≡◌, ◌+◌, ◌++◌, List, length, ap, sym, subst, ◌∙◌, length-append, arith}
use Rattle.std.specs.List.{AllByRecursion}
use Rattle.log_model.specs.Places.{Placed}
use Rattle.seg_sealed.specs.Parts.{shown_from}
use Rattle.top_list.specs.Kept.{Offered}
use Rattle.view_laws.specs.Found.{hits_seen}
use Rattle.growing_segment.specs.Tails.{HasDimension, rows_in}
use Rattle.flat_scan.proofs.AllLists.{all_back, all_at}
use Rattle.flat_scan.specs.Rows.{no_row}
use Rattle.flat_scan.proofs.MarkedRows.{shown-length}
use Rattle.flat_scan.proofs.Offers.{offered_piece}
use Rattle.flat_scan.proofs.WordColumns.{one_by_one}
use Rattle.flat_scan.proofs.tails.scan_tail.Goals as goal

pub invariant_of-far : goal.invariant_of-far
invariant_of-far g c =
    let tail = c.args.tail.now in
    let latest = c.parts.result.1.now in
    let fit : AllByRecursion (HasDimension tail.dim) (rows_in c.parts.result.0.now ++ latest) = subst (AllByRecursion (HasDimension tail.dim)) c.parts.ensures.rows c.dim-dim.ensures.rows.fit in
    record { fits = λ i below. c.requires ∙ sym (all_at (HasDimension tail.dim) latest i no_row (all_back (HasDimension tail.dim) (rows_in c.parts.result.0.now) latest fit) below) }

pub offer_rows-requires : goal.offer_rows-requires
offer_rows-requires g c = one_by_one c.args.plan.now c.args.query.now c.args.marks.now.deaths c.offer_chunks-from.result c.parts.result.1.now

pub returns-clause-offered : goal.returns-clause-offered
returns-clause-offered g c =
    let ts = c.args.ts.0 in
    let plan = c.args.plan.now in
    let query = c.args.query.now in
    subst (λ (l : List Placed). Offered c.args.gather.now c.offer_rows.new.gather (hits_seen ts plan query (shown_from c.args.marks.now.deaths 0 l))) (sym c.parts.ensures.rows)
    (offered_piece ts plan query c.args.gather.now c.offer_chunks-from.new.gather c.offer_rows.new.gather c.args.marks.now.deaths (rows_in c.parts.result.0.now) c.parts.result.1.now c.offer_chunks-from.result
    c.offer_chunks-from.ensures.count c.offer_chunks-from.ensures.offered c.offer_rows.ensures.offered)

pub returns-clause-steps : goal.returns-clause-steps
returns-clause-steps g c =
    let before = rows_in c.parts.result.0.now in
    let latest = c.parts.result.1.now in
    let long : length c.args.tail.now.rows ≡ length before + length latest = ap (λ (l : List Placed). length l) c.parts.ensures.rows ∙ length-append before latest in
    omega (arith, c.offer_rows.ensures.steps, c.offer_chunks-from.ensures.steps, shown-length c.args.marks.now.deaths c.offer_chunks-from.result latest, long)
