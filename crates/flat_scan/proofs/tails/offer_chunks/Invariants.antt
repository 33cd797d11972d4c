use Rattle.std.proofs.Common.{◌≡◌, ◌+◌, length, take}
use Rattle.row_types.specs.Hits.{least}
use Rattle.seg_sealed.specs.Parts.{shown_from}
use Rattle.growing_segment.specs.Tails.{rows_in}
use Rattle.top_list.specs.Kept.{Offered}
use Rattle.view_laws.specs.Found.{hits_seen}
use Rattle.flat_scan.proofs.tails.offer_chunks.Given as goal

abbrev pub invariant-chunks : goal.invariant-chunks
invariant-chunks g l = record {
  own : l.gather.hits ≡ least l.gather.k l.gather.hits;
  count : l.from ≡ length (rows_in (take l.chunk-index l.chunks));
  offered : Offered l.fn.gather l.gather (hits_seen l.asked.ts.0 l.asked.plan.now l.asked.query.now (shown_from l.marks.deaths 0 (rows_in (take l.chunk-index l.chunks))));
  steps : l.steps ≡ l.fn.steps + length (rows_in (take l.chunk-index l.chunks));
}
