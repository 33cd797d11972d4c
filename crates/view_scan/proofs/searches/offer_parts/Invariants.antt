use Rattle.std.proofs.Common.{◌≡◌, ◌+◌, length, map, take}
use Rattle.row_types.specs.Hits.{least}
use Rattle.journal_model.specs.Lists.{joined}
use Rattle.seg_sealed.specs.Parts.{shown_rows}
use Rattle.top_list.specs.Kept.{Offered}
use Rattle.view_laws.specs.Found.{hits_seen}
use Rattle.view_scan.proofs.searches.offer_parts.Given as goal

abbrev pub invariant-parts : goal.invariant-parts
invariant-parts g l = record {
  own : l.gather.hits ≡ least l.gather.k l.gather.hits;
  offered : Offered l.fn.gather l.gather (hits_seen l.ts.0 l.plan l.query (joined (map shown_rows (take l.part-index l.parts))));
  steps : l.steps ≡ l.fn.steps + length (joined (map shown_rows (take l.part-index l.parts)));
}
