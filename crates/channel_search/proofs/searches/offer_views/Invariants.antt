use Rattle.std.proofs.Common.{◌≡◌, ◌+◌, length, take}
use Rattle.row_types.specs.Hits.{least}
use Rattle.top_list.specs.Kept.{Offered}
use Rattle.view_laws.specs.Found.{hits_seen}
use Rattle.channel_search.specs.Found.{rows_in_all}
use Rattle.channel_search.proofs.searches.offer_views.Given as goal

abbrev pub invariant-views : goal.invariant-views
invariant-views g l = record {
  own : l.gather.hits ≡ least l.gather.k l.gather.hits;
  offered : Offered l.fn.gather l.gather (hits_seen l.ts.0 l.plan l.query (rows_in_all (take l.view-index l.views)));
  steps : l.steps ≡ l.fn.steps + length (rows_in_all (take l.view-index l.views));
}
