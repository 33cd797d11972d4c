use Rattle.std.proofs.Common.{arith}
use Rattle.top_list.proofs.Laws.{own_from_least}
use Rattle.top_list.proofs.tops.TopList.settled.Goals as goal

pub invariant_of-result : goal.invariant_of-result
invariant_of-result c = record {
  own = own_from_least _ _ _ _ c.new-hits.ensures.hits c.cut-last.ensures.items;
  some = c.requires.some;
  free = omega arith;
}
