use Rattle.std.proofs.Common.{◌∙◌, arith}
use Rattle.top_list.proofs.Laws.{own_empty}
use Rattle.top_list.proofs.tops.TopList.new.Goals as goal

pub invariant_of-result : goal.invariant_of-result
invariant_of-result c = record {
  own = own_empty _ _ (c.new-hits.ensures.hits ∙ c.in_ok-with_capacity.ensures.items);
  some = omega arith;
  free = omega (arith, c.in_ok-with_capacity.ensures.capacity);
}
