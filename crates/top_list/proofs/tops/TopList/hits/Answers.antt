use Rattle.std.proofs.Common.{subst}
use Rattle.std.specs.List.Sorted.{IsStrictlySortedBy}
use Rattle.row_types.specs.Hits.{hit_cmp, IsOneDistanceAKey, IsEachKeyOnce}
use Rattle.top_list.specs.Kept.{Kept}
use Rattle.top_list.proofs.Laws.{rises_from_own, each_key_from_own}
use Rattle.top_list.proofs.tops.TopList.hits.Goals as goal

pub returns-clause-rises : goal.returns-clause-rises
returns-clause-rises c = subst (λ (t : Kept). IsStrictlySortedBy hit_cmp t.hits) c.self.view_is (rises_from_own _ _ c.self.invariant.own)

pub returns-clause-each_key_once : goal.returns-clause-each_key_once
returns-clause-each_key_once c = subst (λ (t : Kept). IsOneDistanceAKey t.hits → IsEachKeyOnce t.hits) c.self.view_is (each_key_from_own _ _ c.self.invariant.own)
