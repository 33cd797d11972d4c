use Rattle.std.proofs.Common.{◌++◌, ◌∷◌, [], arith, refl, subst}
use Rattle.row_types.specs.Hits.{IsOneDistanceAKey, IsEachKeyOnce}
use Rattle.top_list.specs.Kept.{Kept}
use Rattle.top_list.proofs.Laws.{own_from_least, each_key_from_least}
use Rattle.top_list.proofs.tops.TopList.offer.Goals as goal

pub invariant_of-self : goal.invariant_of-self
invariant_of-self c = record { own = own_from_least _ _ _ _ refl c.place.ensures.hits; some = c.self.invariant.some; free = omega arith }

pub returns-clause-each_key_once : goal.returns-clause-each_key_once
returns-clause-each_key_once c =
    subst (λ (t : Kept). IsOneDistanceAKey (t.hits ++ c.args.hit ∷ []) → IsEachKeyOnce c.place.new.window.hits) c.self.view_is
    (each_key_from_least _ _ _ c.place.ensures.hits)
