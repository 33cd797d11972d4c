use Rattle.std.proofs.Common.{◌≡◌, ◌++◌, ◌∷◌, [], arith, subst}
use Rattle.row_types.specs.Hits.{least}
use Rattle.top_list.specs.Kept.{Kept}
use Rattle.top_list.proofs.Fills.{IsFilling-push, offered_behind, offered_pushed, offered_cut}
use Rattle.top_list.proofs.filling.Gather.offer.Goals as goal

pub returns-then-is_behind-clause-hits : goal.returns-then-is_behind-clause-hits
returns-then-is_behind-clause-hits c =
    subst (λ (t : Kept). t.hits ≡ least t.k (t.hits ++ c.args.hit ∷ [])) c.self.view_is
    (offered_behind _ _ _ _ _ c.self.invariant.last c.is_behind.ensures c.if-is_behind.true)

pub invariant_of-self-else-len-capacity : goal.invariant_of-self-else-len-capacity
invariant_of-self-else-len-capacity c =
    IsFilling-push _ _ _ _ _ _ _ _ _ _ c.self.invariant c.is_behind.ensures c.if-is_behind.false c.push_hit.ensures.items c.push_hit.ensures.capacity (omega arith)

pub returns-then-len-capacity-clause-hits : goal.returns-then-len-capacity-clause-hits
returns-then-len-capacity-clause-hits c =
    subst (λ (t : Kept). least c.self.inside.k c.cut-self-inside.new.hits.items ≡ least t.k (t.hits ++ c.args.hit ∷ [])) c.self.view_is
    (offered_cut _ _ _ _ _ c.push_hit.ensures.items c.cut-self-inside.ensures.items)

pub returns-else-len-capacity-clause-hits : goal.returns-else-len-capacity-clause-hits
returns-else-len-capacity-clause-hits c =
    subst (λ (t : Kept). least c.self.inside.k c.push_hit.new.hits.items ≡ least t.k (t.hits ++ c.args.hit ∷ [])) c.self.view_is
    (offered_pushed _ _ _ _ c.push_hit.ensures.items)
