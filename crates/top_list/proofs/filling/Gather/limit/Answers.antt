use Rattle.std.proofs.Common.{◌≡◌, ◌++◌, ◌∷◌, [], sym, subst}
use Rattle.row_types.specs.declared.hits.Distance.TheVariants.{Hamming}
use Rattle.row_types.specs.Hits.{least}
use Rattle.row_types.proofs.Least.{least-again}
use Rattle.top_list.specs.Kept.{Kept}
use Rattle.top_list.proofs.Fills.{beyond}
use Rattle.top_list.proofs.filling.Gather.limit.Goals as goal

pub returns-in-Some-clause-own : goal.returns-in-Some-clause-own
returns-in-Some-clause-own c = subst (λ (t : Kept). t.hits ≡ least t.k t.hits) c.self.view_is (sym (least-again c.self.inside.k c.self.inside.hits.items))

pub returns-in-None-clause-own : goal.returns-in-None-clause-own
returns-in-None-clause-own c = subst (λ (t : Kept). t.hits ≡ least t.k t.hits) c.self.view_is (sym (least-again c.self.inside.k c.self.inside.hits.items))

pub returns-in-Some-clause-far : goal.returns-in-Some-clause-far
returns-in-Some-clause-far c d key above fits =
    subst (λ (t : Kept). least t.k (t.hits ++ record { distance = Hamming d; key = record { 0 = key } } ∷ []) ≡ t.hits) c.self.view_is
    (beyond _ _ _ _ d key c.self.invariant.last c.in-Some.is (c.reach.ensures d above fits))
