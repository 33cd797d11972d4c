use denote.Param.Members.{Mut}
use Rattle.std.proofs.Common.{◌≡◌, Bool, List, Bor, ap, rules}
use Rattle.std.proofs.lemmas.Fn.{always_returns_same}
use Rattle.std.proofs.lemmas.List.Sorted.{ranks_by}
use Rattle.std.specs.Cmp.{IsStrictWeakOrder}
use Rattle.std.specs.Fn.{Called, ComparesAs}
use Rattle.std.specs.List.Sorted.{IsSorted, IsSortedBy}
use Rattle.std.specs.Ordering.{is_lt}
use Rattle.std.specs.declared.cmp.Ordering.{Ordering}
use Rattle.row_types.specs.declared.hits.Hit.{Hit}
use Rattle.row_types.specs.Hits.{hit_cmp}
use Rattle.row_types.specs.Orders.{hits_total}
use Rattle.top_list.proofs.filling.sort_hits.Goals as goal

-- what a sort by the order of hits gives
sorted_by_order : {F : Type 0} {g : Mut F (Bor Hit × (Bor Hit × Unit {0})) Ordering} {f : F} (xs : List Hit)
    → ((lt : Hit → Hit → Bool) → IsStrictWeakOrder lt → ComparesAs g lt f → IsSortedBy lt xs)
    → ((a : Bor Hit × (Bor Hit × Unit {0})) (r : Ordering) (f' : F) → Called g f a r f' → (r ≡ hit_cmp a.0.now a.1.0.now) × (f' ≡ f)) → IsSorted hit_cmp xs
sorted_by_order {g = g} {f = f} xs up h =
    up (λ x y. is_lt (hit_cmp x y)) (ranks_by hits_total (λ x. x))
    (always_returns_same g (λ a r. is_lt r ≡ is_lt (hit_cmp a.0.now a.1.0.now)) f (λ a r f' k. (ap is_lt (h a r f' k).0, (h a r f' k).1)))

pub returns-clause-sorted : goal.returns-clause-sorted
returns-clause-sorted c = sorted_by_order _ c.sort_unstable_by.ensures.sorted (λ a r q k. search rules)
