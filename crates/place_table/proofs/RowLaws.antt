-- Sums over the segments of a table.
use Rattle.std.proofs.Common.{◌≡◌, ℕ, ◌+◌, ◌≤◌, Bool, true, false, cond, List, [], ◌∷◌, map, Option, Some, None, refl, sym, ap, ◌∙◌, arith}
use Rattle.std.specs.Ordering.{nat_cmp, is_eq, eq_by_cmp}
use Rattle.std.specs.declared.cmp.Ordering.{Ordering}
use Rattle.std.specs.declared.cmp.Ordering.TheVariants.{Less, Equal, Greater}
use Rattle.std.specs.Cmp.{nat_cmp_total, eq_by_cmp_equiv, Equal-is}
use Rattle.std.specs.FinMap as fin
use Rattle.std.specs.FinMap.Entries.{by_order}
use Rattle.std.specs.List.{sum_by}
use Rattle.std.proofs.lemmas.List.Sums.{sum_by-cons, sum_by-le-sum_by}
use Rattle.place_table.specs.Tables.{Placement}

summed : (Placement → ℕ) → List (ℕ × Placement) → ℕ
summed f es = sum_by f (map (λ e. e.1) es)

summed-cons : (f : Placement → ℕ) (e : ℕ × Placement) (es : List (ℕ × Placement)) → summed f (e ∷ es) ≡ f e.1 + summed f es
unfolding summed
summed-cons f e es = sum_by-cons f e.1 (map (λ x. x.1) es)

summed-none : (f : Placement → ℕ) → summed f [] ≡ 0
unfolding summed
summed-none f = refl

some_is_none : {A : Type 0} (x : A) → Some x ≡ None → ⊥
some_is_none x e = cc

put_by : (f : Placement → ℕ) (k : ℕ) (p : Placement) (e : ℕ × Placement) (es more : List (ℕ × Placement)) (found : Option Placement) (o : Ordering) → (found ≡ None → summed f more ≡ summed f es + f p) → cond (is_eq o) (Some e.1) found ≡ None
    → summed f (by_order o ((k, p) ∷ e ∷ es) ((e.0, p) ∷ es) (e ∷ more)) ≡ summed f (e ∷ es) + f p
put_by f k p e es more found Less rest h = let a = summed-cons f (k, p) (e ∷ es) in omega arith
put_by f k p e es more found Equal rest h = absurd (some_is_none _ h)
put_by f k p e es more found Greater rest h =
    let a = summed-cons f e more in
    let b = summed-cons f e es in
    let d = rest h in
    omega arith

summed-put : (f : Placement → ℕ) (k : ℕ) (p : Placement) (es : List (ℕ × Placement)) → fin.find nat_cmp k es ≡ None → summed f (fin.put nat_cmp k p es) ≡ summed f es + f p
summed-put f k p [] none = let a = summed-cons f (k, p) [] in let b = summed-none f in omega arith
summed-put f k p (e ∷ es) none = put_by f k p e es (fin.put nat_cmp k p es) (fin.find nat_cmp k es) (nat_cmp k e.0) (summed-put f k p es) none

abbrev pub total : (Placement → ℕ) → fin.FinMap nat_cmp Placement → ℕ
total f m = sum_by f (fin.values m)

-- a new segment adds what it counts for
pub total-fresh : (f : Placement → ℕ) (m : fin.FinMap nat_cmp Placement) (k : ℕ) (p : Placement) → fin.get m k ≡ None → total f (fin.insert m k p) ≡ total f m + f p
unfolding summed
total-fresh f m k p none =
    ap (λ es. sum_by f (map (λ e. e.1) es)) (fin.entries-insert nat_cmp_total m k p) ∙ summed-put f k p (fin.entries m) (sym (fin.get-entries m k) ∙ none)

tied : (k : ℕ) → eq_by_cmp nat_cmp k k ≡ true
tied k = (eq_by_cmp_equiv nat_cmp_total).refl k

gone : (m : fin.FinMap nat_cmp Placement) (k : ℕ) → fin.get (fin.remove m k) k ≡ None
gone m k = fin.get-remove nat_cmp_total m k k ∙ ap (λ b. cond b None (fin.get m k)) (tied k)

by_tie : (m : fin.FinMap nat_cmp Placement) (k q : ℕ) (p r : Placement) (b : Bool) → eq_by_cmp nat_cmp q k ≡ b → cond b (Some r) (cond b None (fin.get m q)) ≡ cond b (Some r) (fin.get m q)
by_tie m k q p r true e = refl
by_tie m k q p r false e = refl

-- a segment that is taken away and added again
again : (m : fin.FinMap nat_cmp Placement) (k : ℕ) (p : Placement) → fin.insert (fin.remove m k) k p ≡ fin.insert m k p
again m k p = fin.same_map nat_cmp_total fin.nat_cmp-IsAntisymmetric _ _ (λ q.
    fin.get-insert nat_cmp_total (fin.remove m k) k p q ∙ ap (cond (eq_by_cmp nat_cmp q k) (Some p)) (fin.get-remove nat_cmp_total m k q)
    ∙ by_tie m k q p p _ refl ∙ sym (fin.get-insert nat_cmp_total m k p q))

own_at : (m : fin.FinMap nat_cmp Placement) (k q : ℕ) (p : Placement) (b : Bool) → fin.get m k ≡ Some p → eq_by_cmp nat_cmp q k ≡ b → cond b (Some p) (fin.get m q) ≡ fin.get m q
own_at m k q p true is e = sym (ap (fin.get m) (fin.nat_cmp-IsAntisymmetric q k ((Equal-is (nat_cmp q k)).0 e)) ∙ is)
own_at m k q p false is e = refl

own : (m : fin.FinMap nat_cmp Placement) (k : ℕ) (p : Placement) → fin.get m k ≡ Some p → fin.insert m k p ≡ m
own m k p is = fin.same_map nat_cmp_total fin.nat_cmp-IsAntisymmetric _ _ (λ q. fin.get-insert nat_cmp_total m k p q ∙ own_at m k q p _ is refl)

pub total-removed : (f : Placement → ℕ) (m : fin.FinMap nat_cmp Placement) (k : ℕ) (p : Placement) → fin.get m k ≡ Some p → total f (fin.remove m k) + f p ≡ total f m
total-removed f m k p is = sym (total-fresh f (fin.remove m k) k p (gone m k)) ∙ ap (total f) (again m k p ∙ own m k p is)

pub total-replaced : (f : Placement → ℕ) (m : fin.FinMap nat_cmp Placement) (k : ℕ) (p q : Placement) → fin.get m k ≡ Some p → total f (fin.insert m k q) + f p ≡ total f m + f q
total-replaced f m k p q is =
    let a : total f (fin.insert m k q) ≡ total f (fin.remove m k) + f q = ap (total f) (sym (again m k q)) ∙ total-fresh f (fin.remove m k) k q (gone m k) in
    let b = total-removed f m k p is in
    omega arith

pub total-le : (f g : Placement → ℕ) (m : fin.FinMap nat_cmp Placement) → ((p : Placement) → f p ≤ g p) → total f m ≤ total g m
total-le f g m le = sum_by-le-sum_by f g (fin.values m) le
