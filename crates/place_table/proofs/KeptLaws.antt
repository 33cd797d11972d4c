-- What each call keeps of the fields of a table.
use Rattle.std.proofs.Common.{◌≡◌, ◌≢◌, ℕ, ◌+◌, ◌-◌, ◌^◌, ◌<◌, ◌≤◌, Bool, true, false, ◌||◌, cond, List, [], ◌∷◌, length, map, replicate, zero, suc, get_or, set, length-set, get_or-set_same, get_or-set_other, Option, Some, None, refl, sym, ap, subst, ◌∙◌, ⊎_elim, arith}
use Rattle.std.specs.Option.{IfSome, option_map}
use Rattle.std.specs.List.{sum_by}
use Rattle.std.proofs.lemmas.Bool.{cases_eq}
use Rattle.std.proofs.lemmas.List.{length-replicate}
use Rattle.std.specs.Ordering.{nat_cmp, eq_by_cmp}
use Rattle.std.specs.Cmp.{nat_cmp_total}
use Rattle.std.specs.FinMap as fin
use Rattle.journal_model.specs.Layouts.{homes_after_load, homes_after_release}
use Rattle.place_table.specs.declared.refusals.PlaceError.TheVariants.{Already, NotThere, LastPlace}
use Rattle.place_table.specs.Tables.{Placement, at_leader, is_on, is_elsewhere, with_homes, rehomed, rehomed_at, load_refused, release_refused, rows_if, rows_on}
use Rattle.place_table.specs.Fields.{IsKept, IsPlaced, rows_in}
use Rattle.place_table.proofs.RowLaws.{total-fresh, total-removed, total-replaced, total-le}
use Rattle.place_table.proofs.HomeLaws.{same, differ, has-loaded, some-loaded, has-released, others-released, some-released}

abbrev pub counts : ℕ → Placement → ℕ
counts node p = rows_if (is_on node p) p.rows

counts-le : (node : ℕ) (p : Placement) → counts node p ≤ p.rows
counts-le node p = go (is_on node p) p.rows
  where
    go : (b : Bool) (rows : ℕ) → rows_if b rows ≤ rows
    go true rows = omega arith
    go false rows = omega arith

placed_at : (m : fin.FinMap nat_cmp Placement) (segment : ℕ) (p : Placement) → IsPlaced p → ((k : ℕ) → IfSome (fin.get m k) IsPlaced) → (k : ℕ) → IfSome (fin.get (fin.insert m segment p) k) IsPlaced
placed_at m segment p is all k = subst (λ o. IfSome o IsPlaced) (sym (fin.get-insert nat_cmp_total m segment p k)) (go (eq_by_cmp nat_cmp k segment))
  where
    go : (b : Bool) → IfSome (cond b (Some p) (fin.get m k)) IsPlaced
    go true = is
    go false = all k

pub add_keeps : (loads : List ℕ) (sum : ℕ) (m : fin.FinMap nat_cmp Placement) (segment rows : ℕ) → IsKept loads sum m → fin.get m segment ≡ None → sum + rows < 2 ^ 64 → IsKept loads (sum + rows) (fin.insert m segment (at_leader rows))
add_keeps loads sum m segment rows kept none fits = record {
  some = kept.some;
  few = kept.few;
  counted = λ node below. let a = total-fresh (counts node) m segment (at_leader rows) none in let b = kept.counted node below in omega arith;
  total_is = let a = total-fresh (λ p. p.rows) m segment (at_leader rows) none in let b = kept.total_is in omega arith;
  fits = fits;
  placed = placed_at m segment (at_leader rows) (omega arith) kept.placed;
}

some_none : {A : Type 0} (x : A) → Some x ≡ None → ⊥
some_none x e = cc

some_same : {A : Type 0} (x y : A) → Some x ≡ Some y → x ≡ y
some_same x y e = cc

-- the rows of all nodes after those of one changed
set_counts : (loads : List ℕ) (m n : fin.FinMap nat_cmp Placement) (node now : ℕ) → ((k : ℕ) → k < length loads → get_or loads k 0 ≡ rows_on k m) → now ≡ rows_on node n → ((k : ℕ) → k ≢ node → rows_on k n ≡ rows_on k m)
    → (k : ℕ) → k < length (set loads node now) → get_or (set loads node now) k 0 ≡ rows_on k n
set_counts loads m n node now was is others k under =
    let inside : k < length loads = omega (arith, length-set loads node now) in
    let at_node : k ≡ node → get_or (set loads node now) k 0 ≡ rows_on k n = λ e. subst (λ j. get_or (set loads node now) j 0 ≡ rows_on j n) (sym e) (get_or-set_same loads node now 0 (subst (λ j. j < length loads) e inside) ∙ is) in
    let apart : k ≢ node → get_or (set loads node now) k 0 ≡ rows_on k n = λ ne. get_or-set_other loads node k now 0 ne ∙ was k inside ∙ sym (others k ne) in
    ⊎_elim at_node apart (cases_eq k node)

-- what is known of a segment that is homes_after_load on a node
record IsLoadable (segment node rows : ℕ) (m : fin.FinMap nat_cmp Placement) : Type 0 where
  placement : Placement
  is : fin.get m segment ≡ Some placement
  off : is_on node placement ≡ false
  rows_are : placement.rows ≡ rows

off_if : (segment node : ℕ) (b : Bool) → cond b (Some (Already segment node)) None ≡ None → b ≡ false
off_if segment node true e = absurd (some_none _ e)
off_if segment node false e = refl

loadable_at : (segment node rows : ℕ) (m : fin.FinMap nat_cmp Placement) (o : Option Placement) → fin.get m segment ≡ o → load_refused segment node o ≡ None → option_map (λ p. p.rows) o ≡ Some rows → IsLoadable segment node rows m
loadable_at segment node rows m None e free is = absurd (some_none _ free)
loadable_at segment node rows m (Some p) e free is = record { placement = p; is = e; off = off_if segment node (is_on node p) free; rows_are = some_same _ _ is }

loadable : (segment node rows : ℕ) (m : fin.FinMap nat_cmp Placement) → load_refused segment node (fin.get m segment) ≡ None → option_map (λ p. p.rows) (fin.get m segment) ≡ Some rows → IsLoadable segment node rows m
loadable segment node rows m free is = loadable_at segment node rows m (fin.get m segment) refl free is

or_true : (a : Bool) → a || true ≡ true
or_true true = refl
or_true false = refl

or_false : (a : Bool) → a || false ≡ a
or_false true = refl
or_false false = refl

loaded_counts : (loads : List ℕ) (m : fin.FinMap nat_cmp Placement) (segment node rows : ℕ) (x : IsLoadable segment node rows m) → get_or loads node 0 ≡ rows_on node m → get_or loads node 0 + rows ≡ rows_on node (fin.insert m segment (with_homes (homes_after_load node) x.placement))
loaded_counts loads m segment node rows x was =
    let p = x.placement in
    let a = total-replaced (counts node) m segment p (with_homes (homes_after_load node) p) x.is in
    let b : counts node p ≡ 0 = ap (λ b. rows_if b p.rows) x.off in
    let d : counts node (with_homes (homes_after_load node) p) ≡ rows = ap (λ b. rows_if b p.rows) (has-loaded node node p.homes ∙ ap (λ b. is_on node p || b) (same node) ∙ or_true (is_on node p)) ∙ x.rows_are in
    omega arith

pub load_keeps : (loads : List ℕ) (sum : ℕ) (m : fin.FinMap nat_cmp Placement) (segment node rows : ℕ) → IsKept loads sum m → node < length loads → load_refused segment node (fin.get m segment) ≡ None → option_map (λ p. p.rows) (fin.get m segment) ≡ Some rows
    → IsKept (set loads node (get_or loads node 0 + rows)) sum (rehomed segment (homes_after_load node) m)
load_keeps loads sum m segment node rows kept below free is =
    let x = loadable segment node rows m free is in
    let p = x.placement in
    let changed : Placement = with_homes (homes_after_load node) p in
    let n : fin.FinMap nat_cmp Placement = fin.insert m segment changed in
    let others : (k : ℕ) → k ≢ node → rows_on k n ≡ rows_on k m = λ k ne.
    let a = total-replaced (counts k) m segment p changed x.is in
    let b : counts k changed ≡ counts k p = ap (λ b. rows_if b p.rows) (has-loaded k node p.homes ∙ ap (λ b. is_on k p || b) (differ k node ne) ∙ or_false (is_on k p)) in
    omega arith in
    let done : IsKept (set loads node (get_or loads node 0 + rows)) sum n = record {
      some = omega (arith, length-set loads node (get_or loads node 0 + rows), kept.some);
      few = omega (arith, length-set loads node (get_or loads node 0 + rows), kept.few);
      counted = set_counts loads m n node (get_or loads node 0 + rows) kept.counted (loaded_counts loads m segment node rows x (kept.counted node below)) others;
      total_is = let a = total-replaced (λ p. p.rows) m segment p changed x.is in let b = kept.total_is in omega arith;
      fits = kept.fits;
      placed = placed_at m segment changed (some-loaded node p.homes) kept.placed;
    } in
    subst (λ o. IsKept (set loads node (get_or loads node 0 + rows)) sum (rehomed_at segment (homes_after_load node) m o)) (sym x.is) done

pub load_fits : (loads : List ℕ) (sum : ℕ) (m : fin.FinMap nat_cmp Placement) (segment node rows : ℕ) → IsKept loads sum m → node < length loads → load_refused segment node (fin.get m segment) ≡ None → option_map (λ p. p.rows) (fin.get m segment) ≡ Some rows
    → get_or loads node 0 + rows < 2 ^ 64
load_fits loads sum m segment node rows kept below free is =
    let x = loadable segment node rows m free is in
    let p = x.placement in
    let changed : Placement = with_homes (homes_after_load node) p in
    let a = loaded_counts loads m segment node rows x (kept.counted node below) in
    let b : rows_on node (fin.insert m segment changed) ≤ rows_in (fin.insert m segment changed) = total-le (counts node) (λ p. p.rows) (fin.insert m segment changed) (counts-le node) in
    let d = total-replaced (λ p. p.rows) m segment p changed x.is in
    let e = kept.total_is in
    let f = kept.fits in
    omega arith

-- what is known of a segment that is homes_after_release from a node
record IsReleasable (segment node rows : ℕ) (m : fin.FinMap nat_cmp Placement) : Type 0 where
  placement : Placement
  is : fin.get m segment ≡ Some placement
  on : is_on node placement ≡ true
  more : is_elsewhere node placement ≡ true
  rows_are : placement.rows ≡ rows

on_if : (segment node : ℕ) (b c : Bool) → cond b (cond c None (Some (LastPlace segment))) (Some (NotThere segment node)) ≡ None → (b ≡ true) × (c ≡ true)
on_if segment node true true e = (refl, refl)
on_if segment node true false e = absurd (some_none _ e)
on_if segment node false c e = absurd (some_none _ e)

releasable_at : (segment node rows : ℕ) (m : fin.FinMap nat_cmp Placement) (o : Option Placement) → fin.get m segment ≡ o → release_refused segment node o ≡ None → option_map (λ p. p.rows) o ≡ Some rows → IsReleasable segment node rows m
releasable_at segment node rows m None e free is = absurd (some_none _ free)
releasable_at segment node rows m (Some p) e free is =
    let h = on_if segment node (is_on node p) (is_elsewhere node p) free in
    record { placement = p; is = e; on = h.0; more = h.1; rows_are = some_same _ _ is }

releasable : (segment node rows : ℕ) (m : fin.FinMap nat_cmp Placement) → release_refused segment node (fin.get m segment) ≡ None → option_map (λ p. p.rows) (fin.get m segment) ≡ Some rows → IsReleasable segment node rows m
releasable segment node rows m free is = releasable_at segment node rows m (fin.get m segment) refl free is

own_rows : (m : fin.FinMap nat_cmp Placement) (segment : ℕ) (p : Placement) (node : ℕ) → fin.get m segment ≡ Some p → counts node p ≤ rows_on node m
own_rows m segment p node is = let a = total-removed (counts node) m segment p is in omega arith

pub release_fits : (loads : List ℕ) (sum : ℕ) (m : fin.FinMap nat_cmp Placement) (segment node rows : ℕ) → IsKept loads sum m → node < length loads → release_refused segment node (fin.get m segment) ≡ None → option_map (λ p. p.rows) (fin.get m segment) ≡ Some rows
    → rows ≤ get_or loads node 0
release_fits loads sum m segment node rows kept below free is =
    let x = releasable segment node rows m free is in
    let p = x.placement in
    let a : counts node p ≡ p.rows = ap (λ b. rows_if b p.rows) x.on in
    let b = own_rows m segment p node x.is in
    let d = x.rows_are in
    let e = kept.counted node below in
    omega arith

pub release_keeps : (loads : List ℕ) (sum : ℕ) (m : fin.FinMap nat_cmp Placement) (segment node rows : ℕ) → IsKept loads sum m → node < length loads → release_refused segment node (fin.get m segment) ≡ None → option_map (λ p. p.rows) (fin.get m segment) ≡ Some rows
    → IsKept (set loads node (get_or loads node 0 - rows)) sum (rehomed segment (homes_after_release node) m)
release_keeps loads sum m segment node rows kept below free is =
    let x = releasable segment node rows m free is in
    let p = x.placement in
    let changed : Placement = with_homes (homes_after_release node) p in
    let n : fin.FinMap nat_cmp Placement = fin.insert m segment changed in
    let others : (k : ℕ) → k ≢ node → rows_on k n ≡ rows_on k m = λ k ne.
    let a = total-replaced (counts k) m segment p changed x.is in
    let b : counts k changed ≡ counts k p = ap (λ b. rows_if b p.rows) (others-released k node p.homes ne) in
    omega arith in
    let left : get_or loads node 0 - rows ≡ rows_on node n =
    let a = total-replaced (counts node) m segment p changed x.is in
    let b : counts node changed ≡ 0 = ap (λ b. rows_if b p.rows) (has-released node p.homes) in
    let d : counts node p ≡ rows = ap (λ b. rows_if b p.rows) x.on ∙ x.rows_are in
    let e = kept.counted node below in
    omega arith in
    let done : IsKept (set loads node (get_or loads node 0 - rows)) sum n = record {
      some = omega (arith, length-set loads node (get_or loads node 0 - rows), kept.some);
      few = omega (arith, length-set loads node (get_or loads node 0 - rows), kept.few);
      counted = set_counts loads m n node (get_or loads node 0 - rows) kept.counted left others;
      total_is = let a = total-replaced (λ p. p.rows) m segment p changed x.is in let b = kept.total_is in omega arith;
      fits = kept.fits;
      placed = placed_at m segment changed (some-released node p.homes x.more) kept.placed;
    } in
    subst (λ o. IsKept (set loads node (get_or loads node 0 - rows)) sum (rehomed_at segment (homes_after_release node) m o)) (sym x.is) done

-- ---- a segment is dropped

pub drop_fits : (loads : List ℕ) (sum : ℕ) (m : fin.FinMap nat_cmp Placement) (segment : ℕ) (p : Placement) → IsKept loads sum m → fin.get m segment ≡ Some p → p.rows ≤ sum
drop_fits loads sum m segment p kept is = let a = total-removed (λ p. p.rows) m segment p is in let b = kept.total_is in omega arith

pub drop_counts : (loads : List ℕ) (sum : ℕ) (m : fin.FinMap nat_cmp Placement) (segment : ℕ) (p : Placement) → IsKept loads sum m → fin.get m segment ≡ Some p → (node : ℕ) → node < length loads → counts node p ≤ get_or loads node 0
drop_counts loads sum m segment p kept is node below = let a = own_rows m segment p node is in let b = kept.counted node below in omega arith

pub drop_keeps : (loads now : List ℕ) (sum : ℕ) (m : fin.FinMap nat_cmp Placement) (segment : ℕ) (p : Placement) → IsKept loads sum m → fin.get m segment ≡ Some p → length now ≡ length loads → ((node : ℕ) → node < length loads → get_or now node 0 ≡ get_or loads node 0 - counts node p)
    → IsKept now (sum - p.rows) (fin.remove m segment)
drop_keeps loads now sum m segment p kept is long after = record {
  some = omega (arith, kept.some);
  few = omega (arith, kept.few);
  counted = λ node below.
      let inside : node < length loads = omega arith in
      let a = total-removed (counts node) m segment p is in
      let b = kept.counted node inside in
      let d = after node inside in
      omega arith;
  total_is = let a = total-removed (λ p. p.rows) m segment p is in let b = kept.total_is in omega arith;
  fits = let a = kept.fits in omega arith;
  placed = λ k. subst (λ o. IfSome o IsPlaced) (sym (fin.get-remove nat_cmp_total m segment k)) (placed_if (eq_by_cmp nat_cmp k segment) (fin.get m k) (kept.placed k));
}
  where
    placed_if : (b : Bool) (o : Option Placement) → IfSome o IsPlaced → IfSome (cond b None o) IsPlaced
    placed_if true o h = tt
    placed_if false o h = h

-- ---- a table with no segments

no_items : {A : Type 0} (xs : List A) → length xs ≡ 0 → xs ≡ []
no_items [] e = refl
no_items (x ∷ xs) e = absurd (omega arith)

no_values : fin.values (fin.empty {X = Placement} {R = nat_cmp}) ≡ []
no_values = ap (map (λ e. e.1)) (no_items (fin.entries fin.empty) (sym (fin.len-entries fin.empty) ∙ fin.len-empty nat_cmp Placement))

zeros : (n k : ℕ) → get_or {A = ℕ} (replicate {A = ℕ} n 0) k 0 ≡ zero
zeros zero k = refl
zeros (suc n) zero = refl
zeros (suc n) (suc k) = zeros n k

pub new_keeps : (nodes : ℕ) → 1 ≤ nodes → nodes ≤ 16 → IsKept (replicate nodes 0) 0 fin.empty
new_keeps nodes some few = record {
  some = omega (arith, length-replicate {A = ℕ} nodes 0);
  few = omega (arith, length-replicate {A = ℕ} nodes 0);
  counted = λ node below. zeros nodes node ∙ sym (ap (sum_by (counts node)) no_values);
  total_is = sym (ap (sum_by (λ p. p.rows)) no_values);
  fits = omega arith;
  placed = λ k. subst (λ o. IfSome o IsPlaced) (sym (fin.get-empty nat_cmp k)) tt;
}
