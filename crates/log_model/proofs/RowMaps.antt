-- A finite map and a B-tree map that have the same entries, through the calls that change them.
use Rattle.std.proofs.Common.{◌≡◌, Bool, true, false, cond, List, [], ◌∷◌, refl, sym, ap, subst, ◌∙◌}
use Rattle.std.specs.Prelude.{T, ◌&&◌}
use Rattle.std.specs.declared.cmp.Ordering.{Ordering}
use Rattle.std.specs.declared.cmp.Ordering.TheVariants.{Less, Equal, Greater}
use Rattle.std.specs.declared.option.Option.TheVariants.{None, Some}
use Rattle.std.specs.Ordering.{is_lt, eq_by_cmp}
use Rattle.std.specs.Cmp.{IsTotalOrder, eq_by_cmp_equiv}
use Rattle.std.specs.List.{AllByRecursion}
use Rattle.std.specs.List.Sorted.{IsStrictlySortedBy}
use Rattle.std.specs.FinMap as fin
use Rattle.std.specs.FinMap.Entries.{by_order, put, find, below_all, is_sorted}
use Rattle.std.specs.BTreeMap.{insert_entry, is_at}
use Rattle.std.specs.Map.{lookup, keys_of}
use Rattle.std.specs.Ordering.{match_ordering}

both_hold : (a b : Bool) → T a → T b → T (a && b)
both_hold true b p q = q
both_hold false b p q = absurd p

tied_either_way : {K : Type 0} {R : K → K → Ordering} → IsTotalOrder R → (x y : K) → eq_by_cmp R x y ≡ eq_by_cmp R y x
tied_either_way total x y = (eq_by_cmp_equiv total).symm x y

module _ {K X : Type 0} (R : K → K → Ordering) where
  put_entry : (k : K) (v : X) (es : List (K × X)) → put R k v es ≡ insert_entry R es k v
  put_entry k v [] = refl
  put_entry k v (e ∷ es) =
      let rest = put_entry k v es in
      elim (R k e.0) as (λ r. by_order r ((k, v) ∷ e ∷ es) ((e.0, v) ∷ es) (e ∷ put R k v es) ≡ match_ordering r ((k, v) ∷ e ∷ es) ((e.0, v) ∷ es) (e ∷ insert_entry R es k v)) [
        | Less ↦ refl
        | Equal ↦ refl
        | Greater ↦ ap (λ l. e ∷ l) rest
      ]

  find_entry : (q : K) (es : List (K × X)) → find R q es ≡ lookup (is_at (R q)) es
  find_entry q [] = refl
  find_entry q (e ∷ es) = ap (λ o. cond (eq_by_cmp R q e.0) (Some e.1) o) (find_entry q es)

  below_entries : (k : K) (es : List (K × X)) → AllByRecursion (λ x. R k x ≡ Less) (keys_of es) → T (below_all R k es)
  below_entries k [] low = tt
  below_entries k (e ∷ es) low = both_hold (is_lt (R k e.0)) (below_all R k es) (subst (λ r. T (is_lt r)) (sym low.0) tt) (below_entries k es low.1)

  pub sorted_entries : (es : List (K × X)) → IsStrictlySortedBy R (keys_of es) → T (is_sorted R es)
  unfolding IsStrictlySortedBy
  sorted_entries [] sorted = tt
  sorted_entries (e ∷ es) sorted = both_hold (below_all R e.0 es) (is_sorted R es) (below_entries e.0 es sorted.0) (sorted_entries es sorted.1)

module _ {K X : Type 0} {R : K → K → Ordering} (total : IsTotalOrder R) where
  pub entries_inserted : (m : fin.FinMap R X) (es : List (K × X)) (k : K) (v : X) → fin.entries m ≡ es → fin.entries (fin.insert m k v) ≡ insert_entry R es k v
  entries_inserted m es k v same = fin.entries-insert total m k v ∙ ap (put R k v) same ∙ put_entry R k v es

  pub get_found : (m : fin.FinMap R X) (es : List (K × X)) (q : K) → fin.entries m ≡ es → fin.get m q ≡ lookup (is_at (R q)) es
  get_found m es q same = fin.get-entries m q ∙ ap (find R q) same ∙ find_entry R q es

  -- the entries that a removal leaves, known by what each key then has
  pub entries_removed : fin.IsAntisymmetric R → (m : fin.FinMap R X) (es fs : List (K × X)) (k : K) → fin.entries m ≡ es
      → IsStrictlySortedBy R (keys_of fs)
      → ((q : K) → lookup (is_at (R q)) fs ≡ cond (is_at (R k) q) None (lookup (is_at (R q)) es))
      → fin.entries (fin.remove m k) ≡ fs
  entries_removed exact m es fs k same sorted found =
      let rises : T (is_sorted R fs) = sorted_entries R fs sorted in
      ap fin.entries (fin.same_map total exact (fin.remove m k) (fin.from_sorted fs) (λ q.
      fin.get-remove total m k q
      ∙ ap (λ b. cond b None (fin.get m q)) (tied_either_way total q k)
      ∙ ap (cond (is_at (R k) q) None) (get_found m es q same)
      ∙ sym (found q)
      ∙ sym (find_entry R q fs)
      ∙ sym (fin.get-from_sorted R fs q rises)))
      ∙ fin.entries-from_sorted R fs rises
