-- The finite map that the entries of a tree are seen as.
use Rattle.std.proofs.Common.{◌≡◌, ℕ, Bool, true, false, cond, List, [], ◌∷◌, Some, None, refl, sym, ap, ◌∙◌}
use Rattle.std.specs.Ordering.{nat_cmp, is_eq}
use Rattle.std.specs.Cmp.{nat_cmp_total, eq_by_cmp_equiv, Equal-is}
use Rattle.std.specs.FinMap as fin
use Rattle.std.specs.Map.{lookup}
use Rattle.place_table.specs.Tables.{Placement}

find_lookup : (q : ℕ) (es : List (ℕ × Placement)) → fin.find nat_cmp q es ≡ lookup (λ k. is_eq (nat_cmp q k)) es
find_lookup q [] = refl
find_lookup q (e ∷ es) = ap (cond (is_eq (nat_cmp q e.0)) (Some e.1)) (find_lookup q es)

pub found : (es : List (ℕ × Placement)) (q : ℕ) → fin.get (fin.from_entries {R = nat_cmp} es) q ≡ lookup (λ k. is_eq (nat_cmp q k)) es
found es q = fin.get-from_entries nat_cmp_total es q ∙ find_lookup q es

flip : (j k : ℕ) → is_eq (nat_cmp j k) ≡ is_eq (nat_cmp k j)
flip j k = (eq_by_cmp_equiv nat_cmp_total).symm j k

-- entries that answer as another map with a change are that map with the change
pub was_set : (es fs : List (ℕ × Placement)) (k : ℕ) (p : Placement) → ((q : ℕ) → lookup (λ j. is_eq (nat_cmp q j)) fs ≡ cond (is_eq (nat_cmp k q)) (Some p) (lookup (λ j. is_eq (nat_cmp q j)) es)) → fin.from_entries {R = nat_cmp} fs ≡ fin.insert (fin.from_entries {R = nat_cmp} es) k p
was_set es fs k p f = fin.same_map nat_cmp_total fin.nat_cmp-IsAntisymmetric _ _ (λ q.
    found fs q ∙ f q ∙ ap (λ b. cond b (Some p) (lookup (λ j. is_eq (nat_cmp q j)) es)) (flip k q) ∙ ap (cond (is_eq (nat_cmp q k)) (Some p)) (sym (found es q)) ∙ sym (fin.get-insert nat_cmp_total (fin.from_entries es) k p q))

pub was_removed : (es fs : List (ℕ × Placement)) (k : ℕ) → ((q : ℕ) → lookup (λ j. is_eq (nat_cmp q j)) fs ≡ cond (is_eq (nat_cmp k q)) None (lookup (λ j. is_eq (nat_cmp q j)) es)) → fin.from_entries {R = nat_cmp} fs ≡ fin.remove (fin.from_entries {R = nat_cmp} es) k
was_removed es fs k f = fin.same_map nat_cmp_total fin.nat_cmp-IsAntisymmetric _ _ (λ q.
    found fs q ∙ f q ∙ ap (λ b. cond b None (lookup (λ j. is_eq (nat_cmp q j)) es)) (flip k q) ∙ ap (cond (is_eq (nat_cmp q k)) None) (sym (found es q)) ∙ sym (fin.get-remove nat_cmp_total (fin.from_entries es) k q))

pub was_same : (es fs : List (ℕ × Placement)) → ((q : ℕ) → lookup (λ j. is_eq (nat_cmp q j)) fs ≡ lookup (λ j. is_eq (nat_cmp q j)) es) → fin.from_entries {R = nat_cmp} fs ≡ fin.from_entries {R = nat_cmp} es
was_same es fs f = fin.same_map nat_cmp_total fin.nat_cmp-IsAntisymmetric _ _ (λ q. found fs q ∙ f q ∙ sym (found es q))

true_if : (m : fin.FinMap nat_cmp Placement) (k q : ℕ) (p : Placement) (b : Bool) → fin.get m k ≡ Some p → is_eq (nat_cmp q k) ≡ b → cond b (Some p) (fin.get m q) ≡ fin.get m q
true_if m k q p true is e = sym (ap (fin.get m) (fin.nat_cmp-IsAntisymmetric q k ((Equal-is (nat_cmp q k)).0 e)) ∙ is)
true_if m k q p false is e = refl

-- an entry that is put where it stands
pub stays : (m : fin.FinMap nat_cmp Placement) (k : ℕ) (p : Placement) → fin.get m k ≡ Some p → fin.insert m k p ≡ m
stays m k p is = fin.same_map nat_cmp_total fin.nat_cmp-IsAntisymmetric _ _ (λ q. fin.get-insert nat_cmp_total m k p q ∙ true_if m k q p (is_eq (nat_cmp q k)) is refl)

none_if : (m : fin.FinMap nat_cmp Placement) (k q : ℕ) (b : Bool) → fin.get m k ≡ None → is_eq (nat_cmp q k) ≡ b → cond b None (fin.get m q) ≡ fin.get m q
none_if m k q true is e = sym (ap (fin.get m) (fin.nat_cmp-IsAntisymmetric q k ((Equal-is (nat_cmp q k)).0 e)) ∙ is)
none_if m k q false is e = refl

-- taking away what is not there
pub absent : (m : fin.FinMap nat_cmp Placement) (k : ℕ) → fin.get m k ≡ None → fin.remove m k ≡ m
absent m k is = fin.same_map nat_cmp_total fin.nat_cmp-IsAntisymmetric _ _ (λ q. fin.get-remove nat_cmp_total m k q ∙ none_if m k q (is_eq (nat_cmp q k)) is refl)
