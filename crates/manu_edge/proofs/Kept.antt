-- The objects that a sorted map of bytes tells.
use Rattle.std.proofs.Common.{◌≡◌, ℕ, Bool, true, false, cond, List, [], ◌∷◌, refl, sym, ap, ◌∙◌}
use Rattle.std.specs.Option.{option_map}
use Rattle.std.specs.declared.option.Option.{Option}
use Rattle.std.specs.declared.option.Option.TheVariants.{None, Some}
use Rattle.std.specs.Ordering.{nat_cmp, is_eq}
use Rattle.std.proofs.lemmas.Cmp.{nat_cmp_total, eq_by_cmp_equiv}
use Rattle.std.specs.BTreeMap.{is_at}
use Rattle.std.specs.Map.{lookup}
use Rattle.std.specs.FinMap as fin
use Rattle.manu_edge.specs.Objects.{objects_of}

map_cond : {A B : Type 0} (f : A → B) (b : Bool) (x y : Option A) → cond b (option_map f x) (option_map f y) ≡ option_map f (cond b x y)
map_cond f true x y = refl
map_cond f false x y = refl

alike_turned : (a b : ℕ) → is_eq (nat_cmp a b) ≡ is_eq (nat_cmp b a)
alike_turned a b = (eq_by_cmp_equiv nat_cmp_total).symm a b

module _ {V : Type 0} (bytes_of : V → List ℕ) where
  -- a name has the bytes of its first entry
  pub get_kept : (entries : List (ℕ × V)) (name : ℕ) → fin.get (objects_of bytes_of entries) name ≡ option_map bytes_of (lookup (is_at (nat_cmp name)) entries)
  get_kept [] name = fin.get-empty nat_cmp name
  get_kept (entry ∷ entries) name =
      fin.get-insert nat_cmp_total (objects_of bytes_of entries) entry.0 (bytes_of entry.1) name
      ∙ ap (cond (is_eq (nat_cmp name entry.0)) (Some (bytes_of entry.1))) (get_kept entries name)
      ∙ map_cond bytes_of (is_eq (nat_cmp name entry.0)) (Some entry.1) (lookup (is_at (nat_cmp name)) entries)

  module _ (before after : List (ℕ × V)) (name : ℕ) where
    -- other bytes under one name
    pub kept_insert : (value : V) → ((q : ℕ) → lookup (is_at (nat_cmp q)) after ≡ cond (is_at (nat_cmp name) q) (Some value) (lookup (is_at (nat_cmp q)) before))
        → objects_of bytes_of after ≡ fin.insert (objects_of bytes_of before) name (bytes_of value)
    kept_insert value found =
        fin.same_map nat_cmp_total fin.nat_cmp-IsAntisymmetric _ _ (λ q.
        get_kept after q ∙ ap (option_map bytes_of) (found q)
        ∙ sym (map_cond bytes_of (is_eq (nat_cmp name q)) (Some value) (lookup (is_at (nat_cmp q)) before))
        ∙ ap (cond (is_eq (nat_cmp name q)) (Some (bytes_of value))) (sym (get_kept before q))
        ∙ ap (λ b. cond b (Some (bytes_of value)) (fin.get (objects_of bytes_of before) q)) (alike_turned name q)
        ∙ sym (fin.get-insert nat_cmp_total (objects_of bytes_of before) name (bytes_of value) q))

    -- no bytes under one name
    pub kept_remove : ((q : ℕ) → lookup (is_at (nat_cmp q)) after ≡ cond (is_at (nat_cmp name) q) None (lookup (is_at (nat_cmp q)) before))
        → objects_of bytes_of after ≡ fin.remove (objects_of bytes_of before) name
    kept_remove found =
        fin.same_map nat_cmp_total fin.nat_cmp-IsAntisymmetric _ _ (λ q.
        get_kept after q ∙ ap (option_map bytes_of) (found q)
        ∙ sym (map_cond bytes_of (is_eq (nat_cmp name q)) None (lookup (is_at (nat_cmp q)) before))
        ∙ ap (cond (is_eq (nat_cmp name q)) None) (sym (get_kept before q))
        ∙ ap (λ b. cond b None (fin.get (objects_of bytes_of before) q)) (alike_turned name q)
        ∙ sym (fin.get-remove nat_cmp_total (objects_of bytes_of before) name q))
