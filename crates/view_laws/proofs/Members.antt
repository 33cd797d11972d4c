-- Lists of hits with the same members have the same k least.
use Rattle.std.proofs.Common.{◌≡◌, ℕ, Bool, true, false, ◌||◌, List, [], ◌∷◌, ◌++◌, map, refl, sym, ap, subst, ◌∙◌, inl, inr, ◌⊎◌, ⊎_elim}
use Rattle.std.proofs.lemmas.Cmp.{tied_itself}
use Rattle.std.proofs.lemmas.List.{map-append}
use Rattle.std.proofs.lemmas.List.Elements.{filter-append}
use Rattle.std.specs.Cmp.{both_ways}
use Rattle.std.specs.List.{filter, list_any}
use Rattle.std.specs.Ordering.{eq_by_cmp, is_eq}
use Rattle.std.specs.declared.cmp.Ordering.{Ordering}
use Rattle.std.specs.declared.cmp.Ordering.TheVariants.{Less, Equal, Greater}
use Rattle.row_types.specs.declared.rows.Row.{Row}
use Rattle.row_types.specs.declared.hits.Hit.{Hit}
use Rattle.row_types.specs.Hits.{hit_cmp, least}
use Rattle.row_types.specs.Orders.{hits_total, hits_exact}
use Rattle.row_types.proofs.Least.{least-same, least-then, least-swap}
use Rattle.journal_model.specs.Lists.{IsIn, joined}
use Rattle.log_model.specs.declared.queries.Query.{Query}
use Rattle.log_model.specs.declared.queries.Plan.{Plan}
use Rattle.log_model.specs.Scans.{hit_of, hits_found}
use Rattle.journal_model.proofs.ListLaws.{in_left, in_right, in_cases, in_map, out_map, in_filter, out_filter}

is_equal : (r : Ordering) → is_eq r ≡ true → r ≡ Equal
is_equal Less e = cc
is_equal Equal e = refl
is_equal Greater e = cc

any_of_in : (q : Hit) (xs : List Hit) → IsIn q xs → list_any (eq_by_cmp hit_cmp q) xs ≡ true
any_of_in q [] h = absurd h
any_of_in q (x ∷ xs) (inl e) = ap (λ b. b || list_any (eq_by_cmp hit_cmp q) xs) (ap is_eq (ap (hit_cmp q) (sym e) ∙ tied_itself hits_total q))
any_of_in q (x ∷ xs) (inr h) =
    let rest = any_of_in q xs h in
    elim (eq_by_cmp hit_cmp q x) as (λ b. (b || list_any (eq_by_cmp hit_cmp q) xs) ≡ true) [ true ↦ refl | false ↦ rest ]

in_of_any : (q : Hit) (xs : List Hit) → list_any (eq_by_cmp hit_cmp q) xs ≡ true → IsIn q xs
in_of_any q [] e = absurd cc
in_of_any q (x ∷ xs) e =
    elim (eq_by_cmp hit_cmp q x) as (λ b. eq_by_cmp hit_cmp q x ≡ b → (b || list_any (eq_by_cmp hit_cmp q) xs) ≡ true → (q ≡ x) ⊎ IsIn q xs) [
      | true ↦ λ t h. inl (hits_exact q x (is_equal (hit_cmp q x) t))
      | false ↦ λ t h. inr (in_of_any q xs h)
    ] refl e

pub least-members : (k : ℕ) (xs ys : List Hit) → ((q : Hit) → IsIn q xs → IsIn q ys) → ((q : Hit) → IsIn q ys → IsIn q xs) → least k xs ≡ least k ys
least-members k xs ys f g =
    least-same k xs ys (λ q. both_ways _ _ (λ h. any_of_in q ys (f q (in_of_any q xs h))) (λ h. any_of_in q xs (g q (in_of_any q ys h))))

-- the k least of some lists one after another, from the k least of each
pub least-joined : (k : ℕ) (lists : List (List Hit)) → least k (joined (map (least k) lists)) ≡ least k (joined lists)
least-joined k [] = refl
least-joined k (xs ∷ lists) =
    least-then k xs (joined (map (least k) lists))
    ∙ least-swap k xs (joined (map (least k) lists))
    ∙ sym (least-then k (joined (map (least k) lists)) xs)
    ∙ ap (λ l. least k (l ++ xs)) (least-joined k lists)
    ∙ least-then k (joined lists) xs
    ∙ least-swap k (joined lists) xs

module _ {X Y : Type 0} (f : X → List Y) where
  pub in_joined : (y : Y) (x : X) (xs : List X) → IsIn x xs → IsIn y (f x) → IsIn y (joined (map f xs))
  in_joined y x [] h g = absurd h
  in_joined y x (z ∷ xs) (inl e) g = in_left y (f z) (joined (map f xs)) (subst (λ w. IsIn y (f w)) e g)
  in_joined y x (z ∷ xs) (inr h) g = in_right y (f z) (joined (map f xs)) (in_joined y x xs h g)

  pub out_joined : (y : Y) (xs : List X) → IsIn y (joined (map f xs)) → (x : X) × IsIn x xs × IsIn y (f x)
  out_joined y [] h = absurd h
  out_joined y (z ∷ xs) h = ⊎_elim (λ l. (z, inl refl, l)) (λ r. let o = out_joined y xs r in (o.0, inr o.1, o.2)) (in_cases y (f z) (joined (map f xs)) h)

-- ---- hits of rows

module _ (test : Row → Bool) (plan : Plan) (query : Query) where
  found_more : (rows others : List Row) → ((row : Row) → IsIn row rows → IsIn row others) → (q : Hit) → IsIn q (hits_found test plan query rows) → IsIn q (hits_found test plan query others)
  found_more rows others f q h =
      let o = out_map (hit_of plan query) q (filter test rows) h in
      let g = out_filter test o.0 rows o.1 in
      subst (λ z. IsIn z (hits_found test plan query others)) (sym o.2) (in_map (hit_of plan query) o.0 (filter test others) (in_filter test o.0 others (f o.0 g.0) g.1))

  -- the k nearest depend only on which rows there are
  pub found-members : (rows others : List Row) → ((row : Row) → IsIn row rows → IsIn row others) → ((row : Row) → IsIn row others → IsIn row rows)
      → least query.k (hits_found test plan query rows) ≡ least query.k (hits_found test plan query others)
  found-members rows others f g =
      least-members query.k (hits_found test plan query rows) (hits_found test plan query others) (found_more rows others f) (found_more others rows g)

  pub found-append : (rows more : List Row) → hits_found test plan query (rows ++ more) ≡ hits_found test plan query rows ++ hits_found test plan query more
  found-append rows more = ap (map (hit_of plan query)) (filter-append test rows more) ∙ map-append (hit_of plan query) (filter test rows) (filter test more)

  pub found-joined : (lists : List (List Row)) → joined (map (hits_found test plan query) lists) ≡ hits_found test plan query (joined lists)
  found-joined [] = refl
  found-joined (rows ∷ lists) = ap (λ l. hits_found test plan query rows ++ l) (found-joined lists) ∙ sym (found-append rows (joined lists))
