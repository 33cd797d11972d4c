-- What is seen of rows, one after another: for a search that goes over the rows of parts.
use Rattle.std.proofs.Common.{◌≡◌, ℕ, true, false, cond, List, [], ◌∷◌, ◌++◌, map, refl, ap, ◌∙◌}
use Rattle.std.specs.List.{filter}
use Rattle.std.proofs.lemmas.List.{map-append}
use Rattle.std.proofs.lemmas.List.Elements.{filter-append}
use Rattle.log_model.specs.declared.queries.Query.{Query}
use Rattle.log_model.specs.declared.queries.Plan.{Plan}
use Rattle.log_model.specs.Scans.{passes_filter, hit_of, hits_found}
use Rattle.journal_model.specs.Views.{Shown, is_visible}
use Rattle.view_laws.specs.Found.{rows_seen, hits_seen}
use Rattle.view_laws.proofs.Members.{found-append}

pub rows_seen-append : (t : ℕ) (rows more : List Shown) → rows_seen t (rows ++ more) ≡ rows_seen t rows ++ rows_seen t more
rows_seen-append t rows more = ap (map (λ (s : Shown). s.row)) (filter-append (is_visible t) rows more) ∙ map-append (λ (s : Shown). s.row) (filter (is_visible t) rows) (filter (is_visible t) more)

module _ (t : ℕ) (plan : Plan) (query : Query) where
  pub hits_seen-append : (rows more : List Shown) → hits_seen t plan query (rows ++ more) ≡ hits_seen t plan query rows ++ hits_seen t plan query more
  hits_seen-append rows more =
      ap (hits_found (passes_filter query.filter) plan query) (rows_seen-append t rows more)
      ∙ found-append (passes_filter query.filter) plan query (rows_seen t rows) (rows_seen t more)

  -- a row that is not visible
  pub hidden : (s : Shown) → is_visible t s ≡ false → hits_seen t plan query (s ∷ []) ≡ []
  hidden s f = ap (λ b. hits_found (passes_filter query.filter) plan query (map (λ (x : Shown). x.row) (cond b (s ∷ []) []))) f

  -- a row that does not pass the filter
  pub refused : (s : Shown) → passes_filter query.filter s.row ≡ false → hits_seen t plan query (s ∷ []) ≡ []
  refused s f = elim (is_visible t s) as (λ b. hits_found (passes_filter query.filter) plan query (map (λ (x : Shown). x.row) (cond b (s ∷ []) [])) ≡ []) [
    | true ↦ ap (λ b. map (hit_of plan query) (cond b (s.row ∷ []) [])) f
    | false ↦ refl
  ]

  -- a row that is visible and passes
  pub offered : (s : Shown) → is_visible t s ≡ true → passes_filter query.filter s.row ≡ true → hits_seen t plan query (s ∷ []) ≡ hit_of plan query s.row ∷ []
  offered s v p =
      ap (λ b. hits_found (passes_filter query.filter) plan query (map (λ (x : Shown). x.row) (cond b (s ∷ []) []))) v
      ∙ ap (λ b. map (hit_of plan query) (cond b (s.row ∷ []) [])) p
