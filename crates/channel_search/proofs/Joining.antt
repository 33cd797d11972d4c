-- Rows of views that are offered one view after another.
use Rattle.std.proofs.Common.{◌≡◌, ℕ, ℤ, zero, suc, ◌+◌, List, [], ◌∷◌, ◌++◌, map, take, slice_get, Option, Some, None, refl, sym, ap, ◌∙◌, add-one, append-nil, append_assoc}
use Rattle.flat_scan.proofs.MarkedRows.{none_some, some_same}
use Rattle.std.specs.List.{AllByRecursion}
use Rattle.row_types.specs.declared.hits.Hit.{Hit}
use Rattle.row_types.specs.Hits.{least}
use Rattle.log_model.specs.declared.queries.Query.{Query}
use Rattle.log_model.specs.declared.queries.Plan.{Plan}
use Rattle.log_model.specs.Scans.{scan}
use Rattle.journal_model.specs.Lists.{joined}
use Rattle.journal_model.specs.Views.{Shown, View}
use Rattle.view_laws.specs.Found.{hits_seen, found_in}
use Rattle.view_laws.specs.Wholes.{AreOfChannels, Looked, ServesAt, log_at_end, whole}
use Rattle.view_laws.proofs.Members.{least-joined}
use Rattle.view_laws.proofs.Seen.{hits_seen-append}
use Rattle.view_laws.proofs.Wholes.{looks_scan}
use Rattle.channel_view.specs.Views.{ChannelView, view_in}
use Rattle.channel_search.specs.Found.{found_in_all, rows_in, rows_in_all}

-- the rows of one view more
pub rows-next : (views : List ChannelView) (i : ℕ) (view : ChannelView) → slice_get views i ≡ Some view → rows_in_all (take (i + 1) views) ≡ rows_in_all (take i views) ++ rows_in view
rows-next views i view e = rw add-one (one views i e)
  where
    one : (views : List ChannelView) (i : ℕ) → slice_get views i ≡ Some view → rows_in_all (take (suc i) views) ≡ rows_in_all (take i views) ++ rows_in view
    one [] i e = absurd (none_some view e)
    one (v ∷ views) zero e = append-nil (rows_in v) ∙ ap rows_in (some_same v view e)
    one (v ∷ views) (suc i) e = ap (λ l. rows_in v ++ l) (one views i e) ∙ sym (append_assoc (rows_in v) (rows_in_all (take i views)) (rows_in view))

module _ (t : ℕ) (plan : Plan) (query : Query) where
  abbrev seen : ChannelView → List Hit
  seen view = hits_seen t plan query (rows_in view)

  seen_in_all : (views : List ChannelView) → hits_seen t plan query (rows_in_all views) ≡ joined (map seen views)
  seen_in_all [] = refl
  seen_in_all (v ∷ views) = hits_seen-append t plan query (rows_in v) (rows_in_all views) ∙ ap (λ l. seen v ++ l) (seen_in_all views)

  map_least : (views : List ChannelView) → map (λ view. found_in (view_in view) t plan query) views ≡ map (least query.k) (map seen views)
  map_least [] = refl
  map_least (v ∷ views) = ap (λ l. least query.k (seen v) ∷ l) (map_least views)

  -- the nearest of all rows are the nearest of what is found view by view
  pub least_in_all : (views : List ChannelView) → least query.k (hits_seen t plan query (rows_in_all views)) ≡ found_in_all views t plan query
  least_in_all views =
      ap (least query.k) (seen_in_all views)
      ∙ sym (ap (λ l. least query.k (joined l)) (map_least views) ∙ least-joined query.k (map seen views))

  map_views : (views : List ChannelView) → map (λ view. found_in (view_in view) t plan query) views ≡ map (λ (v : View). found_in v t plan query) (map view_in views)
  map_views [] = refl
  map_views (v ∷ views) = ap (λ l. found_in (view_in v) t plan query ∷ l) (map_views views)

  map_looks : (looks : List Looked) → map (λ (v : View). found_in v t plan query) (map (λ l. l.view) looks) ≡ map (λ (l : Looked). found_in l.view t plan query) looks
  map_looks [] = refl
  map_looks (l ∷ looks) = ap (λ r. found_in l.view t plan query ∷ r) (map_looks looks)

  -- the views of looks that serve the timestamp: what is found in them all is the scan of the whole
  pub whole_in_all : (views : List ChannelView) (home : ℤ → ℕ) (looks : List Looked) → map (λ l. l.view) looks ≡ map view_in views
      → AllByRecursion (ServesAt t) looks → AreOfChannels home (map log_at_end looks)
      → found_in_all views t plan query ≡ scan (whole (map log_at_end looks)) t plan query
  whole_in_all views home looks same serve of_these =
      ap (λ l. least query.k (joined l)) (map_views views ∙ ap (map (λ (v : View). found_in v t plan query)) (sym same) ∙ map_looks looks)
      ∙ looks_scan t plan query home looks serve of_these
