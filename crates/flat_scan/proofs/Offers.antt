-- Rows that are offered one after another.
use Rattle.std.proofs.Common.{◌≡◌, ℕ, zero, suc, ◌+◌, ◌-◌, ◌<◌, ◌≤◌, nat_lt, get_or, Bool, true, false, List, [], ◌∷◌, ◌++◌, length, take, slice_get, Option, Some, None, IfSome, refl, sym, ap, subst, ◌∙◌, add-one, arith}
use Rattle.std.specs.List.{AllByRecursion}
use Rattle.std.specs.Ordering.{is_lt, ordering_then}
use Rattle.std.specs.declared.cmp.Ordering.{Ordering}
use Rattle.std.specs.declared.cmp.Ordering.TheVariants.{Less, Equal, Greater}
use Rattle.std.proofs.lemmas.Bool.{false≢true, ltb-true, ltb-false}
use Rattle.std.proofs.lemmas.List.{take_all}
use Rattle.std.proofs.lemmas.Option.{slice_get-get_or}
use Rattle.row_types.specs.declared.hits.Hit.{Hit}
use Rattle.row_types.specs.declared.hits.Distance.{Distance}
use Rattle.row_types.specs.Hits.{least, hit_cmp, value_cmp, distance_of}
use Rattle.row_types.proofs.Least.{least-again}
use Rattle.log_model.specs.declared.queries.Query.{Query}
use Rattle.log_model.specs.declared.queries.Plan.{Plan}
use Rattle.log_model.specs.Scans.{hit_of, passes_filter}
use Rattle.journal_model.specs.Views.{Shown, is_visible}
use Rattle.log_model.specs.Places.{Placed}
use Rattle.seg_sealed.specs.Parts.{shown_from, shown_as}
use Rattle.view_laws.specs.Found.{hits_seen}
use Rattle.view_laws.proofs.Seen as seen
use Rattle.top_list.specs.Kept.{Kept, Offered, IsBehindAll, is_after}
use Rattle.top_list.proofs.Fills.{Offered-none, Offered-more}
use Rattle.flat_scan.specs.Bars.{is_past, AreAllPast, AreDistancesFrom}
use Rattle.flat_scan.specs.Rows.{AreDistances, AreFar, AreOffered, no_row}
use Rattle.flat_scan.proofs.MarkedRows.{some_same, none_some, take_next, shown-append}

pub own_offered : (old now : Kept) (xs : List Hit) → Offered old now xs → now.hits ≡ least now.k now.hits
own_offered old now xs f =
    f.hits ∙ sym (least-again old.k (old.hits ++ xs)) ∙ (λ i. least (sym f.k i) (sym f.hits i))

module _ (ts : ℕ) (plan : Plan) (query : Query) where
  -- rows behind rows that were offered
  pub offered_behind : (old now next : Kept) (rows more : List Shown) → Offered old now (hits_seen ts plan query rows) → Offered now next (hits_seen ts plan query more) → Offered old next (hits_seen ts plan query (rows ++ more))
  offered_behind old now next rows more f g =
      subst (Offered old next) (sym (seen.hits_seen-append ts plan query rows more))
      (Offered-more old now next (hits_seen ts plan query rows) (hits_seen ts plan query more) f g.k g.hits)

  -- a piece of a tail behind the rows before it
  pub offered_piece : (old now next : Kept) (deaths : List (ℕ × ℕ)) (before rows : List Placed) (from : ℕ) → from ≡ length before → Offered old now (hits_seen ts plan query (shown_from deaths 0 before))
      → Offered now next (hits_seen ts plan query (shown_from deaths from rows)) → Offered old next (hits_seen ts plan query (shown_from deaths 0 (before ++ rows)))
  offered_piece old now next deaths before rows from count f g =
      let there : from ≡ 0 + length before = omega (arith, count) in
      subst (λ l. Offered old next (hits_seen ts plan query l)) (sym (shown-append deaths 0 before rows))
      (offered_behind old now next (shown_from deaths 0 before) (shown_from deaths (0 + length before) rows) f (subst (λ n. Offered now next (hits_seen ts plan query (shown_from deaths n rows))) there g))

  -- one row more was offered
  pub offered_next : (old now next : Kept) (rows : List Shown) (i : ℕ) (s : Shown) → slice_get rows i ≡ Some s → Offered old now (hits_seen ts plan query (take i rows))
      → Offered now next (hits_seen ts plan query (s ∷ [])) → Offered old next (hits_seen ts plan query (take (i + 1) rows))
  offered_next old now next rows i s e f g =
      rw add-one
      (subst (λ l. Offered old next (hits_seen ts plan query l)) (sym (take_next rows i s e)) (offered_behind old now next (take i rows) (s ∷ []) f g))

  none_offered : (old : Kept) (hits : List Hit) → old.hits ≡ least old.k old.hits → hits ≡ [] → Offered old old hits
  none_offered old hits own none = subst (Offered old old) (sym none) (Offered-none old own)

  pub offered_hidden : (s : Shown) (old : Kept) (visible : Bool) → old.hits ≡ least old.k old.hits → visible ≡ is_visible ts s → visible ≡ false → Offered old old (hits_seen ts plan query (s ∷ []))
  offered_hidden s old visible own is e = none_offered old (hits_seen ts plan query (s ∷ [])) own (seen.hidden ts plan query s (sym is ∙ e))

  pub offered_refused : (s : Shown) (old : Kept) (passes : Bool) → old.hits ≡ least old.k old.hits → passes ≡ passes_filter query.filter s.row → passes ≡ false → Offered old old (hits_seen ts plan query (s ∷ []))
  offered_refused s old passes own that f = none_offered old (hits_seen ts plan query (s ∷ [])) own (seen.refused ts plan query s (sym that ∙ f))

  pub offered_found : (s : Shown) (old next : Kept) (hit : Hit) (visible passes : Bool) → visible ≡ is_visible ts s → visible ≡ true → passes ≡ passes_filter query.filter s.row → passes ≡ true
      → hit ≡ hit_of plan query s.row → next.k ≡ old.k → next.hits ≡ least old.k (old.hits ++ hit ∷ []) → Offered old next (hits_seen ts plan query (s ∷ []))
  offered_found s old next hit visible passes is e that f same k hits =
      subst (Offered old next) (sym (seen.offered ts plan query s (sym is ∙ e) (sym that ∙ f))) (record { k = k; hits = hits ∙ ap (λ h. least old.k (old.hits ++ h ∷ [])) same })

  after_bar : (old : Kept) (bar : Option Hit) (hit : Hit) → IfSome bar (IsBehindAll old) → is_after bar hit ≡ true → least old.k (old.hits ++ hit ∷ []) ≡ old.hits
  after_bar old None hit h e = absurd (false≢true e)
  after_bar old (Some last) hit h e = h hit (is_less (hit_cmp last hit) e)
    where
      is_less : (r : Ordering) → is_lt r ≡ true → r ≡ Less
      is_less Less e = refl
      is_less Equal e = cc
      is_less Greater e = cc

  then_less : (a b : Ordering) → is_lt a ≡ true → is_lt (ordering_then a b) ≡ true
  then_less Less b e = refl
  then_less Equal b e = cc
  then_less Greater b e = cc

  after_past : (bar : Option Hit) (hit : Hit) → is_past bar hit.distance ≡ true → is_after bar hit ≡ true
  after_past None hit e = e
  after_past (Some last) hit e = then_less (value_cmp last.distance hit.distance) _ e

  -- a row that is too far changes nothing, whether it is visible and passes or not
  pub offered_past : (s : Shown) (old : Kept) (bar : Option Hit) (d : Distance) (past : Bool) → old.hits ≡ least old.k old.hits → IfSome bar (IsBehindAll old) → d ≡ distance_of plan.metric query.vector s.row.vector → past ≡ is_past bar d → past ≡ true
      → Offered old old (hits_seen ts plan query (s ∷ []))
  offered_past s old bar d past own behind is that e =
      let hit = hit_of plan query s.row in
      let after : is_after bar hit ≡ true = after_past bar hit (ap (is_past bar) (sym is) ∙ sym that ∙ e) in
      let found : Offered old old (hit ∷ []) = record { k = refl; hits = sym (after_bar old bar hit behind after) } in
      by_sight (is_visible ts s) (passes_filter query.filter s.row) refl refl found
    where
      by_sight : (visible passes : Bool) → is_visible ts s ≡ visible → passes_filter query.filter s.row ≡ passes → Offered old old (hit_of plan query s.row ∷ []) → Offered old old (hits_seen ts plan query (s ∷ []))
      by_sight false passes v p found = offered_hidden s old false own (sym v) refl
      by_sight true false v p found = offered_refused s old false own (sym p) refl
      by_sight true true v p found = subst (Offered old old) (sym (seen.offered ts plan query s v p)) found

  -- rows that are all too far change nothing
  pub offered_past_all : (old now : Kept) (rows : List Shown) (count : ℕ) (far : ℕ → Distance) (bar : Option Hit) (from n to : ℕ) → from + n ≡ to → to ≤ length rows → now.hits ≡ least now.k now.hits → IfSome bar (IsBehindAll now)
      → AreDistances plan query rows count far → AreAllPast far bar from to → Offered old now (hits_seen ts plan query (take from rows)) → Offered old now (hits_seen ts plan query (take to rows))
  offered_past_all old now rows count far bar from zero to e within own behind apart past f =
      let same : from ≡ to = omega arith in subst (λ t. Offered old now (hits_seen ts plan query (take t rows))) same f
  offered_past_all old now rows count far bar from (suc n) to e within own behind apart past f =
      let i = from + n in
      let below : i < length rows = omega arith in
      let one : i + 1 ≡ to = omega arith in
      let s = get_or rows i (shown_as no_row None) in
      let there : slice_get rows i ≡ Some s = slice_get-get_or rows i (shown_as no_row None) below in
      let before = offered_past_all old now rows count far bar from n i refl (omega arith) own behind apart (λ j le lt. past j le (omega arith)) f in
      let here = offered_past s now bar (far i) true own behind (apart.each i s there) (sym (past i (omega arith) (omega arith))) refl in
      subst (λ t. Offered old now (hits_seen ts plan query (take t rows))) one (offered_next old now now rows i s there before here)

  -- one row more was offered behind others
  pub more_offered : (old now next : Kept) (rows : List Shown) (from i : ℕ) (s : Shown) → slice_get rows i ≡ Some s → AreOffered ts plan query rows from i old now
      → Offered now next (hits_seen ts plan query (s ∷ [])) → AreOffered ts plan query rows from (i + 1) old next
  more_offered old now next rows from i s e all here first f = offered_next first now next rows i s e (all first f) here

  -- rows behind others that were offered are all too far
  pub passed_offered : (old now : Kept) (rows : List Shown) (count : ℕ) (far : ℕ → Distance) (bar : Option Hit) (from mid to : ℕ) → mid ≤ to → to ≤ length rows → now.hits ≡ least now.k now.hits → IfSome bar (IsBehindAll now)
      → AreDistances plan query rows count far → AreAllPast far bar mid to → AreOffered ts plan query rows from mid old now → AreOffered ts plan query rows from to old now
  passed_offered old now rows count far bar from mid to order within own behind apart past all first f =
      offered_past_all first now rows count far bar mid (to - mid) to (omega (arith, order)) within own behind apart past (all first f)

  -- all rows were offered, in two runs
  pub whole_offered : (old mid now : Kept) (rows : List Shown) (n : ℕ) → old.hits ≡ least old.k old.hits → AreOffered ts plan query rows 0 n old mid → AreOffered ts plan query rows n (length rows) mid now
      → Offered old now (hits_seen ts plan query rows)
  whole_offered old mid now rows n own front back =
      subst (λ l. Offered old now (hits_seen ts plan query l)) (take_all (length rows) rows (omega arith)) (back old (front old (Offered-none old own)))

  -- distances of rows by their numbers are those from the query's vector
  pub are_far : (rows : List Shown) (count : ℕ) (far : ℕ → Distance) (from : ℕ) (distances : List Distance) → AreDistances plan query rows count far → AreDistancesFrom far from distances → AreFar plan query rows from distances
  are_far rows count far from distances apart same j d e s there = same j d e ∙ apart.each (from + j) s there

pub past_none : (far : ℕ → Distance) (hit : Option Hit) (from : ℕ) → AreAllPast far hit from from
past_none far hit from j le lt = absurd (omega arith)

-- four rows are too far where each of them is
pub past_four : (far : ℕ → Distance) (hit : Option Hit) (from : ℕ) (first second third fourth : Distance) → first ≡ far from → second ≡ far (from + 1) → third ≡ far (from + 2) → fourth ≡ far (from + 3)
    → AllByRecursion (λ d. is_past hit d ≡ true) (first ∷ second ∷ third ∷ fourth ∷ []) → AreAllPast far hit from (from + 4)
past_four far hit from first second third fourth one two three four all j le lt = go (j - from) (omega (arith, le, lt)) (omega (arith, le, lt))
  where
    at : (n : ℕ) (d : Distance) → from + n ≡ j → d ≡ far (from + n) → is_past hit d ≡ true → is_past hit (far j) ≡ true
    at n d e is past = subst (λ i. is_past hit (far i) ≡ true) e (ap (is_past hit) (sym is) ∙ past)

    go : (n : ℕ) → from + n ≡ j → n < 4 → is_past hit (far j) ≡ true
    go zero e few = let none : from ≡ from + 0 = omega arith in at 0 first e (one ∙ ap far none) all.0
    go (suc zero) e few = at 1 second e two all.1.0
    go (suc (suc zero)) e few = at 2 third e three all.1.1.0
    go (suc (suc (suc zero))) e few = at 3 fourth e four all.1.1.1.0
    go (suc (suc (suc (suc n)))) e few = absurd (omega (arith, few))

-- the distances of four rows
pub far_four : (far : ℕ → Distance) (from : ℕ) (first second third fourth : Distance) → first ≡ far from → second ≡ far (from + 1) → third ≡ far (from + 2) → fourth ≡ far (from + 3)
    → AreDistancesFrom far from (first ∷ second ∷ third ∷ fourth ∷ [])
far_four far from first second third fourth one two three four = go
  where
    go : AreDistancesFrom far from (first ∷ second ∷ third ∷ fourth ∷ [])
    go zero d e = let none : from ≡ from + 0 = omega arith in sym (some_same first d e) ∙ one ∙ ap far none
    go (suc zero) d e = sym (some_same second d e) ∙ two
    go (suc (suc zero)) d e = sym (some_same third d e) ∙ three
    go (suc (suc (suc zero))) d e = sym (some_same fourth d e) ∙ four
    go (suc (suc (suc (suc n)))) d e = absurd (none_some d e)

-- rows that are too far, and rows behind them
pub past_more : (far : ℕ → Distance) (hit : Option Hit) (from mid to : ℕ) → AreAllPast far hit from mid → AreAllPast far hit mid to → AreAllPast far hit from to
past_more far hit from mid to front back j le lt = go (nat_lt j mid) refl
  where
    go : (b : Bool) → nat_lt j mid ≡ b → is_past hit (far j) ≡ true
    go true f = front j le (ltb-true j mid f)
    go false f = back j (ltb-false j mid f) lt
