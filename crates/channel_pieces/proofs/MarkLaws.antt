-- Rows with their marks, and what some deaths make of them.
use Rattle.std.proofs.Common.{◌≡◌, ◌≢◌, ℕ, zero, suc, ◌+◌, ◌<◌, ◌≤◌, nat_eq, Bool, true, false, cond, List, [], ◌∷◌, ◌++◌, length, map, take, get_or, Option, Some, None, refl, sym, ap, ap₂, subst, ◌∙◌, ⊎_elim, eq-eqb, ne_eqb, length-append, arith}
use Rattle.std.specs.List.{AllByRecursion}
use Rattle.std.specs.Option.{option_map, option_or, IfSome}
use Rattle.std.specs.Map.{lookup}
use Rattle.std.specs.Ordering.{nat_cmp, eq_by_cmp}
use Rattle.std.specs.Cmp.{nat_cmp_total, eq_by_cmp_equiv, Equal-is}
use Rattle.std.specs.FinMap as fin
use Rattle.std.specs.FinMap.Entries.{find-put, by_order}
use Rattle.std.specs.declared.cmp.Ordering.{Ordering}
use Rattle.std.specs.declared.cmp.Ordering.TheVariants.{Less, Equal, Greater}
use Rattle.std.proofs.lemmas.Bool.{cases_eq}
use Rattle.hybrid_time.specs.declared.times.Timestamp.{Timestamp}
use Rattle.log_model.specs.Places.{Placed, PlacedBefore, Rise}
use Rattle.journal_model.specs.Views.{Shown}
use Rattle.seg_sealed.specs.Segments.{SealedSegment, position_of}
use Rattle.seg_sealed.specs.Marks.{Marked, death_at, with_death}
use Rattle.seg_sealed.specs.Parts.{SegmentPart, AreDeathsOf, shown_from, shown_as}
use Rattle.channel_pieces.specs.Pieces.{placed_of, death_in, marked_by}
use Rattle.channel_pieces.specs.Fields.{Climb, places_in, index_from, index_in, hit_at, unless_marked, hits_of, with_hits, AreOpen, deaths_next, AreMarksOf, KeepsTail, IsPartOf, Piece, piece_of}
use Rattle.channel_pieces.proofs.DeathLaws.{Death, all_at, IsIndexIn, index_there}

-- ---- rows without their marks

pub placed_back : (marks : List (ℕ × ℕ)) (i : ℕ) (rows : List Placed) → map placed_of (shown_from marks i rows) ≡ rows
placed_back marks i [] = refl
placed_back marks i (x ∷ rows) = ap (λ r. x ∷ r) (placed_back marks (suc i) rows)

pub length-shown : (marks : List (ℕ × ℕ)) (i : ℕ) (rows : List Placed) → length (shown_from marks i rows) ≡ length rows
length-shown marks i [] = refl
length-shown marks i (x ∷ rows) = ap suc (length-shown marks (suc i) rows)

-- ---- one mark more

same_of : (j k : ℕ) → eq_by_cmp nat_cmp j k ≡ true → j ≡ k
same_of j k e = fin.nat_cmp-IsAntisymmetric j k ((Equal-is (nat_cmp j k)).0 e)

differs : (j k : ℕ) → j ≢ k → eq_by_cmp nat_cmp j k ≡ false
differs j k ne = go (eq_by_cmp nat_cmp j k) refl
  where
    go : (b : Bool) → eq_by_cmp nat_cmp j k ≡ b → b ≡ false
    go true e = absurd (ne (same_of j k e))
    go false e = refl

pub death_put : (row ts : ℕ) (marks : List (ℕ × ℕ)) → death_at row (with_death row ts marks) ≡ Some ts
death_put row ts marks = find-put nat_cmp nat_cmp_total row row ts marks ∙ ap (λ b. cond b (Some ts) (death_at row marks)) ((eq_by_cmp_equiv nat_cmp_total).refl row)

pub death_other : (other row ts : ℕ) (marks : List (ℕ × ℕ)) → other ≢ row → death_at other (with_death row ts marks) ≡ death_at other marks
death_other other row ts marks ne = find-put nat_cmp nat_cmp_total other row ts marks ∙ ap (λ b. cond b (Some ts) (death_at other marks)) (differs other row ne)

pub shown_below : (row ts : ℕ) (marks : List (ℕ × ℕ)) (i : ℕ) (rows : List Placed) → row < i → shown_from (with_death row ts marks) i rows ≡ shown_from marks i rows
shown_below row ts marks i [] lt = refl
shown_below row ts marks i (x ∷ rows) lt = ap₂ (λ m (l : List Shown). shown_as x m ∷ l) (death_other i row ts marks (λ e. absurd (omega arith))) (shown_below row ts marks (suc i) rows (omega arith))

-- ---- marks by deaths

abbrev only : ℕ → Timestamp → List Death
only p ts = (p, ts) ∷ []

unhit : (p : ℕ) (ts : Timestamp) (s : Shown) → s.position ≢ p → marked_by (only p ts) s ≡ s
unhit p ts s ne = ap (λ m. record s { mark = m }) (ap (λ b. option_or s.mark (option_map (λ t. t.0) (cond b (Some ts) None))) (ne_eqb s.position p ne) ∙ or_none s.mark)
  where
    or_none : (o : Option ℕ) → option_or o None ≡ o
    or_none None = refl
    or_none (Some t) = refl

kept : (deaths : List Death) (s : Shown) (t : ℕ) → s.mark ≡ Some t → marked_by deaths s ≡ s
kept deaths s t e = ap (λ m. record s { mark = m }) (ap (λ o. option_or o (death_in deaths s.position)) e ∙ sym e)

-- no row is at the position
none_marked : (p : ℕ) (ts : Timestamp) (marks : List (ℕ × ℕ)) (i : ℕ) (rows : List Placed) → AllByRecursion (λ q. p < q) (map position_of rows) → map (marked_by (only p ts)) (shown_from marks i rows) ≡ shown_from marks i rows
none_marked p ts marks i [] all = refl
none_marked p ts marks i (x ∷ rows) all = ap₂ (λ (s : Shown) l. s ∷ l) (unhit p ts (shown_as x (death_at i marks)) (λ e. let h = all.0 in absurd (omega arith))) (none_marked p ts marks (suc i) rows all.1)

pub missed : (p : ℕ) (ts : Timestamp) (marks : List (ℕ × ℕ)) (i : ℕ) (rows : List Placed) → index_from i (map position_of rows) p ≡ None → map (marked_by (only p ts)) (shown_from marks i rows) ≡ shown_from marks i rows
missed p ts marks i [] e = refl
missed p ts marks i (x ∷ rows) e =
    ⊎_elim
    (λ (same : x.position ≡ p). let h : Some i ≡ None = sym (ap (λ b. cond b (Some i) (index_from (suc i) (map position_of rows) p)) (eq-eqb x.position p same)) ∙ e in absurd (let b : ⊥ = cc in b))
    (λ (ne : x.position ≢ p). ap₂ (λ (s : Shown) l. s ∷ l) (unhit p ts (shown_as x (death_at i marks)) ne) (missed p ts marks (suc i) rows (sym (ap (λ b. cond b (Some i) (index_from (suc i) (map position_of rows) p)) (ne_eqb x.position p ne)) ∙ e)))
    (cases_eq x.position p)

above_of : (x : Placed) (rows : List Placed) (p : ℕ) → x.position ≡ p → AllByRecursion (λ q. x.position < q) (map position_of rows) → AllByRecursion (λ q. p < q) (map position_of rows)
above_of x rows p e all = subst (λ n. AllByRecursion (λ q. n < q) (map position_of rows)) e all

-- the row is at index j from i on
pub hit_row : (p : ℕ) (ts : Timestamp) (marks : List (ℕ × ℕ)) (i j : ℕ) (rows : List Placed) → Climb (map position_of rows) → j < length (map position_of rows) → get_or (map position_of rows) j 0 ≡ p → death_at (i + j) marks ≡ None
    → shown_from (with_death (i + j) ts.0 marks) i rows ≡ map (marked_by (only p ts)) (shown_from marks i rows)
hit_row p ts marks i j [] c lt e none = absurd (omega arith)
hit_row p ts marks i zero (x ∷ rows) c lt e none =
    let at : i + 0 ≡ i = omega arith in
    let mark : death_at i (with_death (i + 0) ts.0 marks) ≡ Some ts.0 = subst (λ n. death_at n (with_death (i + 0) ts.0 marks) ≡ Some ts.0) at (death_put (i + 0) ts.0 marks) in
    let was : death_at i marks ≡ None = subst (λ n. death_at n marks ≡ None) at none in
    let now : (marked_by (only p ts) (shown_as x (death_at i marks))).mark ≡ Some ts.0 = ap₂ (λ o b. option_or o (option_map (λ t. t.0) (cond b (Some ts) None))) was (eq-eqb x.position p e) in
    ap₂ (λ m (l : List Shown). shown_as x m ∷ l) (mark ∙ sym now)
    (shown_below (i + 0) ts.0 marks (suc i) rows (omega arith) ∙ sym (none_marked p ts marks (suc i) rows (above_of x rows p e c.0)))
hit_row p ts marks i (suc j) (x ∷ rows) c lt e none =
    let below : x.position < get_or (map position_of rows) j 0 = all_at (λ q. x.position < q) (map position_of rows) j c.0 (omega arith) in
    let at : i + suc j ≡ suc i + j = omega arith in
    ap₂ (λ (s : Shown) l. s ∷ l)
    (ap (shown_as x) (death_other i (i + suc j) ts.0 marks (λ h. absurd (omega arith))) ∙ sym (unhit p ts (shown_as x (death_at i marks)) (λ h. absurd (omega arith))))
    (ap (λ n. shown_from (with_death n ts.0 marks) (suc i) rows) at ∙ hit_row p ts marks (suc i) j rows c.1 (omega arith) e (subst (λ n. death_at n marks ≡ None) at none))

-- a row that has a mark already
pub kept_row : (p : ℕ) (ts : Timestamp) (marks : List (ℕ × ℕ)) (i j t : ℕ) (rows : List Placed) → Climb (map position_of rows) → j < length (map position_of rows) → get_or (map position_of rows) j 0 ≡ p → death_at (i + j) marks ≡ Some t
    → map (marked_by (only p ts)) (shown_from marks i rows) ≡ shown_from marks i rows
kept_row p ts marks i j t [] c lt e some = absurd (omega arith)
kept_row p ts marks i zero t (x ∷ rows) c lt e some =
    let at : i + 0 ≡ i = omega arith in
    ap₂ (λ (s : Shown) l. s ∷ l) (kept (only p ts) (shown_as x (death_at i marks)) t (subst (λ n. death_at n marks ≡ Some t) at some)) (none_marked p ts marks (suc i) rows (above_of x rows p e c.0))
kept_row p ts marks i (suc j) t (x ∷ rows) c lt e some =
    let below : x.position < get_or (map position_of rows) j 0 = all_at (λ q. x.position < q) (map position_of rows) j c.0 (omega arith) in
    let at : i + suc j ≡ suc i + j = omega arith in
    ap₂ (λ (s : Shown) l. s ∷ l) (unhit p ts (shown_as x (death_at i marks)) (λ h. absurd (omega arith))) (kept_row p ts marks (suc i) j t rows c.1 (omega arith) e (subst (λ n. death_at n marks ≡ Some t) at some))

-- one death, and then the others
one_more : (d : Death) (deaths : List Death) (s : Shown) → marked_by (d ∷ deaths) s ≡ marked_by deaths (marked_by (only d.0 d.1) s)
one_more d deaths s = ap (λ m. record s { mark = m }) (go s.mark (nat_eq s.position d.0))
  where
    go : (o : Option ℕ) (b : Bool) → option_or o (option_map (λ t. t.0) (cond b (Some d.1) (lookup (nat_eq s.position) deaths))) ≡ option_or (option_or o (option_map (λ t. t.0) (cond b (Some d.1) None))) (death_in deaths s.position)
    go None true = refl
    go None false = refl
    go (Some t) b = refl

pub all_more : (d : Death) (deaths : List Death) (rows : List Shown) → map (marked_by (d ∷ deaths)) rows ≡ map (marked_by deaths) (map (marked_by (only d.0 d.1)) rows)
all_more d deaths [] = refl
all_more d deaths (s ∷ rows) = ap₂ (λ (r : Shown) l. r ∷ l) (one_more d deaths s) (all_more d deaths rows)

pub no_more : (rows : List Shown) → map (marked_by []) rows ≡ rows
no_more [] = refl
no_more (s ∷ rows) = ap₂ (λ (r : Shown) l. r ∷ l) (go s.mark) (no_more rows)
  where
    go : (o : Option ℕ) → record s { mark = option_or o None } ≡ record s { mark = o }
    go None = refl
    go (Some t) = refl

-- ---- hits

-- the hits of later deaths do not change where another row is marked
others_hit : (ps : List ℕ) (p row ts : ℕ) (marks : List (ℕ × ℕ)) (deaths : List Death) → get_or ps row 0 ≡ p → AllByRecursion (λ q. p < q) (places_in deaths) → hits_of ps (with_death row ts marks) deaths ≡ hits_of ps marks deaths
others_hit ps p row ts marks [] e all = refl
others_hit ps p row ts marks (d ∷ deaths) e all = ap₂ (λ (a : List Death) l. a ++ l) (go (index_in ps d.0) refl) (others_hit ps p row ts marks deaths e all.1)
  where
    go : (o : Option ℕ) → index_in ps d.0 ≡ o → hit_at (with_death row ts marks) d.1 o ≡ hit_at marks d.1 o
    go None f = refl
    go (Some k) f =
        let there = index_there ps d.0 k f in
        ap (λ m. unless_marked m k d.1) (death_other k row ts marks (λ same. let h = all.0 in let t : get_or ps k 0 ≡ d.0 = there.there in let u : get_or ps k 0 ≡ p = ap (λ n. get_or ps n 0) same ∙ e in absurd (omega arith)))

-- each hit is of a row without a mark
pub hits_free : (ps : List ℕ) (deaths : List Death) (marks : List (ℕ × ℕ)) → Climb (places_in deaths) → AreOpen (hits_of ps marks deaths) marks
hits_free ps [] marks up = tt
hits_free ps (d ∷ deaths) marks up = go (λ now. hits_free ps deaths now up.1) (index_in ps d.0) refl
  where
    at_row : ((now : List (ℕ × ℕ)) → AreOpen (hits_of ps now deaths) now) → (k : ℕ) → IsIndexIn ps d.0 k → (m : Option ℕ) → death_at k marks ≡ m → AreOpen (unless_marked m k d.1 ++ hits_of ps marks deaths) marks
    at_row rest k there (Some t) f = rest marks
    at_row rest k there None f = (f, subst (λ (h : List Death). AreOpen h (with_death k d.1.0 marks)) (others_hit ps d.0 k d.1.0 marks deaths there.there up.0) (rest (with_death k d.1.0 marks)))

    go : ((now : List (ℕ × ℕ)) → AreOpen (hits_of ps now deaths) now) → (o : Option ℕ) → index_in ps d.0 ≡ o → AreOpen (hit_at marks d.1 o ++ hits_of ps marks deaths) marks
    go rest None f = rest marks
    go rest (Some k) f = at_row rest k (index_there ps d.0 k f) (death_at k marks) refl

-- what some hits, of some deaths, make of rows
pub record AreHits (rows : List Placed) (deaths : List Death) (marks : List (ℕ × ℕ)) (hits : List Death) : Type 0 where
  pub marked : shown_from (with_hits hits marks) 0 rows ≡ map (marked_by deaths) (shown_from marks 0 rows)
  pub within : AllByRecursion (λ h. h.0 < length rows) hits

-- a death that changes nothing
no_hit : (rows : List Placed) (d : Death) (deaths : List Death) (marks : List (ℕ × ℕ)) (hits : List Death) → AreHits rows deaths marks hits → map (marked_by (only d.0 d.1)) (shown_from marks 0 rows) ≡ shown_from marks 0 rows → AreHits rows (d ∷ deaths) marks hits
no_hit rows d deaths marks hits rest same = record {
  marked = rest.marked ∙ sym (all_more d deaths (shown_from marks 0 rows) ∙ ap (map (marked_by deaths)) same);
  within = rest.within;
}

-- a death that marks a row
one_hit : (rows : List Placed) (d : Death) (deaths : List Death) (marks : List (ℕ × ℕ)) (k : ℕ) (hits : List Death) → AreHits rows deaths (with_death k d.1.0 marks) hits → k < length rows
    → shown_from (with_death k d.1.0 marks) 0 rows ≡ map (marked_by (only d.0 d.1)) (shown_from marks 0 rows) → AreHits rows (d ∷ deaths) marks ((k, d.1) ∷ hits)
one_hit rows d deaths marks k hits rest lt one = record {
  marked = rest.marked ∙ ap (map (marked_by deaths)) one ∙ sym (all_more d deaths (shown_from marks 0 rows));
  within = (lt, rest.within);
}

pub length_positions : (rows : List Placed) → length (map position_of rows) ≡ length rows
length_positions [] = refl
length_positions (x ∷ rows) = ap suc (length_positions rows)

next_hit : (rows : List Placed) (d : Death) (deaths : List Death) (marks : List (ℕ × ℕ)) → Climb (map position_of rows) → AllByRecursion (λ q. d.0 < q) (places_in deaths)
    → ((now : List (ℕ × ℕ)) → AreHits rows deaths now (hits_of (map position_of rows) now deaths))
    → AreHits rows (d ∷ deaths) marks (hit_at marks d.1 (index_in (map position_of rows) d.0) ++ hits_of (map position_of rows) marks deaths)
next_hit rows d deaths marks c up rest = go (index_in (map position_of rows) d.0) refl
  where
    at_row : (k : ℕ) → IsIndexIn (map position_of rows) d.0 k → (m : Option ℕ) → death_at k marks ≡ m → AreHits rows (d ∷ deaths) marks (unless_marked m k d.1 ++ hits_of (map position_of rows) marks deaths)
    at_row k there (Some t) f =
        let zero_k : k ≡ 0 + k = omega arith in
        no_hit rows d deaths marks (hits_of (map position_of rows) marks deaths) (rest marks)
        (kept_row d.0 d.1 marks 0 k t rows c there.within there.there (subst (λ n. death_at n marks ≡ Some t) zero_k f))
    at_row k there None f =
        let zero_k : k ≡ 0 + k = omega arith in
        let lt : k < length rows = let h = there.within in let l = length_positions rows in omega arith in
        let one : shown_from (with_death k d.1.0 marks) 0 rows ≡ map (marked_by (only d.0 d.1)) (shown_from marks 0 rows) =
        ap (λ n. shown_from (with_death n d.1.0 marks) 0 rows) zero_k ∙ hit_row d.0 d.1 marks 0 k rows c there.within there.there (subst (λ n. death_at n marks ≡ None) zero_k f) in
        one_hit rows d deaths marks k (hits_of (map position_of rows) marks deaths)
        (subst (AreHits rows deaths (with_death k d.1.0 marks)) (others_hit (map position_of rows) d.0 k d.1.0 marks deaths there.there up) (rest (with_death k d.1.0 marks)))
        lt one

    go : (o : Option ℕ) → index_in (map position_of rows) d.0 ≡ o → AreHits rows (d ∷ deaths) marks (hit_at marks d.1 o ++ hits_of (map position_of rows) marks deaths)
    go None f = no_hit rows d deaths marks (hits_of (map position_of rows) marks deaths) (rest marks) (missed d.0 d.1 marks 0 rows f)
    go (Some k) f = at_row k (index_there (map position_of rows) d.0 k f) (death_at k marks) refl

pub hits_mark : (rows : List Placed) (deaths : List Death) (marks : List (ℕ × ℕ)) → Climb (map position_of rows) → Climb (places_in deaths) → AreHits rows deaths marks (hits_of (map position_of rows) marks deaths)
hits_mark rows [] marks c up = record { marked = sym (no_more (shown_from marks 0 rows)); within = tt }
hits_mark rows (d ∷ deaths) marks c up = next_hit rows d deaths marks c up.0 (λ now. hits_mark rows deaths now c up.1)

-- ---- marks of so many rows

by_cmp : {A : Type 0} (P : A → Type 0) (o : Ordering) (a b c : A) → P a → P b → P c → P (by_order o a b c)
by_cmp P Less a b c p q r = p
by_cmp P Equal a b c p q r = q
by_cmp P Greater a b c p q r = r

put_within : (n row ts : ℕ) (marks : List (ℕ × ℕ)) → row < n → AreDeathsOf n marks → AreDeathsOf n (with_death row ts marks)
put_within n row ts [] lt all = (lt, tt)
put_within n row ts (m ∷ marks) lt all = by_cmp (AreDeathsOf n) (nat_cmp row m.0) ((row, ts) ∷ m ∷ marks) ((m.0, ts) ∷ marks) (m ∷ with_death row ts marks) (lt, all) (all.0, all.1) (all.0, put_within n row ts marks lt all.1)

pub hits_within : (n : ℕ) (hits : List Death) (marks : List (ℕ × ℕ)) → AllByRecursion (λ h. h.0 < n) hits → AreDeathsOf n marks → AreDeathsOf n (with_hits hits marks)
hits_within n [] marks lts all = all
hits_within n (h ∷ hits) marks lts all = hits_within n hits (with_death h.0 h.1.0 marks) lts.1 (put_within n h.0 h.1.0 marks lts.0 all)

-- ---- a loop over hits

pub with_more : (hits : List Death) (k : ℕ) (d : Death) (marks : List (ℕ × ℕ)) → k < length hits → with_hits (take (k + 1) hits) marks ≡ with_death (get_or hits k d).0 (get_or hits k d).1.0 (with_hits (take k hits) marks)
with_more [] k d marks lt = absurd (omega arith)
with_more (h ∷ hits) zero d marks lt = refl
with_more (h ∷ hits) (suc k) d marks lt =
    let e : suc k + 1 ≡ suc (k + 1) = omega arith in
    ap (λ n. with_hits (take n (h ∷ hits)) marks) e ∙ with_more hits k d (with_death h.0 h.1.0 marks) (omega arith)

pub next_free : (hits : List Death) (k : ℕ) (d : Death) (marks : List (ℕ × ℕ)) → k < length hits → AreOpen hits marks → death_at (get_or hits k d).0 (with_hits (take k hits) marks) ≡ None
next_free [] k d marks lt free = absurd (omega arith)
next_free (h ∷ hits) zero d marks lt free = free.0
next_free (h ∷ hits) (suc k) d marks lt free = next_free hits k d (with_death h.0 h.1.0 marks) (omega arith) free.1

-- rows that have the same marks
pub marked_alike : (xs ys : List Death) (rows : List Shown) → ((position : ℕ) → death_in xs position ≡ death_in ys position) → map (marked_by xs) rows ≡ map (marked_by ys) rows
marked_alike xs ys [] same = refl
marked_alike xs ys (s ∷ rows) same = ap₂ (λ m (l : List Shown). record s { mark = option_or s.mark m } ∷ l) (same s.position) (marked_alike xs ys rows same)

-- rows that rise have positions that rise
pub rise_climbs : (rows : List Placed) → Rise rows → Climb (map position_of rows)
rise_climbs [] up = tt
rise_climbs (x ∷ rows) up = (all x rows up.0, rise_climbs rows up.1)
  where
    all : (x : Placed) (ys : List Placed) → AllByRecursion (PlacedBefore x) ys → AllByRecursion (λ q. x.position < q) (map position_of ys)
    all x [] h = tt
    all x (y ∷ ys) h = (h.0.lower, all x ys h.1)

-- ---- marks that are prepared

deaths_weaker : (n m : ℕ) (marks : List (ℕ × ℕ)) → n ≤ m → AreDeathsOf n marks → AreDeathsOf m marks
deaths_weaker n m [] le all = tt
deaths_weaker n m (d ∷ marks) le all = (let h = all.0 in omega arith, deaths_weaker n m marks le all.1)

pub marks_weaker : (n m : ℕ) (marks : Marked) (next : Option Marked) → n ≤ m → AreMarksOf n marks next → AreMarksOf m marks next
marks_weaker n m marks None le fit = record { now = deaths_weaker n m marks.deaths le fit.now; later = tt }
marks_weaker n m marks (Some o) le fit = record { now = deaths_weaker n m marks.deaths le fit.now; later = deaths_weaker n m o.deaths le fit.later }

next_within : (n : ℕ) (next : Option Marked) (marks : Marked) (deaths : List (ℕ × ℕ)) → deaths_next next marks ≡ deaths → AreDeathsOf n deaths → IfSome next (λ m. AreDeathsOf n m.deaths)
next_within n None marks deaths e all = tt
next_within n (Some m) marks deaths e all = subst (AreDeathsOf n) (sym e) all

next_same : (next : Option Marked) (old new : Marked) → new.deaths ≡ old.deaths → deaths_next next new ≡ deaths_next next old
next_same None old new e = e
next_same (Some m) old new e = refl

-- what is known of rows whose marks by some deaths are prepared
pub record IsReady (rows : List Placed) (deaths : List Death) (old new : Marked) (next : Option Marked) : Type 0 where
  pub same_rows : shown_from new.deaths 0 rows ≡ shown_from old.deaths 0 rows
  pub next_rows : shown_from (deaths_next next new) 0 rows ≡ map (marked_by deaths) (shown_from old.deaths 0 rows)
  pub fit : AreMarksOf (length rows) new next

pub ready : (rows : List Placed) (positions : List ℕ) (deaths : List Death) (old new : Marked) (next : Option Marked) → positions ≡ map position_of rows → Rise rows → Climb (places_in deaths)
    → deaths_next next old ≡ with_hits (hits_of positions old.deaths deaths) old.deaths → new.deaths ≡ old.deaths → AreDeathsOf (length rows) old.deaths → IsReady rows deaths old new next
ready rows positions deaths old new next at up rise made same within =
    let hits = hits_mark rows deaths old.deaths (rise_climbs rows up) rise in
    let is : deaths_next next old ≡ with_hits (hits_of (map position_of rows) old.deaths deaths) old.deaths = made ∙ ap (λ (ps : List ℕ). with_hits (hits_of ps old.deaths deaths) old.deaths) at in
    record {
      same_rows = ap (λ (m : List (ℕ × ℕ)). shown_from m 0 rows) same;
      next_rows = ap (λ (m : List (ℕ × ℕ)). shown_from m 0 rows) (next_same next old new same ∙ is) ∙ hits.marked;
      fit = record {
        now = subst (AreDeathsOf (length rows)) (sym same) within;
        later = next_within (length rows) next old (with_hits (hits_of (map position_of rows) old.deaths deaths) old.deaths) is (hits_within (length rows) (hits_of (map position_of rows) old.deaths deaths) old.deaths hits.within within);
      };
    }

-- ---- one row more

pub positions_push : (rows : List Placed) (x : Placed) → map position_of (rows ++ x ∷ []) ≡ map position_of rows ++ x.position ∷ []
positions_push [] x = refl
positions_push (y ∷ rows) x = ap (λ l. y.position ∷ l) (positions_push rows x)

none_beyond : (n k : ℕ) (marks : List (ℕ × ℕ)) → n ≤ k → AreDeathsOf n marks → death_at k marks ≡ None
none_beyond n k [] le all = refl
none_beyond n k (m ∷ marks) le all = ap (λ b. cond b (Some m.1) (death_at k marks)) (differs k m.0 (λ e. let h = all.0 in absurd (omega arith))) ∙ none_beyond n k marks le all.1

shown_more : (marks : List (ℕ × ℕ)) (i : ℕ) (rows : List Placed) (x : Placed) → ((k : ℕ) → i + length rows ≤ k → death_at k marks ≡ None) → shown_from marks i (rows ++ x ∷ []) ≡ shown_from marks i rows ++ shown_as x None ∷ []
shown_more marks i [] x none = ap (λ m. shown_as x m ∷ []) (none i (omega arith))
shown_more marks i (y ∷ rows) x none = ap (λ (l : List Shown). shown_as y (death_at i marks) ∷ l) (shown_more marks (suc i) rows x (λ k le. none k (omega arith)))

pub shown_push : (marks : List (ℕ × ℕ)) (rows : List Placed) (x : Placed) → AreDeathsOf (length rows) marks → shown_from marks 0 (rows ++ x ∷ []) ≡ shown_from marks 0 rows ++ shown_as x None ∷ []
shown_push marks rows x all = shown_more marks 0 rows x (λ k le. none_beyond (length rows) k marks (omega arith) all)

pub push_keeps : (rows : List Placed) (positions : List ℕ) (marks : Marked) (next : Option Marked) (x : Placed) → KeepsTail rows positions marks next → KeepsTail (rows ++ x ∷ []) (positions ++ x.position ∷ []) marks next
push_keeps rows positions marks next x kept = record {
  positions_are = ap (λ l. l ++ x.position ∷ []) kept.positions_are ∙ sym (positions_push rows x);
  marks_fit = marks_weaker (length rows) (length (rows ++ x ∷ [])) marks next (let e : length (rows ++ x ∷ []) ≡ length rows + 1 = length-append rows (x ∷ []) in omega arith) kept.marks_fit;
}

-- ---- parts

pub part_same : (sealed : SealedSegment) (old new : Marked) (part : Option SegmentPart) → new.deaths ≡ old.deaths → IfSome part (IsPartOf sealed old) → IfSome part (IsPartOf sealed new)
part_same sealed old new None e is = tt
part_same sealed old new (Some part) e is = record { sealed_is = is.sealed_is; deaths_are = is.deaths_are ∙ sym e }

abbrev made_piece : SealedSegment → List Shown → List Shown → Piece
made_piece sealed rows next = record { number = sealed.number; dim = sealed.dim; kinds = sealed.kinds; rows = rows; next = next }

pub piece_same : (sealed : SealedSegment) (old new : Marked) (next : Option Marked) → new.deaths ≡ old.deaths → piece_of sealed new next ≡ piece_of sealed old next
piece_same sealed old new next e = ap₂ (λ (x y : List (ℕ × ℕ)). made_piece sealed (shown_from x 0 sealed.rows) (shown_from y 0 sealed.rows)) e (next_same next old new e)
