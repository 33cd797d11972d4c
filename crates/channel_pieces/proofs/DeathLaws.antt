-- Deaths by position: in rising order, in another order, and among the rows at some positions.
use Rattle.std.proofs.Common.{◌≡◌, ◌≢◌, ℕ, zero, suc, ◌+◌, ◌<◌, ◌≤◌, nat_eq, nat_lt, nat_le, true, false, cond, List, [], ◌∷◌, ◌++◌, length, take, drop, get_or, append_assoc, append-nil, ◌-◌, ◌==◌, Option, Some, None, Ok, Err, refl, sym, ap, subst, ◌∙◌, ⊎_elim, eq-eqb, ne_eqb, arith}
use Rattle.std.specs.List.{AllByRecursion}
use Rattle.std.specs.List.Sorted.{IsPermutation, IsNonDecreasingBy, IsBinarySearchResult}
use Rattle.std.specs.Ordering.{nat_cmp}
use Rattle.std.specs.Map.{lookup}
use Rattle.std.specs.Option.{option_map}
use Rattle.std.specs.Cmp.{nat_eq_equiv}
use Rattle.std.proofs.lemmas.Bool.{cases_eq, cases_lt, eqb-true, eqb-false}
use Rattle.std.proofs.lemmas.List.Sorted.{searched, Contains-permutation, IsPermutation-map, IsPermutation-sym}
use Rattle.std.proofs.lemmas.Map.Keys.{IsDistinct-IsPermutation, IsDistinct-head, IsDistinct-tail}
use Rattle.std.proofs.lemmas.Map.Views.{Contains-from_lookup, lookup-from_Contains}
use Rattle.hybrid_time.specs.declared.times.Timestamp.{Timestamp}
use Rattle.channel_pieces.specs.Pieces.{AreOnce, death_in}
use Rattle.channel_pieces.specs.Fields.{Climb, places_in, index_from, index_in, hit_at, hits_of}

abbrev pub Death : Type 0
Death = ℕ × Timestamp

-- ---- positions that rise

pub all_at : (P : ℕ → Type 0) (ps : List ℕ) (j : ℕ) → AllByRecursion P ps → j < length ps → P (get_or ps j 0)
all_at P [] j a h = absurd (omega arith)
all_at P (p ∷ ps) zero a h = a.0
all_at P (p ∷ ps) (suc j) a h = all_at P ps j a.1 (omega arith)

pub climbs : (ps : List ℕ) → Climb ps → (i j : ℕ) → i ≤ j → j < length ps → get_or ps i 0 ≤ get_or ps j 0
climbs [] c i j le lt = absurd (omega arith)
climbs (p ∷ ps) c zero zero le lt = omega arith
climbs (p ∷ ps) c zero (suc j) le lt = let below : p < get_or ps j 0 = all_at (λ q. p < q) ps j c.0 (omega arith) in omega arith
climbs (p ∷ ps) c (suc i) zero le lt = absurd (omega arith)
climbs (p ∷ ps) c (suc i) (suc j) le lt = climbs ps c.1 i j (omega arith) (omega arith)

pub climb-take : (n : ℕ) (ps : List ℕ) → Climb ps → Climb (take n ps)
climb-take zero ps c = tt
climb-take (suc n) [] c = tt
climb-take (suc n) (p ∷ ps) c = (all-take n ps c.0, climb-take n ps c.1)
  where
    all-take : (n : ℕ) (qs : List ℕ) → AllByRecursion (λ q. p < q) qs → AllByRecursion (λ q. p < q) (take n qs)
    all-take zero qs a = tt
    all-take (suc n) [] a = tt
    all-take (suc n) (q ∷ qs) a = (a.0, all-take n qs a.1)

pub climb-drop : (n : ℕ) (ps : List ℕ) → Climb ps → Climb (drop n ps)
climb-drop zero ps c = c
climb-drop (suc n) [] c = tt
climb-drop (suc n) (p ∷ ps) c = climb-drop n ps c.1

-- ---- the index of a position

pub none_from : (i : ℕ) (ps : List ℕ) (x : ℕ) → ((k : ℕ) → k < length ps → get_or ps k 0 ≢ x) → index_from i ps x ≡ None
none_from i [] x f = refl
none_from i (p ∷ ps) x f = ap (λ b. cond b (Some i) (index_from (suc i) ps x)) (ne_eqb p x (f 0 (omega arith))) ∙ none_from (suc i) ps x (λ k lt. f (suc k) (omega arith))

pub some_from : (i k : ℕ) (ps : List ℕ) → Climb ps → k < length ps → index_from i ps (get_or ps k 0) ≡ Some (i + k)
some_from i k [] c lt = absurd (omega arith)
some_from i zero (p ∷ ps) c lt = ap (λ b. cond b (Some i) (index_from (suc i) ps p)) (eq-eqb p p refl) ∙ ap (λ n. Some n) (let e : i ≡ i + 0 = omega arith in e)
some_from i (suc k) (p ∷ ps) c lt =
    let below : p < get_or ps k 0 = all_at (λ q. p < q) ps k c.0 (omega arith) in
    ap (λ b. cond b (Some i) (index_from (suc i) ps (get_or ps k 0))) (ne_eqb p (get_or ps k 0) (λ e. absurd (omega arith)))
    ∙ some_from (suc i) k ps c.1 (omega arith) ∙ ap (λ n. Some n) (let e : suc i + k ≡ i + suc k = omega arith in e)

pub search_found : (x i : ℕ) (ps : List ℕ) → Climb ps → IsBinarySearchResult (λ y. nat_cmp y x) ps (Ok i) → Some i ≡ index_in ps x
search_found x i ps c h =
    let s = searched ps x (Ok i) h (climbs ps c) in
    sym (ap (index_in ps) (sym s.1) ∙ some_from 0 i ps c s.0 ∙ ap (λ n. Some n) (let e : 0 + i ≡ i = omega arith in e))

pub search_missed : (x i : ℕ) (ps : List ℕ) → Climb ps → IsBinarySearchResult (λ y. nat_cmp y x) ps (Err i) → None ≡ index_in ps x
search_missed x i ps c h =
    let s = searched ps x (Err i) h (climbs ps c) in
    sym (none_from 0 ps x (λ k lt e. ⊎_elim (λ low. let below : get_or ps k 0 < x = s.1 k low in absurd (omega arith)) (λ high. let above : x < get_or ps k 0 = s.2 k high lt in absurd (omega arith)) (cases_lt k i)))

-- what an index says
pub record IsIndexIn (ps : List ℕ) (x k : ℕ) : Type 0 where
  pub within : k < length ps
  pub there : get_or ps k 0 ≡ x

index_is : (i : ℕ) (ps : List ℕ) (x k : ℕ) → index_from i ps x ≡ Some k → (j : ℕ) × ((i + j ≡ k) × (j < length ps) × (get_or ps j 0 ≡ x))
index_is i [] x k e = absurd (let h : None ≡ Some k = e in cc)
index_is i (p ∷ ps) x k e =
    ⊎_elim
    (λ (same : p ≡ x). let h : Some i ≡ Some k = sym (ap (λ b. cond b (Some i) (index_from (suc i) ps x)) (eq-eqb p x same)) ∙ e in let ik : i ≡ k = cc in (0, (omega arith, omega arith, same)))
    (λ (ne : p ≢ x). let rest = index_is (suc i) ps x k (sym (ap (λ b. cond b (Some i) (index_from (suc i) ps x)) (ne_eqb p x ne)) ∙ e) in (suc rest.0, (let h = rest.1.0 in omega arith, let h = rest.1.1 in omega arith, rest.1.2)))
    (cases_eq p x)

pub index_there : (ps : List ℕ) (x k : ℕ) → index_in ps x ≡ Some k → IsIndexIn ps x k
index_there ps x k e =
    let h = index_is 0 ps x k e in
    let same : h.0 ≡ k = let s = h.1.0 in omega arith in
    subst (IsIndexIn ps x) same (record { within = h.1.1; there = h.1.2 })

-- ---- deaths that hit no row

skipped : (ps : List ℕ) (marks : List (ℕ × ℕ)) (d : Death) (deaths : List Death) → ((k : ℕ) → k < length ps → get_or ps k 0 ≢ d.0) → hits_of ps marks (d ∷ deaths) ≡ hits_of ps marks deaths
skipped ps marks d deaths f = ap (λ o. hit_at marks d.1 o ++ hits_of ps marks deaths) (none_from 0 ps d.0 f)

pub hits_above : (ps : List ℕ) (marks : List (ℕ × ℕ)) (deaths : List Death) (n : ℕ) (low : ℕ) → Climb ps → ((k : ℕ) → k < length ps → low ≤ get_or ps k 0) → AllByRecursion (λ d. d.0 < low) (take n deaths) → hits_of ps marks (drop n deaths) ≡ hits_of ps marks deaths
hits_above ps marks deaths zero low c at all = refl
hits_above ps marks [] (suc n) low c at all = refl
hits_above ps marks (d ∷ deaths) (suc n) low c at all =
    hits_above ps marks deaths n low c at all.1
    ∙ sym (skipped ps marks d deaths (λ k lt e. let a = at k lt in let b = all.0 in absurd (omega arith)))

none_hit : (ps : List ℕ) (marks : List (ℕ × ℕ)) (deaths : List Death) (high : ℕ) → ((k : ℕ) → k < length ps → get_or ps k 0 ≤ high) → AllByRecursion (λ d. high < d.0) deaths → hits_of ps marks deaths ≡ []
none_hit ps marks [] high at all = refl
none_hit ps marks (d ∷ deaths) high at all =
    skipped ps marks d deaths (λ k lt e. let a = at k lt in let b = all.0 in absurd (omega arith)) ∙ none_hit ps marks deaths high at all.1

pub hits_below : (ps : List ℕ) (marks : List (ℕ × ℕ)) (deaths : List Death) (n : ℕ) (high : ℕ) → ((k : ℕ) → k < length ps → get_or ps k 0 ≤ high) → AllByRecursion (λ d. high < d.0) (drop n deaths) → hits_of ps marks (take n deaths) ≡ hits_of ps marks deaths
hits_below ps marks deaths zero high at all = sym (none_hit ps marks deaths high at all)
hits_below ps marks [] (suc n) high at all = refl
hits_below ps marks (d ∷ deaths) (suc n) high at all = ap (λ l. hit_at marks d.1 (index_in ps d.0) ++ l) (hits_below ps marks deaths n high at all)

-- ---- deaths in another order

pub once_permuted : (xs ys : List Death) → IsPermutation xs ys → AreOnce xs → AreOnce ys
once_permuted xs ys moved once = IsDistinct-IsPermutation nat_eq nat_eq_equiv.symm (places_in xs) (places_in ys) (IsPermutation-map (λ (d : Death). d.0) xs ys moved) once

same_lookup : (xs ys : List Death) (position : ℕ) → IsPermutation xs ys → AreOnce xs → (o : Option Timestamp) → lookup (nat_eq position) ys ≡ o → lookup (nat_eq position) xs ≡ o
same_lookup xs ys position moved once (Some ts) e = lookup-from_Contains nat_eq_equiv position ts xs once (Contains-permutation ys xs (position, ts) (IsPermutation-sym xs ys moved) (Contains-from_lookup eqb-true position ts ys e))
same_lookup xs ys position moved once None e = go (lookup (nat_eq position) xs) refl
  where
    go : (o : Option Timestamp) → lookup (nat_eq position) xs ≡ o → o ≡ None
    go None f = refl
    go (Some ts) f =
        let found : lookup (nat_eq position) ys ≡ Some ts = lookup-from_Contains nat_eq_equiv position ts ys (once_permuted xs ys moved once) (Contains-permutation xs ys (position, ts) moved (Contains-from_lookup eqb-true position ts xs f)) in
        let h : None ≡ Some ts = sym e ∙ found in absurd (let b : ⊥ = cc in b)

pub deaths_permuted : (xs ys : List Death) (position : ℕ) → IsPermutation xs ys → AreOnce xs → death_in ys position ≡ death_in xs position
deaths_permuted xs ys position moved once = ap (option_map (λ ts. ts.0)) (sym (same_lookup xs ys position moved once (lookup (nat_eq position) ys) refl))

-- positions that do not fall and stand once rise
pub once_climbs : (deaths : List Death) → IsNonDecreasingBy (λ (d : Death). d.0) deaths → AreOnce deaths → Climb (places_in deaths)
once_climbs [] up once = tt
once_climbs (d ∷ deaths) up once =
    (above d.0 deaths (λ j e lt. up 0 (suc j) e (omega arith) (omega arith)) (IsDistinct-head nat_eq d.0 (places_in deaths) once), once_climbs deaths (λ i j e le lt. up (suc i) (suc j) e (omega arith) (omega arith)) (IsDistinct-tail nat_eq d.0 (places_in deaths) once))
  where
    above : (p : ℕ) (ds : List Death) → ((j : ℕ) (e : Death) → j < length ds → p ≤ (get_or ds j e).0) → AllByRecursion (λ q. nat_eq p q ≡ false) (places_in ds) → AllByRecursion (λ q. p < q) (places_in ds)
    above p [] least apart = tt
    above p (e ∷ ds) least apart =
        let low : p ≤ e.0 = least 0 e (omega arith) in
        let ne : p ≢ e.0 = eqb-false p e.0 apart.0 in
        (grind arith, above p ds (λ j f lt. least (suc j) f (omega arith)) apart.1)

-- ---- cuts

pub climb_orders : (deaths : List Death) → Climb (places_in deaths) → IsNonDecreasingBy (λ (d : Death). d.0) deaths
climb_orders deaths c i j e le lt = sym_le (climbs (places_in deaths) c i j le (subst (λ n. j < n) (sym (length_places deaths)) lt))
  where
    length_places : (ds : List Death) → length (places_in ds) ≡ length ds
    length_places [] = refl
    length_places (d ∷ ds) = ap suc (length_places ds)

    at : (ds : List Death) (k : ℕ) → k < length ds → get_or (places_in ds) k 0 ≡ (get_or ds k e).0
    at [] k h = absurd (omega arith)
    at (d ∷ ds) zero h = refl
    at (d ∷ ds) (suc k) h = at ds k (omega arith)

    sym_le : get_or (places_in deaths) i 0 ≤ get_or (places_in deaths) j 0 → (get_or deaths i e).0 ≤ (get_or deaths j e).0
    sym_le h = let a = at deaths i (omega arith) in let b = at deaths j lt in omega arith

pub all_below : (deaths : List Death) (n position : ℕ) → n ≤ length deaths → ((k : ℕ) (e : Death) → k < n → nat_lt (get_or deaths k e).0 position ≡ true) → AllByRecursion (λ d. d.0 < position) (take n deaths)
all_below deaths zero position le h = tt
all_below [] (suc n) position le h = tt
all_below (d ∷ deaths) (suc n) position le h = (let f = h 0 d (omega arith) in is_below d.0 position f, all_below deaths n position (omega arith) (λ k e lt. h (suc k) e (omega arith)))
  where
    is_below : (a b : ℕ) → nat_lt a b ≡ true → a < b
    is_below a b f = grind arith

pub all_above : (deaths : List Death) (n position : ℕ) → ((k : ℕ) (e : Death) → n ≤ k → k < length deaths → nat_le (get_or deaths k e).0 position ≡ false) → AllByRecursion (λ d. position < d.0) (drop n deaths)
all_above [] n position h = all_none n
  where
    all_none : (n : ℕ) → AllByRecursion (λ (d : Death). position < d.0) (drop n [])
    all_none zero = tt
    all_none (suc n) = tt
all_above (d ∷ deaths) (suc n) position h = all_above deaths n position (λ k e le lt. h (suc k) e (omega arith) (omega arith))
all_above (d ∷ deaths) zero position h = (let f = h 0 d (omega arith) (omega arith) in is_above d.0 position f, all_above deaths 0 position (λ k e le lt. h (suc k) e (omega arith) (omega arith)))
  where
    is_above : (a b : ℕ) → nat_le a b ≡ false → b < a
    is_above a b f = grind arith

pub places-take : (n : ℕ) (deaths : List Death) → places_in (take n deaths) ≡ take n (places_in deaths)
places-take zero deaths = refl
places-take (suc n) [] = refl
places-take (suc n) (d ∷ deaths) = ap (λ l. d.0 ∷ l) (places-take n deaths)

pub places-drop : (n : ℕ) (deaths : List Death) → places_in (drop n deaths) ≡ drop n (places_in deaths)
places-drop zero deaths = refl
places-drop (suc n) [] = refl
places-drop (suc n) (d ∷ deaths) = places-drop n deaths

-- the deaths from the first position on, and of those the ones up to the last
pub cut_rises : (n m : ℕ) (deaths : List Death) → Climb (places_in deaths) → Climb (places_in (take m (drop n deaths)))
cut_rises n m deaths c = subst Climb (sym (places-take m (drop n deaths) ∙ ap (take m) (places-drop n deaths))) (climb-take m (drop n (places_in deaths)) (climb-drop n (places_in deaths) c))

pub cut_hits : (ps : List ℕ) (marks : List (ℕ × ℕ)) (n m : ℕ) (deaths : List Death) → Climb ps → 0 < length ps → AllByRecursion (λ d. d.0 < get_or ps 0 0) (take n deaths) → AllByRecursion (λ d. get_or ps (length ps - 1) 0 < d.0) (drop m (drop n deaths))
    → hits_of ps marks (take m (drop n deaths)) ≡ hits_of ps marks deaths
cut_hits ps marks n m deaths c some below above =
    hits_below ps marks (drop n deaths) m (get_or ps (length ps - 1) 0) (λ k lt. climbs ps c k (length ps - 1) (omega arith) (omega arith)) above
    ∙ hits_above ps marks deaths n (get_or ps 0 0) c (λ k lt. climbs ps c 0 k (omega arith) lt) below

pub hits_more : (ps : List ℕ) (marks : List (ℕ × ℕ)) (deaths : List Death) (k : ℕ) (e : Death) → k < length deaths → hits_of ps marks (take k deaths) ++ hit_at marks (get_or deaths k e).1 (index_in ps (get_or deaths k e).0) ≡ hits_of ps marks (take (k + 1) deaths)
hits_more ps marks [] k e lt = absurd (omega arith)
hits_more ps marks (d ∷ deaths) zero e lt = sym (append-nil (hit_at marks d.1 (index_in ps d.0)))
hits_more ps marks (d ∷ deaths) (suc k) e lt =
    let s : suc k + 1 ≡ suc (k + 1) = omega arith in
    append_assoc (hit_at marks d.1 (index_in ps d.0)) (hits_of ps marks (take k deaths)) (hit_at marks (get_or deaths k e).1 (index_in ps (get_or deaths k e).0))
    ∙ ap (λ l. hit_at marks d.1 (index_in ps d.0) ++ l) (hits_more ps marks deaths k e (omega arith))
    ∙ ap (λ n. hits_of ps marks (take n (d ∷ deaths))) (sym s)

pub no_rows : (marks : List (ℕ × ℕ)) (deaths : List Death) → [] ≡ hits_of [] marks deaths
no_rows marks [] = refl
no_rows marks (d ∷ deaths) = no_rows marks deaths

pub none_of : (ps : List ℕ) → (length ps == 0) ≡ true → ps ≡ []
none_of [] e = refl
none_of (p ∷ ps) e = absurd (let b : ⊥ = grind arith in b)
