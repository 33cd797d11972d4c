-- Lists in the order of `in_order`, and their first k items, over any total order in which only equal items tie.
--     placed                    an item in its place in a rising list
--     in_order-cons, -push      one more item
--     in_order-same, -swap      of lists that hold the same items
--     in_order-rises, -of_rising, -again    it rises, and a list that rises stays as it is
--     in_order-from_dedup       a sort and a `dedup` give it
--     first-then, first-both    the first k items of two lists are found from the first k of each
--     placed-behind             an item behind the first k changes none of them
use Rattle.std.proofs.Common.{◌≡◌, ℕ, zero, suc, ◌≤◌, Bool, true, false, cond, ◌||◌, ◌&&◌, T, List, [], ◌∷◌, ◌++◌, map, length, take, Option, Some, None, is_some, refl, sym, ap, ◌∙◌, arith}
use Rattle.std.proofs.lemmas.Cmp.{eq_by_cmp_equiv}
use Rattle.std.proofs.lemmas.List.{nil_from_length, length-map}
use Rattle.std.proofs.lemmas.List.Folds.{list_any-append}
use Rattle.std.proofs.lemmas.List.Kept.{IsStrictlySortedBy-dedup, Contains-dedup, Contains-from_dedup}
use Rattle.std.proofs.lemmas.List.Sorted.{list_any-IsPermutation}
use Rattle.std.proofs.lemmas.Map.Views.{tells_apart, Contains-from_any, list_any-from_Contains}
use Rattle.std.specs.Cmp.{IsTotalOrder, both_ways}
use Rattle.std.specs.FinMap as fin
use Rattle.std.specs.FinMap.{IsAntisymmetric, find, put, is_sorted}
use Rattle.std.specs.FinMap.Entries.{below_all}
use Rattle.std.specs.List.{AllByRecursion, dedup, list_any}
use Rattle.std.specs.List.Sorted.{IsPermutation, IsSorted, IsStrictlySortedBy}
use Rattle.std.specs.Ordering.{eq_by_cmp, is_lt, match_ordering, ordering_reverse}
use Rattle.std.specs.declared.cmp.Ordering.{Ordering}
use Rattle.std.specs.declared.cmp.Ordering.TheVariants.{Less, Equal, Greater}
use Rattle.row_types.specs.Hits.{in_order, with_nothing}

-- an item in its place; one that ties with it stays instead
abbrev pub placed : {K : Type 0} (R : K → K → Ordering) → K → List K → List K
placed R x [] = x ∷ []
placed R x (y ∷ ys) = match_ordering (R x y) (x ∷ y ∷ ys) (y ∷ ys) (y ∷ placed R x ys)

or_swap : (a b : Bool) → (a || b) ≡ (b || a)
or_swap true true = refl
or_swap true false = refl
or_swap false true = refl
or_swap false false = refl

is_less : (r : Ordering) → T (is_lt r) → r ≡ Less
is_less Less h = refl
is_less Equal h = absurd h
is_less Greater h = absurd h

-- what a map to nothing answers at an item that it holds
abbrev held : Bool → Option (Unit {0})
held b = cond b (Some tt) None

is_some-held : (b : Bool) → is_some (held b) ≡ b
is_some-held true = refl
is_some-held false = refl

left_so : (a b : Bool) → T (a && b) → T a
left_so true b h = tt
left_so false b h = absurd h

right_so : (a b : Bool) → T (a && b) → T b
right_so true b h = h
right_so false b h = absurd h

pub take_fewer : {K : Type 0} (j k : ℕ) (xs : List K) → j ≤ k → take j (take k xs) ≡ take j xs
take_fewer zero k xs h = refl
take_fewer (suc j) zero xs h = absurd (omega arith)
take_fewer (suc j) (suc k) [] h = refl
take_fewer (suc j) (suc k) (x ∷ xs) h = ap (λ l. x ∷ l) (take_fewer j k xs (omega arith))

take_behind : {K : Type 0} (k : ℕ) (x : K) (xs : List K) → take k (x ∷ take k xs) ≡ take k (x ∷ xs)
take_behind zero x xs = refl
take_behind (suc k) x xs = ap (λ l. x ∷ l) (take_fewer k (suc k) xs (omega arith))

pub AllByRecursion-take : {K : Type 0} (P : K → Type 0) (k : ℕ) (xs : List K) → AllByRecursion P xs → AllByRecursion P (take k xs)
AllByRecursion-take P zero xs h = tt
AllByRecursion-take P (suc k) [] h = tt
AllByRecursion-take P (suc k) (x ∷ xs) h = (h.0, AllByRecursion-take P k xs h.1)

pub list_any-from_take : {K : Type 0} (p : K → Bool) (k : ℕ) (xs : List K) → list_any p (take k xs) ≡ true → list_any p xs ≡ true
list_any-from_take p zero xs h = cc
list_any-from_take p (suc k) [] h = h
list_any-from_take p (suc k) (x ∷ xs) h =
    elim (p x) as (λ b. (b || list_any p (take k xs)) ≡ true → (b || list_any p xs) ≡ true) [ true ↦ λ e. refl | false ↦ λ e. list_any-from_take p k xs e ] h

module _ {K : Type 0} (R : K → K → Ordering) where
  find-items : (q : K) (xs : List K) → find R q (map with_nothing xs) ≡ held (list_any (eq_by_cmp R q) xs)
  find-items q [] = refl
  find-items q (x ∷ xs) =
      elim (eq_by_cmp R q x) as (λ b. cond b (Some tt) (find R q (map with_nothing xs)) ≡ held (b || list_any (eq_by_cmp R q) xs)) [
        | true ↦ refl
        | false ↦ find-items q xs
      ]

  keys-put : (x : K) (es : List (K × Unit {0})) → map (λ e. e.0) (put R x tt es) ≡ placed R x (map (λ e. e.0) es)
  keys-put x [] = refl
  keys-put x (e ∷ es) =
      elim (R x e.0) as (λ r. map (λ e. e.0) (match_ordering r ((x, tt) ∷ e ∷ es) ((e.0, tt) ∷ es) (e ∷ put R x tt es)) ≡ match_ordering r (x ∷ e.0 ∷ map (λ e. e.0) es) (e.0 ∷ map (λ e. e.0) es) (e.0 ∷ placed R x (map (λ e. e.0) es))) [
        | Less ↦ refl
        | Equal ↦ refl
        | Greater ↦ ap (λ l. e.0 ∷ l) (keys-put x es)
      ]

  take-placed : (k : ℕ) (x : K) (ys : List K) → take k (placed R x (take k ys)) ≡ take k (placed R x ys)
  take-placed zero x ys = refl
  take-placed (suc k) x [] = refl
  take-placed (suc k) x (y ∷ ys) =
      elim (R x y) as (λ r. take (suc k) (match_ordering r (x ∷ y ∷ take k ys) (y ∷ take k ys) (y ∷ placed R x (take k ys))) ≡ take (suc k) (match_ordering r (x ∷ y ∷ ys) (y ∷ ys) (y ∷ placed R x ys))) [
        | Less ↦ ap (λ l. x ∷ l) (take_behind k y ys)
        | Equal ↦ ap (λ l. y ∷ l) (take_fewer k k ys (omega arith))
        | Greater ↦ ap (λ l. y ∷ l) (take-placed k x ys)
      ]

  All-from_below : (x : K) (es : List (K × Unit {0})) → T (below_all R x es) → AllByRecursion (λ y. R x y ≡ Less) (map (λ e. e.0) es)
  All-from_below x [] h = tt
  All-from_below x (e ∷ es) h = (is_less _ (left_so _ _ h), All-from_below x es (right_so _ _ h))

  rises_from_test : (es : List (K × Unit {0})) → T (is_sorted R es) → IsStrictlySortedBy R (map (λ e. e.0) es)
  unfolding IsStrictlySortedBy
  rises_from_test [] h = tt
  rises_from_test (e ∷ es) h = (All-from_below e.0 es (left_so _ _ h), rises_from_test es (right_so _ _ h))

  pub in_order-rises : (xs : List K) → IsStrictlySortedBy R (in_order R xs)
  in_order-rises xs = rises_from_test _ (fin.entries_sorted (fin.from_entries {R = R} (map with_nothing xs)))

  pub rises-take : (k : ℕ) (xs : List K) → IsStrictlySortedBy R xs → IsStrictlySortedBy R (take k xs)
  unfolding IsStrictlySortedBy
  rises-take zero xs h = tt
  rises-take (suc k) [] h = tt
  rises-take (suc k) (x ∷ xs) h = (AllByRecursion-take (λ y. R x y ≡ Less) k xs h.0, rises-take k xs h.1)

  list_any-swap : (p : K → Bool) (xs ys : List K) → list_any p (xs ++ ys) ≡ list_any p (ys ++ xs)
  list_any-swap p xs ys = list_any-append p xs ys ∙ or_swap (list_any p xs) (list_any p ys) ∙ sym (list_any-append p ys xs)

  placed-front : (x : K) (xs : List K) → AllByRecursion (λ y. R x y ≡ Less) xs → placed R x xs ≡ x ∷ xs
  placed-front x [] h = refl
  placed-front x (y ∷ ys) h = ap (λ r. match_ordering r (x ∷ y ∷ ys) (y ∷ ys) (y ∷ placed R x ys)) h.0

module _ {K : Type 0} {R : K → K → Ordering} (o : IsTotalOrder R) where
  pub in_order-cons : (x : K) (xs : List K) → in_order R (x ∷ xs) ≡ placed R x (in_order R xs)
  in_order-cons x xs =
      let m = fin.from_entries {R = R} (map with_nothing xs) in
      ap (map (λ e. e.0)) (fin.entries-insert o m x tt) ∙ keys-put R x (fin.entries m)

  pub in_order-of_rising : (xs : List K) → IsStrictlySortedBy R xs → in_order R xs ≡ xs
  unfolding IsStrictlySortedBy
  in_order-of_rising [] h = nil_from_length _ (length-map (fin.entries (fin.empty {R = R})) (λ e. e.0) ∙ sym (fin.len-entries (fin.empty {R = R})) ∙ fin.len-empty R (Unit {0}))
  in_order-of_rising (x ∷ xs) h = in_order-cons x xs ∙ ap (placed R x) (in_order-of_rising xs h.1) ∙ placed-front R x xs h.0

  pub in_order-again : (xs : List K) → in_order R (in_order R xs) ≡ in_order R xs
  in_order-again xs = in_order-of_rising (in_order R xs) (in_order-rises R xs)

  get-items : (q : K) (xs : List K) → fin.get (fin.from_entries {R = R} (map with_nothing xs)) q ≡ held (list_any (eq_by_cmp R q) xs)
  get-items q xs = fin.get-from_entries o (map with_nothing xs) q ∙ find-items R q xs

  -- it holds what the list holds
  pub list_any-in_order : (q : K) (xs : List K) → list_any (eq_by_cmp R q) (in_order R xs) ≡ list_any (eq_by_cmp R q) xs
  list_any-in_order q xs =
      sym (fin.contains_key-keys (fin.from_entries {R = R} (map with_nothing xs)) q) ∙ ap is_some (get-items q xs) ∙ is_some-held (list_any (eq_by_cmp R q) xs)

  -- y is behind the first k items
  pub placed-behind : (k : ℕ) (x : K) (ys : List K) → length (take k ys) ≡ k → AllByRecursion (λ y. R y x ≡ Less) (take k ys) → take k (placed R x ys) ≡ take k ys
  placed-behind zero x ys full h = refl
  placed-behind (suc k) x [] full h = absurd (omega arith)
  placed-behind (suc k) x (y ∷ ys) full h =
      let later : R x y ≡ Greater = o.antisymm x y ∙ ap ordering_reverse h.0 in
      ap (λ r. take (suc k) (match_ordering r (x ∷ y ∷ ys) (y ∷ ys) (y ∷ placed R x ys))) later
      ∙ ap (λ l. y ∷ l) (placed-behind k x ys (omega arith) h.1)

  module _ (exact : IsAntisymmetric R) where
    pub in_order-same : (xs ys : List K) → ((q : K) → list_any (eq_by_cmp R q) xs ≡ list_any (eq_by_cmp R q) ys) → in_order R xs ≡ in_order R ys
    in_order-same xs ys same =
        ap fin.keys (fin.same_map o exact (fin.from_entries (map with_nothing xs)) (fin.from_entries (map with_nothing ys))
        (λ q. get-items q xs ∙ ap held (same q) ∙ sym (get-items q ys)))

    pub in_order-swap : (xs ys : List K) → in_order R (xs ++ ys) ≡ in_order R (ys ++ xs)
    in_order-swap xs ys = in_order-same (xs ++ ys) (ys ++ xs) (λ q. list_any-swap R (eq_by_cmp R q) xs ys)

    pub in_order-push : (xs : List K) (x : K) → in_order R (xs ++ x ∷ []) ≡ placed R x (in_order R xs)
    in_order-push xs x = in_order-swap xs (x ∷ []) ∙ in_order-cons x xs

    pub in_order-IsPermutation : (xs ys : List K) → IsPermutation xs ys → in_order R xs ≡ in_order R ys
    in_order-IsPermutation xs ys h = in_order-same xs ys (λ q. list_any-IsPermutation (eq_by_cmp R q) xs ys h)

    list_any-dedup : (q : K) (xs : List K) → list_any (eq_by_cmp R q) (dedup (eq_by_cmp R) xs) ≡ list_any (eq_by_cmp R q) xs
    list_any-dedup q xs =
        let e = eq_by_cmp_equiv o in
        let same = tells_apart exact in
        both_ways _ _
        (λ h. list_any-from_Contains e q xs (Contains-from_dedup (eq_by_cmp R) xs q (Contains-from_any same q (dedup (eq_by_cmp R) xs) h)))
        (λ h. list_any-from_Contains e q (dedup (eq_by_cmp R) xs) (Contains-dedup e same xs q (Contains-from_any same q xs h)))

    -- ys are the items xs after a sort
    pub in_order-from_dedup : (xs ys : List K) → IsPermutation xs ys → IsSorted R ys → dedup (eq_by_cmp R) ys ≡ in_order R xs
    in_order-from_dedup xs ys moved rises =
        sym (in_order-of_rising (dedup (eq_by_cmp R) ys) (IsStrictlySortedBy-dedup o (λ x y. refl) ys rises))
        ∙ in_order-same (dedup (eq_by_cmp R) ys) ys (λ q. list_any-dedup q ys)
        ∙ sym (in_order-IsPermutation xs ys moved)

    first-after : (k : ℕ) (ys xs : List K) → take k (in_order R (ys ++ take k (in_order R xs))) ≡ take k (in_order R (ys ++ xs))
    first-after k [] xs =
        ap (take k) (in_order-of_rising (take k (in_order R xs)) (rises-take R k (in_order R xs) (in_order-rises R xs)))
        ∙ take_fewer k k (in_order R xs) (omega arith)
    first-after k (y ∷ ys) xs =
        ap (take k) (in_order-cons y (ys ++ take k (in_order R xs)))
        ∙ sym (take-placed R k y (in_order R (ys ++ take k (in_order R xs))))
        ∙ ap (λ l. take k (placed R y l)) (first-after k ys xs)
        ∙ take-placed R k y (in_order R (ys ++ xs))
        ∙ ap (take k) (sym (in_order-cons y (ys ++ xs)))

    -- the first k items of two lists, from the first k of one of them and the other whole
    pub first-then : (k : ℕ) (xs ys : List K) → take k (in_order R (take k (in_order R xs) ++ ys)) ≡ take k (in_order R (xs ++ ys))
    first-then k xs ys =
        ap (take k) (in_order-swap (take k (in_order R xs)) ys) ∙ first-after k ys xs ∙ ap (take k) (in_order-swap ys xs)

    -- and from the first k of each
    pub first-both : (k : ℕ) (xs ys : List K) → take k (in_order R (take k (in_order R xs) ++ take k (in_order R ys))) ≡ take k (in_order R (xs ++ ys))
    first-both k xs ys = first-then k xs (take k (in_order R ys)) ∙ first-after k xs ys
