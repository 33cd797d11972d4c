-- What a push, a cut, a search and a skip do to the k least.
use Rattle.std.proofs.Common.{◌≡◌, ℕ, zero, suc, ◌+◌, ◌-◌, ◌<◌, ◌≤◌, Bool, true, false, List, [], ◌∷◌, ◌++◌, length, take, get_or, Option, Some, None, MatchOption, IfSome, Err, ◌||◌, refl, sym, ap, subst, ◌∙◌, arith}
use Rattle.std.proofs.lemmas.Cmp.{tied_itself}
use Rattle.std.proofs.lemmas.List.Folds.{list_any-append, list_any_at}
use Rattle.std.proofs.lemmas.List.Sorted.{searchable_from_sorted}
use Rattle.std.proofs.lemmas.Map.Keys.{Less-from_sorted}
use Rattle.std.specs.Cmp.{IsTotalOrder}
use Rattle.std.specs.List.{AllByRecursion, HoldsAt, slice_get, insert}
use Rattle.std.specs.List.Sorted.{IsStrictlySortedBy, IsSorted, IsPartitionPoint, IsBinarySearchResult}
use Rattle.std.specs.Ordering.{eq_by_cmp, is_gt, is_lt, match_ordering, ordering_reverse}
use Rattle.std.specs.declared.cmp.Ordering.{Ordering}
use Rattle.std.specs.declared.cmp.Ordering.TheVariants.{Less, Equal, Greater}
use Rattle.row_types.specs.declared.hits.Hit.{Hit}
use Rattle.row_types.specs.Hits.{hit_cmp, least, IsOneDistanceAKey, IsEachKeyOnce}
use Rattle.row_types.specs.Orders.{hits_total, hits_exact}
use Rattle.row_types.proofs.Least.{length-least, least-rises, least-behind, least-of_rising, least-again, least-same, least-placed, IsEachKeyOnce-least}
use Rattle.row_types.proofs.Rising.{placed, in_order-of_rising}
use Rattle.top_list.specs.Kept.{IsLast, is_after}

same_some : {A : Type 0} (x y : A) → Some x ≡ Some y → x ≡ y
same_some x y e = cc

at_place : {K : Type 0} (P : K → Type 0) (xs : List K) (n : ℕ) (x : K) → AllByRecursion P xs → slice_get xs n ≡ Some x → P x
at_place P [] n x h e = absurd cc
at_place P (y ∷ ys) zero x h e = subst P (same_some y x e) h.0
at_place P (y ∷ ys) (suc n) x h e = at_place P ys n x h.1 e

-- in a list that rises nothing comes after the last item
none_after_last : {K : Type 0} {R : K → K → Ordering} → IsTotalOrder R → (xs : List K) (n : ℕ) (last : K) → IsStrictlySortedBy R xs → length xs ≡ suc n → slice_get xs n ≡ Some last → AllByRecursion (λ y. is_gt (R y last) ≡ false) xs
unfolding IsStrictlySortedBy
none_after_last o [] n last h len e = tt
none_after_last {R = R} o (x ∷ []) zero last h len e = (subst (λ z. is_gt (R x z) ≡ false) (same_some x last e) (ap is_gt (tied_itself o x)), tt)
none_after_last o (x ∷ []) (suc n) last h len e = absurd (omega arith)
none_after_last o (x ∷ y ∷ ys) zero last h len e = absurd (omega arith)
none_after_last {R = R} o (x ∷ y ∷ ys) (suc n) last h len e =
    (ap is_gt (at_place (λ z. R x z ≡ Less) (y ∷ ys) n last h.0 e), none_after_last o (y ∷ ys) n last h.1 (omega arith) e)

past_end : {K : Type 0} (xs : List K) (n : ℕ) → slice_get xs n ≡ None → length xs ≤ n
past_end [] n e = omega arith
past_end (x ∷ xs) zero e = absurd cc
past_end (x ∷ xs) (suc n) e = let h = past_end xs n e in omega arith

pub rises_from_own : (k : ℕ) (hits : List Hit) → least k hits ≡ hits → IsStrictlySortedBy hit_cmp hits
rises_from_own k hits own = subst (IsStrictlySortedBy hit_cmp) own (least-rises k hits)

IsLast-from_place : (k : ℕ) (hits : List Hit) (last : Hit) → 0 < k → least k hits ≡ hits → k ≤ length hits → slice_get hits (length hits - 1) ≡ Some last → IsLast k hits last
IsLast-from_place k hits last some own enough e =
    let few = length-least k hits in
    let same : length (least k hits) ≡ length hits = ap length own in
    let count : length hits ≡ suc (length hits - 1) = omega arith in
    record {
      full = omega arith;
      behind = subst (AllByRecursion (λ y. is_gt (hit_cmp y last) ≡ false)) (sym own) (none_after_last hits_total hits (length hits - 1) last (rises_from_own k hits own) count e);
    }

-- what `last_of` answers where there are k hits
pub last_where_full : (k : ℕ) (hits : List Hit) (r : Option Hit) → 0 < k → least k hits ≡ hits → k ≤ length hits → r ≡ slice_get hits (length hits - 1) → MatchOption r (length hits < k) (IsLast k hits)
last_where_full k hits None some own enough e = let h = past_end hits (length hits - 1) (sym e) in omega arith
last_where_full k hits (Some last) some own enough e = IsLast-from_place k hits last some own enough (sym e)

module _ {K : Type 0} {R : K → K → Ordering} (o : IsTotalOrder R) where
  not_after-then : (y l x : K) (r : Ordering) → R y l ≡ r → is_gt r ≡ false → R l x ≡ Less → R y x ≡ Less
  not_after-then y l x Less p h q = o.trans y l x p q
  not_after-then y l x Equal p h q = o.congr y l x p ∙ q
  not_after-then y l x Greater p h q = absurd cc

  all_before : (l x : K) → R l x ≡ Less → (ys : List K) → AllByRecursion (λ y. is_gt (R y l) ≡ false) ys → AllByRecursion (λ y. R y x ≡ Less) ys
  all_before l x q [] h = tt
  all_before l x q (y ∷ ys) h = (not_after-then y l x (R y l) refl h.0 q, all_before l x q ys h.1)

  placed-at : (x : K) (ys : List K) (i : ℕ) → IsPartitionPoint (λ y. R y x ≡ Less) (λ y. R y x ≡ Greater) ys i → placed R x ys ≡ insert ys i x
  placed-at x [] zero h = refl
  placed-at x [] (suc i) h = refl
  placed-at x (y ∷ ys) zero h =
      let before : R x y ≡ Less = o.antisymm x y ∙ ap ordering_reverse (h.1 0 y (omega arith) (omega arith)) in
      ap (λ r. match_ordering r (x ∷ y ∷ ys) (y ∷ ys) (y ∷ placed R x ys)) before
  placed-at x (y ∷ ys) (suc i) h =
      let after : R x y ≡ Greater = o.antisymm x y ∙ ap ordering_reverse (h.0 0 y (omega arith) (omega arith)) in
      ap (λ r. match_ordering r (x ∷ y ∷ ys) (y ∷ ys) (y ∷ placed R x ys)) after
      ∙ ap (λ l. y ∷ l) (placed-at x ys i (λ k d lo hi. h.0 (suc k) d (omega arith) (omega arith), λ k d lo hi. h.1 (suc k) d (omega arith) (omega arith)))

  sorted_from_rising : (xs : List K) → IsStrictlySortedBy R xs → IsSorted R xs
  sorted_from_rising xs h k d lo hi =
      ap is_lt (o.antisymm (get_or xs (k + 1) d) (get_or xs k d) ∙ ap ordering_reverse (Less-from_sorted R xs k (k + 1) d h (omega arith) hi))

-- a hit that comes after the last of k changes nothing
pub after_last : (k : ℕ) (hits : List Hit) (last hit : Hit) → IsLast k hits last → hit_cmp last hit ≡ Less → least k (hits ++ hit ∷ []) ≡ least k hits
after_last k hits last hit l h = least-behind k hits hit l.full (all_before hits_total last hit h (least k hits) l.behind)

less : (r : Ordering) → is_lt r ≡ true → r ≡ Less
less Less h = refl
less Equal h = absurd cc
less Greater h = absurd cc

pub after_bar : (k : ℕ) (hits : List Hit) (bar : Option Hit) (hit : Hit) → IfSome bar (IsLast k hits) → is_after bar hit ≡ true → least k (hits ++ hit ∷ []) ≡ least k hits
after_bar k hits None hit l h = absurd cc
after_bar k hits (Some last) hit l h = after_last k hits last hit l (less _ h)

-- where a binary search finds a place
pub placed_by_search : (k : ℕ) (hits : List Hit) (hit : Hit) (i : ℕ) → least k hits ≡ hits → IsBinarySearchResult (λ y. hit_cmp y hit) hits (Err i) → take k (insert hits i hit) ≡ least k (hits ++ hit ∷ [])
placed_by_search k hits hit i own found =
    let rises = rises_from_own k hits own in
    let place = found (searchable_from_sorted hits_total (λ y. y) hits hit (sorted_from_rising hits_total hits rises)) in
    sym (least-placed k hits hit
    ∙ ap (λ l. take k (placed hit_cmp hit l)) (in_order-of_rising hits_total hits rises)
    ∙ ap (take k) (placed-at hits_total hit hits i place))

or_false : (a b : Bool) → (b ≡ true → a ≡ true) → (a || (b || false)) ≡ a
or_false true b h = refl
or_false false true h = sym (h refl)
or_false false false h = refl

-- where it finds the hit itself
pub held_already : (k : ℕ) (hits : List Hit) (hit : Hit) (i : ℕ) → i < length hits → HoldsAt (λ y. hit_cmp y hit ≡ Equal) hits i → least k (hits ++ hit ∷ []) ≡ least k hits
held_already k hits hit i l at =
    least-same k (hits ++ hit ∷ []) hits (λ q.
    list_any-append (eq_by_cmp hit_cmp q) hits (hit ∷ [])
    ∙ or_false _ _ (λ h. list_any_at (eq_by_cmp hit_cmp q) hits i hit l (subst (λ y. eq_by_cmp hit_cmp q y ≡ true) (sym (hits_exact _ _ (at hit))) h)))

if_some : {A : Type 0} (P : Type 0) (Q : A → Type 0) (r : Option A) → MatchOption r P Q → IfSome r Q
if_some P Q None h = tt
if_some P Q (Some x) h = h

-- the three ends of `place`, where `seen` is the buffer as a slice
pub placed_behind : (k : ℕ) (hits seen : List Hit) (bar : Option Hit) (hit : Hit) (r : Bool) → seen ≡ hits → least k hits ≡ hits → MatchOption bar (length seen < k) (IsLast k seen) → r ≡ is_after bar hit → r ≡ true → hits ≡ least k (hits ++ hit ∷ [])
placed_behind k hits seen bar hit r same own last is true_so =
    let at_hits : IfSome bar (IsLast k hits) = subst (λ l. IfSome bar (IsLast k l)) same (if_some _ (IsLast k seen) bar last) in
    sym own ∙ sym (after_bar k hits bar hit at_hits (sym is ∙ true_so))

pub placed_at : (k : ℕ) (hits seen : List Hit) (hit : Hit) (i : ℕ) (put cut : List Hit) → seen ≡ hits → least k hits ≡ hits → IsBinarySearchResult (λ y. hit_cmp y hit) seen (Err i) → put ≡ insert hits i hit → cut ≡ take k put → cut ≡ least k (hits ++ hit ∷ [])
placed_at k hits seen hit i put cut same own found is_put is_cut =
    is_cut ∙ ap (take k) is_put ∙ placed_by_search k hits hit i own (subst (λ l. IsBinarySearchResult (λ y. hit_cmp y hit) l (Err i)) same found)

pub placed_already : (k : ℕ) (hits seen : List Hit) (hit : Hit) (i : ℕ) → seen ≡ hits → least k hits ≡ hits → i < length seen → HoldsAt (λ y. hit_cmp y hit ≡ Equal) seen i → hits ≡ least k (hits ++ hit ∷ [])
placed_already k hits seen hit i same own l at =
    let below : i < length hits = subst (λ s. i < length s) same l in
    sym own ∙ sym (held_already k hits hit i below (subst (λ s. HoldsAt (λ y. hit_cmp y hit ≡ Equal) s i) same at))

-- what a cut leaves is its own cut
pub own_from_least : (k : ℕ) (xs ys seen : List Hit) → seen ≡ ys → ys ≡ least k xs → least k seen ≡ seen
own_from_least k xs ys seen same is = let e : seen ≡ least k xs = same ∙ is in ap (least k) e ∙ least-again k xs ∙ sym e

pub each_key_from_least : (k : ℕ) (xs ys : List Hit) → ys ≡ least k xs → IsOneDistanceAKey xs → IsEachKeyOnce ys
each_key_from_least k xs ys is one = subst IsEachKeyOnce (sym is) (IsEachKeyOnce-least k xs one)

pub each_key_from_own : (k : ℕ) (hits : List Hit) → least k hits ≡ hits → IsOneDistanceAKey hits → IsEachKeyOnce hits
each_key_from_own k hits own = each_key_from_least k hits hits (sym own)

rises_empty : IsStrictlySortedBy hit_cmp []
unfolding IsStrictlySortedBy
rises_empty = tt

take_empty : {K : Type 0} (k : ℕ) (xs : List K) → xs ≡ [] → take k xs ≡ xs
take_empty zero xs e = sym e
take_empty (suc k) xs e = ap (take (suc k)) e ∙ sym e

pub own_empty : (k : ℕ) (hits : List Hit) → hits ≡ [] → least k hits ≡ hits
own_empty k hits e = least-of_rising k hits (subst (IsStrictlySortedBy hit_cmp) (sym e) rises_empty) ∙ take_empty k hits e
