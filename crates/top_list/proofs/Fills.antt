-- What the steps of a list that is being filled keep: `hits` is its buffer, of which the k least are kept.
use Rattle.std.proofs.Common.{◌≡◌, ℕ, zero, suc, ◌+◌, ◌<◌, ◌≤◌, Bool, true, false, List, [], ◌∷◌, ◌++◌, length, take, get_or, ℤ, Option, Some, None, IfSome, refl, sym, ap, subst, ◌∙◌, append_assoc, append-nil, arith}
use Rattle.std.proofs.lemmas.List.{length-take, take_more}
use Rattle.std.specs.List.{AllByRecursion}
use Rattle.std.specs.Ordering.{int_cmp, is_gt, is_lt, match_ordering, ordering_reverse, ordering_then}
use Rattle.std.specs.declared.cmp.Ordering.{Ordering}
use Rattle.std.specs.declared.cmp.Ordering.TheVariants.{Less, Equal, Greater}
use Rattle.row_types.specs.declared.hits.Distance.TheVariants.{Hamming}
use Rattle.row_types.specs.declared.hits.Hit.{Hit}
use Rattle.row_types.specs.Hits.{value_cmp, parts_cmp, hit_cmp, in_order, least}
use Rattle.row_types.specs.Orders.{hits_total}
use Rattle.row_types.proofs.Least.{least-again, least-then, least-placed}
use Rattle.row_types.proofs.Rising.{placed, take_fewer, AllByRecursion-take}
use Rattle.top_list.specs.Kept.{Kept, IsLast, IsFilling, IsBehindAll, Offered, hits_of, is_after}
use Rattle.top_list.proofs.Laws.{after_last, after_bar}

module _ {K : Type 0} (R : K → K → Ordering) where
  length-placed : (x : K) (ys : List K) → length ys ≤ length (placed R x ys)
  length-placed x [] = omega arith
  length-placed x (y ∷ ys) =
      let rest = length-placed x ys in
      elim (R x y) as (λ r. length (y ∷ ys) ≤ length (match_ordering r (x ∷ y ∷ ys) (y ∷ ys) (y ∷ placed R x ys))) [
        | Less ↦ omega arith
        | Equal ↦ omega arith
        | Greater ↦ omega arith
      ]

  all-placed : (P : K → Type 0) (k : ℕ) (x : K) (ys : List K) → P x → AllByRecursion P (take k ys) → AllByRecursion P (take k (placed R x ys))
  all-placed P zero x ys here h = tt
  all-placed P (suc k) x [] here h = (here, AllByRecursion-take P k [] tt)
  all-placed P (suc k) x (y ∷ ys) here h =
      elim (R x y) as (λ r. AllByRecursion P (take (suc k) (match_ordering r (x ∷ y ∷ ys) (y ∷ ys) (y ∷ placed R x ys)))) [
        | Less ↦ (here, subst (AllByRecursion P) (take_fewer k (suc k) (y ∷ ys) (omega arith)) (AllByRecursion-take P k (take (suc k) (y ∷ ys)) h))
        | Equal ↦ h
        | Greater ↦ (h.0, all-placed P k x ys here h.1)
      ]

gt_reverse : (r : Ordering) → is_gt (ordering_reverse r) ≡ is_lt r
gt_reverse Less = refl
gt_reverse Equal = refl
gt_reverse Greater = refl

-- the last of k stays the last that is known, where a hit that is not behind it is added
IsLast-push : (k : ℕ) (hits : List Hit) (last hit : Hit) → IsLast k hits last → is_lt (hit_cmp last hit) ≡ false → IsLast k (hits ++ hit ∷ []) last
IsLast-push k hits last hit l h =
    let sorted = in_order hit_cmp hits in
    let is : least k (hits ++ hit ∷ []) ≡ take k (placed hit_cmp hit sorted) = least-placed k hits hit in
    let here : is_gt (hit_cmp hit last) ≡ false = ap is_gt (hits_total.antisymm hit last) ∙ gt_reverse (hit_cmp last hit) ∙ h in
    let full : length (take k sorted) ≡ k = l.full in
    let count : length (take k (placed hit_cmp hit sorted)) ≡ k = omega (arith, length-take k sorted, length-take k (placed hit_cmp hit sorted), length-placed hit_cmp hit sorted) in
    record {
      full = ap length is ∙ count;
      behind = subst (AllByRecursion (λ y. is_gt (hit_cmp y last) ≡ false)) (sym is) (all-placed hit_cmp (λ y. is_gt (hit_cmp y last) ≡ false) k hit sorted here l.behind);
    }

bar-push : (k : ℕ) (hits : List Hit) (bar : Option Hit) (hit : Hit) → IfSome bar (IsLast k hits) → is_after bar hit ≡ false → IfSome bar (IsLast k (hits ++ hit ∷ []))
bar-push k hits None hit l h = tt
bar-push k hits (Some last) hit l h = IsLast-push k hits last hit l h

pub IsFilling-push : (k : ℕ) (hits pushed : List Hit) (count more capacity larger : ℕ) (bar : Option Hit) (hit : Hit) (r : Bool) → IsFilling k hits count capacity bar → r ≡ is_after bar hit → r ≡ false → pushed ≡ hits ++ hit ∷ [] → capacity ≤ larger → more < larger → IsFilling k pushed more larger bar
IsFilling-push k hits pushed count more capacity larger bar hit r f is before same room free = record {
  some = f.some;
  room = let h = f.room in omega arith;
  free = free;
  last = subst (λ l. IfSome bar (IsLast k l)) (sym same) (bar-push k hits bar hit f.last (sym is ∙ before));
}

pub offered_behind : (k : ℕ) (hits : List Hit) (bar : Option Hit) (hit : Hit) (r : Bool) → IfSome bar (IsLast k hits) → r ≡ is_after bar hit → r ≡ true → least k hits ≡ least k (least k hits ++ hit ∷ [])
offered_behind k hits bar hit r l is after = sym (least-then k hits (hit ∷ []) ∙ after_bar k hits bar hit l (sym is ∙ after))

pub offered_pushed : (k : ℕ) (hits pushed : List Hit) (hit : Hit) → pushed ≡ hits ++ hit ∷ [] → least k pushed ≡ least k (least k hits ++ hit ∷ [])
offered_pushed k hits pushed hit same = ap (least k) same ∙ sym (least-then k hits (hit ∷ []))

pub offered_cut : (k : ℕ) (hits pushed left : List Hit) (hit : Hit) → pushed ≡ hits ++ hit ∷ [] → left ≡ least k pushed → least k left ≡ least k (least k hits ++ hit ∷ [])
offered_cut k hits pushed left hit same is = ap (least k) is ∙ least-again k pushed ∙ offered_pushed k hits pushed hit same

pub behind_bar : (k : ℕ) (hits : List Hit) (bar : Option Hit) → IfSome bar (IsLast k hits) → IfSome bar (IsBehindAll (record { k = k; hits = least k hits }))
behind_bar k hits None l = tt
behind_bar k hits (Some last) l = λ hit h. least-then k hits (hit ∷ []) ∙ after_last k hits last hit l h

-- a Hamming distance beyond that of the last of k
pub beyond : (k : ℕ) (hits : List Hit) (bar : Option Hit) (last : Hit) (d : ℕ) (key : ℤ) → IfSome bar (IsLast k hits) → bar ≡ Some last → value_cmp last.distance (Hamming d) ≡ Less → least k (least k hits ++ record { distance = Hamming d; key = record { 0 = key } } ∷ []) ≡ least k hits
beyond k hits bar last d key l is h =
    let far : Hit = record { distance = Hamming d; key = record { 0 = key } } in
    let known : IsLast k hits last = subst (λ b. IfSome b (IsLast k hits)) is l in
    let later : hit_cmp last far ≡ Less = ap (λ r. ordering_then r (ordering_then (int_cmp last.key.0 key) (parts_cmp last.distance (Hamming d)))) h in
    least-then k hits (far ∷ []) ∙ after_last k hits last far known later

pub Offered-none : (t : Kept) → t.hits ≡ least t.k t.hits → Offered t t []
Offered-none t own = record { k = refl; hits = own ∙ ap (least t.k) (sym (append-nil t.hits)) }

pub Offered-more : (old now next : Kept) (xs ys : List Hit) → Offered old now xs → next.k ≡ now.k → next.hits ≡ least now.k (now.hits ++ ys) → Offered old next (xs ++ ys)
Offered-more old now next xs ys f same is = record {
  k = same ∙ f.k;
  hits =
      is ∙ (λ i. least (f.k i) (f.hits i ++ ys)) ∙ least-then old.k (old.hits ++ xs) ys ∙ ap (least old.k) (append_assoc old.hits xs ys);
}

-- the hit at i is offered after those before it
pub Offered-next : (old now next : Kept) (hits : List Hit) (i : ℕ) (d : Hit) → Offered old now (take i hits) → i < length hits → next.k ≡ now.k → next.hits ≡ least now.k (now.hits ++ get_or hits i d ∷ []) → Offered old next (take (i + 1) hits)
Offered-next old now next hits i d f below same is =
    subst (Offered old next) (sym (take_more hits i d below)) (Offered-more old now next (take i hits) (get_or hits i d ∷ []) f same is)

hits_of-append : (xs ys : List Kept) → hits_of (xs ++ ys) ≡ hits_of xs ++ hits_of ys
hits_of-append [] ys = refl
hits_of-append (x ∷ xs) ys = ap (λ l. x.hits ++ l) (hits_of-append xs ys) ∙ sym (append_assoc x.hits (hits_of xs) (hits_of ys))

-- the hits of the list at i are offered after those of the lists before it
pub Offered-next_list : (old now next : Kept) (lists : List Kept) (i : ℕ) (kept : Kept) → Offered old now (hits_of (take i lists)) → i < length lists → get_or lists i kept ≡ kept → next.k ≡ now.k → next.hits ≡ least now.k (now.hits ++ kept.hits) → Offered old next (hits_of (take (i + 1) lists))
Offered-next_list old now next lists i kept f below here same is =
    let one : take (i + 1) lists ≡ take i lists ++ kept ∷ [] = take_more lists i kept below ∙ ap (λ h. take i lists ++ h ∷ []) here in
    let more : hits_of (take (i + 1) lists) ≡ hits_of (take i lists) ++ kept.hits = ap hits_of one ∙ hits_of-append (take i lists) (kept ∷ []) ∙ ap (λ l. hits_of (take i lists) ++ l) (append-nil kept.hits) in
    subst (Offered old next) (sym more) (Offered-more old now next (hits_of (take i lists)) kept.hits f same is)
