-- The k least of some hits, in the words of `Rising`.
--     least-then, -both, -fewer     the k least of two lists, from the k least of one or of each, and from more than k
--     least-same, -swap, -IsPermutation     of lists that hold the same hits
--     least-from_dedup              a sort, a `dedup` and a cut give them
--     least-rises, -of_rising, -again, length-least     what they are
--     least-behind                  a hit behind k others changes nothing
--     IsEachKeyOnce-least           where a key has one distance
use Rattle.std.proofs.Common.{◌≡◌, ℕ, ◌<◌, ◌≤◌, true, List, [], ◌∷◌, ◌++◌, length, take, get_or, sym, ap, subst, ◌∙◌, arith}
use Rattle.std.proofs.lemmas.Cmp.{eq_by_cmp_equiv, tied_itself}
use Rattle.std.proofs.lemmas.List.Elements.{Contains-get_or}
use Rattle.std.proofs.lemmas.List.{length-take}
use Rattle.std.proofs.lemmas.Map.Keys.{Less-from_sorted}
use Rattle.std.proofs.lemmas.Map.Views.{tells_apart, Contains-from_any, list_any-from_Contains}
use Rattle.std.specs.List.{AllByRecursion, Contains, dedup, list_any}
use Rattle.std.specs.List.Sorted.{IsPermutation, IsSorted, IsStrictlySortedBy}
use Rattle.std.specs.Ordering.{eq_by_cmp}
use Rattle.std.specs.declared.cmp.Ordering.TheVariants.{Less, Equal}
use Rattle.row_types.specs.declared.hits.Hit.{Hit}
use Rattle.row_types.specs.Hits.{hit_cmp, in_order, least, IsOneDistanceAKey, IsEachKeyOnce}
use Rattle.row_types.specs.Orders.{hits_total, hits_exact}
use Rattle.row_types.proofs.Rising as rising

pub least-then : (k : ℕ) (xs ys : List Hit) → least k (least k xs ++ ys) ≡ least k (xs ++ ys)
least-then = rising.first-then hits_total hits_exact

pub least-both : (k : ℕ) (xs ys : List Hit) → least k (least k xs ++ least k ys) ≡ least k (xs ++ ys)
least-both = rising.first-both hits_total hits_exact

pub least-fewer : (j k : ℕ) (xs ys : List Hit) → j ≤ k → least j (least k xs ++ ys) ≡ least j (xs ++ ys)
least-fewer j k xs ys h =
    sym (rising.take_fewer j k (in_order hit_cmp (least k xs ++ ys)) h) ∙ ap (take j) (least-then k xs ys) ∙ rising.take_fewer j k (in_order hit_cmp (xs ++ ys)) h

pub least-same : (k : ℕ) (xs ys : List Hit) → ((q : Hit) → list_any (eq_by_cmp hit_cmp q) xs ≡ list_any (eq_by_cmp hit_cmp q) ys) → least k xs ≡ least k ys
least-same k xs ys same = ap (take k) (rising.in_order-same hits_total hits_exact xs ys same)

pub least-swap : (k : ℕ) (xs ys : List Hit) → least k (xs ++ ys) ≡ least k (ys ++ xs)
least-swap k xs ys = ap (take k) (rising.in_order-swap hits_total hits_exact xs ys)

pub least-IsPermutation : (k : ℕ) (xs ys : List Hit) → IsPermutation xs ys → least k xs ≡ least k ys
least-IsPermutation k xs ys moved = ap (take k) (rising.in_order-IsPermutation hits_total hits_exact xs ys moved)

-- ys are the hits xs after a sort
pub least-from_dedup : (k : ℕ) (xs ys : List Hit) → IsPermutation xs ys → IsSorted hit_cmp ys → take k (dedup (eq_by_cmp hit_cmp) ys) ≡ least k xs
least-from_dedup k xs ys moved rises = ap (take k) (rising.in_order-from_dedup hits_total hits_exact xs ys moved rises)

pub least-rises : (k : ℕ) (xs : List Hit) → IsStrictlySortedBy hit_cmp (least k xs)
least-rises k xs = rising.rises-take hit_cmp k (in_order hit_cmp xs) (rising.in_order-rises hit_cmp xs)

pub least-of_rising : (k : ℕ) (xs : List Hit) → IsStrictlySortedBy hit_cmp xs → least k xs ≡ take k xs
least-of_rising k xs h = ap (take k) (rising.in_order-of_rising hits_total xs h)

pub least-again : (k : ℕ) (xs : List Hit) → least k (least k xs) ≡ least k xs
least-again k xs = least-of_rising k (least k xs) (least-rises k xs) ∙ rising.take_fewer k k (in_order hit_cmp xs) (omega arith)

pub length-least : (k : ℕ) (xs : List Hit) → length (least k xs) ≤ k
length-least k xs = omega (arith, length-take k (in_order hit_cmp xs))

-- x is behind each of the k least
pub least-behind : (k : ℕ) (xs : List Hit) (x : Hit) → length (least k xs) ≡ k → AllByRecursion (λ y. hit_cmp y x ≡ Less) (least k xs) → least k (xs ++ x ∷ []) ≡ least k xs
least-behind k xs x full behind =
    ap (take k) (rising.in_order-push hits_total hits_exact xs x) ∙ rising.placed-behind hits_total k x (in_order hit_cmp xs) full behind

pub least-placed : (k : ℕ) (xs : List Hit) (x : Hit) → least k (xs ++ x ∷ []) ≡ take k (rising.placed hit_cmp x (in_order hit_cmp xs))
least-placed k xs x = ap (take k) (rising.in_order-push hits_total hits_exact xs x)

-- each of the k least is one of the hits
pub Contains-from_least : (k : ℕ) (xs : List Hit) (x : Hit) → Contains (least k xs) x → Contains xs x
Contains-from_least k xs x h =
    let equal = eq_by_cmp_equiv hits_total in
    let among : list_any (eq_by_cmp hit_cmp x) (in_order hit_cmp xs) ≡ true = rising.list_any-from_take (eq_by_cmp hit_cmp x) k (in_order hit_cmp xs) (list_any-from_Contains equal x (least k xs) h) in
    Contains-from_any (tells_apart hits_exact) x xs (sym (rising.list_any-in_order hits_total x xs) ∙ among)

same_hit : (x y : Hit) → x.key ≡ y.key → x.distance ≡ y.distance → x ≡ y
same_hit x y key distance = λ i. record { distance = distance i; key = key i }

pub IsEachKeyOnce-least : (k : ℕ) (xs : List Hit) → IsOneDistanceAKey xs → IsEachKeyOnce (least k xs)
IsEachKeyOnce-least k xs one i j d h l same =
    let hits = least k xs in
    let x = get_or hits i d in
    let y = get_or hits j d in
    let below : i < length hits = omega arith in
    let in_x : Contains xs x = Contains-from_least k xs x (Contains-get_or hits i d below) in
    let in_y : Contains xs y = Contains-from_least k xs y (Contains-get_or hits j d l) in
    let tie : hit_cmp x x ≡ Less = subst (λ z. hit_cmp x z ≡ Less) (sym (same_hit x y same (one x y in_x in_y same))) (Less-from_sorted hit_cmp hits i j d (least-rises k xs) h l) in
    let not_less : hit_cmp x x ≡ Equal = tied_itself hits_total x in
    cc
