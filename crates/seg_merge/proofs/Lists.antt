-- Items of a list at a place, parts of a list, and items that pass a test.
use Rattle.std.proofs.Common.{◌≡◌, ℕ, zero, suc, ◌+◌, ◌-◌, ◌<◌, ◌≤◌, Bool, true, false, cond, List, [], ◌∷◌, ◌++◌, length, map, take, drop, slice_get, slice_range, Option, Some, None, refl, sym, ap, ap₂, subst, ◌∙◌, inl, inr, arith}
use Rattle.std.specs.Prelude.{slice_index_or}
use Rattle.std.specs.List.{AllByRecursion, filter}
use Rattle.journal_model.specs.Lists.{IsIn}

none_some : {A : Type 0} (x : A) → None ≡ Some x → ⊥
none_some x e = cc

some_same : {A : Type 0} (x y : A) → Some x ≡ Some y → x ≡ y
some_same x y e = cc

-- an item at a place
pub there_is : {A : Type 0} (xs : List A) (i : ℕ) → i < length xs → (x : A) × (slice_get xs i ≡ Some x)
there_is [] i lt = absurd (omega arith)
there_is (x ∷ xs) zero lt = (x, refl)
there_is (x ∷ xs) (suc i) lt = there_is xs i (omega arith)

-- what is read at a place where there is an item
pub read_is : {A B : Type 0} (f : A → B) (xs : List A) (i : ℕ) (x : A) (d : B) → slice_get xs i ≡ Some x → slice_index_or (map f xs) i d ≡ f x
read_is f [] zero x d e = absurd (none_some x e)
read_is f [] (suc i) x d e = absurd (none_some x e)
read_is f (y ∷ xs) zero x d e = ap f (some_same y x e)
read_is f (y ∷ xs) (suc i) x d e = read_is f xs i x d e

pub drop_is : {A : Type 0} (xs : List A) (i : ℕ) (x : A) → slice_get xs i ≡ Some x → drop i xs ≡ x ∷ drop (suc i) xs
drop_is [] zero x e = absurd (none_some x e)
drop_is [] (suc i) x e = absurd (none_some x e)
drop_is (y ∷ xs) zero x e = ap (λ z. z ∷ xs) (some_same y x e)
drop_is (y ∷ xs) (suc i) x e = drop_is xs i x e

-- a part of a list begins with the item at its first place
pub range_first : {A : Type 0} (xs : List A) (i n : ℕ) (d : A) → i < length xs → slice_range xs i (i + suc n) ≡ slice_index_or xs i d ∷ slice_range xs (suc i) (suc i + n)
range_first {A = A} xs i n d lt =
    let k : i + suc n - i ≡ suc n = omega arith in
    let m : suc i + n - suc i ≡ n = omega arith in
    ap₂ (λ k l. take k l) k (drop_read xs i lt) ∙ ap (λ k. slice_index_or xs i d ∷ take k (drop (suc i) xs)) (sym m)
  where
    drop_read : (xs : List A) (i : ℕ) → i < length xs → drop i xs ≡ slice_index_or xs i d ∷ drop (suc i) xs
    drop_read [] i lt = absurd (omega arith)
    drop_read (x ∷ xs) zero lt = refl
    drop_read (x ∷ xs) (suc i) lt = drop_read xs i (omega arith)

pub range_none : {A : Type 0} (xs : List A) (i : ℕ) → slice_range xs i (i + 0) ≡ []
range_none xs i = ap (λ n. take n (drop i xs)) (let e : i + 0 - i ≡ 0 = omega arith in e)

pub filter-append : {X : Type 0} (p : X → Bool) (xs ys : List X) → filter p (xs ++ ys) ≡ filter p xs ++ filter p ys
filter-append p [] ys = refl
filter-append p (x ∷ xs) ys = elim (p x) as (λ b. cond b (x ∷ filter p (xs ++ ys)) (filter p (xs ++ ys)) ≡ cond b (x ∷ filter p xs) (filter p xs) ++ filter p ys) [
  | true ↦ ap (λ l. x ∷ l) (filter-append p xs ys)
  | false ↦ filter-append p xs ys
]

pub all_append : {X : Type 0} (P : X → Type 0) (xs ys : List X) → AllByRecursion P xs → AllByRecursion P ys → AllByRecursion P (xs ++ ys)
all_append P [] ys a b = b
all_append P (x ∷ xs) ys a b = (a.0, all_append P xs ys a.1 b)

pub all_take : {X : Type 0} (P : X → Type 0) (n : ℕ) (xs : List X) → AllByRecursion P xs → AllByRecursion P (take n xs)
all_take P zero xs all = tt
all_take P (suc n) [] all = tt
all_take P (suc n) (x ∷ xs) all = (all.0, all_take P n xs all.1)

pub all_drop : {X : Type 0} (P : X → Type 0) (n : ℕ) (xs : List X) → AllByRecursion P xs → AllByRecursion P (drop n xs)
all_drop P zero xs all = all
all_drop P (suc n) [] all = tt
all_drop P (suc n) (x ∷ xs) all = all_drop P n xs all.1

pub get_in : {A : Type 0} (xs : List A) (i : ℕ) (x : A) → slice_get xs i ≡ Some x → IsIn x xs
get_in [] zero x e = absurd (none_some x e)
get_in [] (suc i) x e = absurd (none_some x e)
get_in (y ∷ xs) zero x e = inl (sym (some_same y x e))
get_in (y ∷ xs) (suc i) x e = inr (get_in xs i x e)
