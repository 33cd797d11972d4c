-- Lists that rise by a number of each: insertion by that number, and lists that are sorted by it.
use Rattle.std.proofs.Common.{◌≡◌, ◌≢◌, ℕ, zero, suc, ◌+◌, ◌<◌, ◌≤◌, nat_eq, Bool, true, false, cond, List, [], ◌∷◌, length, map, get_or, refl, sym, ap, ap₂, subst, ◌∙◌, ◌⊎◌, inl, inr, ⊎_elim, zero-add, arith}
use Rattle.std.specs.Prelude.{nat_le}
use Rattle.std.specs.List.{AllByRecursion, sum_by}
use Rattle.std.specs.List.Sorted.{IsPermutation, IsNonDecreasingBy}
use Rattle.std.proofs.lemmas.Bool.{cases_eq}
use Rattle.std.proofs.lemmas.List.Sums.{sum_by-cons}
use Rattle.std.proofs.lemmas.List.Sorted.{sum_by-IsPermutation, IsPermutation-sym, All-permutation}
use Rattle.std.proofs.lemmas.List.Elements.{All-from_recursion, recursion_from_All}
use Rattle.journal_model.specs.Lists.{IsIn, insert_by, rising_by}
use Rattle.journal_model.proofs.ListLaws.{all_in, all_from}

yes : (a b : ℕ) → a ≡ b → nat_eq a b ≡ true
yes a b e = grind arith

off : (a b : ℕ) → a ≢ b → nat_eq a b ≡ false
off a b ne = grind arith

-- what holds of each item holds of each in another order
pub all_moved : {X : Type 0} (P : X → Type 0) (xs ys : List X) → IsPermutation xs ys → AllByRecursion P xs → AllByRecursion P ys
all_moved P xs ys moved all = recursion_from_All P ys (All-permutation P xs ys moved (All-from_recursion P xs all))

module _ {X : Type 0} (at : X → ℕ) where
  -- ---- insertion

  pub insert_all : (P : X → Type 0) (x : X) (xs : List X) → P x → AllByRecursion P xs → AllByRecursion P (insert_by at x xs)
  insert_all P x [] p all = (p, tt)
  insert_all P x (y ∷ ys) p all = elim (nat_le (at x) (at y)) as (λ b. AllByRecursion P (cond b (x ∷ y ∷ ys) (y ∷ insert_by at x ys))) [
    | true ↦ (p, all)
    | false ↦ (all.0, insert_all P x ys p all.1)
  ]

  pub rising_all : (P : X → Type 0) (xs : List X) → AllByRecursion P xs → AllByRecursion P (rising_by at xs)
  rising_all P [] all = tt
  rising_all P (x ∷ xs) all = insert_all P x (rising_by at xs) all.0 (rising_all P xs all.1)

  in_insert : (z x : X) (xs : List X) → (z ≡ x) ⊎ IsIn z xs → IsIn z (insert_by at x xs)
  in_insert z x [] h = h
  in_insert z x (y ∷ ys) h = elim (nat_le (at x) (at y)) as (λ b. IsIn z (cond b (x ∷ y ∷ ys) (y ∷ insert_by at x ys))) [
    | true ↦ h
    | false ↦ ⊎_elim (λ e. inr (in_insert z x ys (inl e))) (λ i. ⊎_elim (λ e. inl e) (λ j. inr (in_insert z x ys (inr j))) i) h
  ]

  in_rising : (z : X) (xs : List X) → IsIn z xs → IsIn z (rising_by at xs)
  in_rising z [] i = i
  in_rising z (x ∷ xs) i = in_insert z x (rising_by at xs) (⊎_elim (λ e. inl e) (λ j. inr (in_rising z xs j)) i)

  -- ---- lists that rise strictly

  abbrev pub RisesBy : List X → Type 0
  RisesBy [] = Unit {0}
  RisesBy (x ∷ xs) = AllByRecursion (λ y. at x < at y) xs × RisesBy xs

  narrowed : (x y : X) (xs ys : List X) → at x ≡ at y → AllByRecursion (λ z. at x < at z) xs → AllByRecursion (λ z. IsIn z (y ∷ ys)) xs → AllByRecursion (λ z. IsIn z ys) xs
  narrowed x y [] ys e low all = tt
  narrowed x y (z ∷ xs) ys e low all = (
    ⊎_elim (λ h. absurd (let l = low.0 in let f = ap at h in omega arith)) (λ h. h) all.0,
    narrowed x y xs ys e low.1 all.1,
  )

  -- two lists that rise and have the same items are equal
  same_rising : (xs ys : List X) → RisesBy xs → RisesBy ys → AllByRecursion (λ z. IsIn z ys) xs → AllByRecursion (λ z. IsIn z xs) ys → xs ≡ ys
  same_rising [] [] a b c d = refl
  same_rising [] (y ∷ ys) a b c d = absurd d.0
  same_rising (x ∷ xs) [] a b c d = absurd c.0
  same_rising (x ∷ xs) (y ∷ ys) a b c d =
      let first : x ≡ y = ⊎_elim (λ h. h) (λ h. ⊎_elim (λ k. sym k) (λ k. absurd (
      let low : at y < at x = all_in (λ z. at y < at z) ys x b.0 h in
      let high : at x < at y = all_in (λ z. at x < at z) xs y a.0 k in omega arith)) d.0) c.0 in
      ap₂ (λ z zs. z ∷ zs) first (same_rising xs ys a.1 b.1 (narrowed x y xs ys (ap at first) a.0 c.1) (narrowed y x ys xs (sym (ap at first)) b.0 d.1))

  -- ---- how many have a number

  abbrev pub here : ℕ → X → ℕ
  here n z = cond (nat_eq (at z) n) 1 0

  pub counted-hit : (n : ℕ) (x : X) (xs : List X) → at x ≡ n → sum_by (here n) (x ∷ xs) ≡ suc (sum_by (here n) xs)
  counted-hit n x xs e =
      let a = sum_by-cons (here n) x xs in
      let b : here n x ≡ 1 = ap (λ b. cond {A = ℕ} b 1 0) (yes (at x) n e) in
      omega arith

  pub counted-miss : (n : ℕ) (x : X) (xs : List X) → at x ≢ n → sum_by (here n) (x ∷ xs) ≡ sum_by (here n) xs
  counted-miss n x xs ne =
      let a = sum_by-cons (here n) x xs in
      let b : here n x ≡ 0 = ap (λ b. cond {A = ℕ} b 1 0) (off (at x) n ne) in
      omega arith

  tail_counted : (n : ℕ) (x : X) (xs : List X) → sum_by (here n) xs ≤ sum_by (here n) (x ∷ xs)
  tail_counted n x xs = let a = sum_by-cons (here n) x xs in omega arith

  pub none_counted : (n : ℕ) (xs : List X) → AllByRecursion (λ y. at y ≢ n) xs → sum_by (here n) xs ≡ 0
  none_counted n [] all = refl
  none_counted n (x ∷ xs) all = counted-miss n x xs all.0 ∙ none_counted n xs all.1

  above : (n : ℕ) (xs : List X) → ((j : ℕ) (d : X) → j < length xs → n ≤ at (get_or xs j d)) → sum_by (here n) xs ≡ 0 → AllByRecursion (λ y. n < at y) xs
  above n [] up none = tt
  above n (x ∷ xs) up none =
      let low : n ≤ at x = up 0 x (omega arith) in
      let apart : at x ≢ n = λ e. let a = counted-hit n x xs e in absurd (omega arith) in
      let rest : sum_by (here n) xs ≡ 0 = let a = tail_counted n x xs in omega arith in
      (omega arith, above n xs (λ j d lt. up (suc j) d (omega arith)) rest)

  -- a list that does not fall, and in which no number stands twice, rises
  rises_sorted : (xs : List X) → IsNonDecreasingBy at xs → ((n : ℕ) → sum_by (here n) xs ≤ 1) → RisesBy xs
  rises_sorted [] up few = tt
  rises_sorted (x ∷ xs) up few =
      let none : sum_by (here (at x)) xs ≡ 0 = let a = counted-hit (at x) x xs refl in let b = few (at x) in omega arith in
      (above (at x) xs (λ j d lt. up 0 (suc j) d (omega arith) (omega arith)) none, rises_sorted xs (λ i j d le lt. up (suc i) (suc j) d (omega arith) (omega arith)) (λ n. let a = tail_counted n x xs in let b = few n in omega arith))

  -- what a sort by the number gives of items of which no two have one number
  pub sorted_rising : (xs ys : List X) → ((n : ℕ) → sum_by (here n) xs ≤ 1) → RisesBy (rising_by at xs) → IsPermutation xs ys → IsNonDecreasingBy at ys → ys ≡ rising_by at xs
  sorted_rising xs ys few rises moved up =
      let few_sorted : (n : ℕ) → sum_by (here n) ys ≤ 1 = λ n. let a = sum_by-IsPermutation (here n) xs ys moved in let b = few n in omega arith in
      let there : AllByRecursion (λ z. IsIn z (rising_by at xs)) ys = all_moved (λ z. IsIn z (rising_by at xs)) xs ys moved (all_from (λ z. IsIn z (rising_by at xs)) xs (λ z i. in_rising z xs i)) in
      let back : AllByRecursion (λ z. IsIn z ys) xs = all_moved (λ z. IsIn z ys) ys xs (IsPermutation-sym xs ys moved) (all_from (λ z. IsIn z ys) ys (λ z i. i)) in
      same_rising ys (rising_by at xs) (rises_sorted ys up few_sorted) rises there (rising_all (λ z. IsIn z ys) xs back)

-- insertion by a number goes through a map that keeps the number
module _ {X Y : Type 0} (f : X → Y) (at : X → ℕ) (to : Y → ℕ) (same : (x : X) → to (f x) ≡ at x) where
  insert-map : (x : X) (xs : List X) → map f (insert_by at x xs) ≡ insert_by to (f x) (map f xs)
  insert-map x [] = refl
  insert-map x (y ∷ ys) =
      ap₂ (λ a b. map f (cond (nat_le a b) (x ∷ y ∷ ys) (y ∷ insert_by at x ys))) (sym (same x)) (sym (same y))
      ∙ elim (nat_le (to (f x)) (to (f y))) as (λ b. map f (cond b (x ∷ y ∷ ys) (y ∷ insert_by at x ys)) ≡ cond b (f x ∷ f y ∷ map f ys) (f y ∷ insert_by to (f x) (map f ys))) [
        | true ↦ refl
        | false ↦ ap (λ l. f y ∷ l) (insert-map x ys)
      ]

  pub rising-map : (xs : List X) → map f (rising_by at xs) ≡ rising_by to (map f xs)
  rising-map [] = refl
  rising-map (x ∷ xs) = insert-map x (rising_by at xs) ∙ ap (insert_by to (f x)) (rising-map xs)
