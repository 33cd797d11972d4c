-- Lists in the order of a number, and filters.
use Rattle.std.proofs.Common.{◌≡◌, ℕ, ◌≤◌, Bool, true, false, cond, List, [], ◌∷◌, refl, sym, ap, ◌∙◌, arith, le-leb, leb-true, leb-false}
use Rattle.std.specs.Prelude.{nat_le}
use Rattle.std.specs.List.{filter, AllByRecursion}
use Rattle.log_model.proofs.LogLaws.{each_implied}
use Rattle.log_model.proofs.Dimensions.{each-filter}
use Rattle.journal_model.specs.Lists.{insert_by, rising_by}

module _ {X : Type 0} (at : X → ℕ) where
  abbrev pub Rises : List X → Type 0
  Rises [] = Unit {0}
  Rises (x ∷ xs) = AllByRecursion (λ y. at x ≤ at y) xs × Rises xs

  insert-front : (x : X) (xs : List X) → AllByRecursion (λ y. at x ≤ at y) xs → insert_by at x xs ≡ x ∷ xs
  insert-front x [] a = refl
  insert-front x (y ∷ ys) a = ap (λ b. cond b (x ∷ y ∷ ys) (y ∷ insert_by at x ys)) (le-leb (at x) (at y) a.0)

  pub rising_by-of_rising : (xs : List X) → Rises xs → rising_by at xs ≡ xs
  rising_by-of_rising [] a = refl
  rising_by-of_rising (x ∷ xs) a = ap (insert_by at x) (rising_by-of_rising xs a.1) ∙ insert-front x xs a.0

  each-insert : (P : X → Type 0) (x : X) (ys : List X) → P x → AllByRecursion P ys → AllByRecursion P (insert_by at x ys)
  each-insert P x [] h a = (h, tt)
  each-insert P x (y ∷ ys) h a =
      let rest = each-insert P x ys h a.1 in
      elim (nat_le (at x) (at y)) as (λ b. AllByRecursion P (cond b (x ∷ y ∷ ys) (y ∷ insert_by at x ys))) [ true ↦ (h, a) | false ↦ (a.0, rest) ]

  rises-insert : (x : X) (ys : List X) → Rises ys → Rises (insert_by at x ys)
  rises-insert x [] a = (tt, tt)
  rises-insert x (y ∷ ys) a =
      elim (nat_le (at x) (at y)) as (λ b. nat_le (at x) (at y) ≡ b → Rises (cond b (x ∷ y ∷ ys) (y ∷ insert_by at x ys))) [
        | true ↦ λ t. let le : at x ≤ at y = leb-true (at x) (at y) t in ((le, each_implied _ _ (λ z h. omega arith) ys a.0), a)
        | false ↦ λ t. let gt = leb-false (at x) (at y) t in (each-insert (λ z. at y ≤ at z) x ys (omega arith) a.0, rises-insert x ys a.1)
      ] refl

  pub rises-rising_by : (xs : List X) → Rises (rising_by at xs)
  rises-rising_by [] = tt
  rises-rising_by (x ∷ xs) = rises-insert x (rising_by at xs) (rises-rising_by xs)

  pub rises-filter : (p : X → Bool) (xs : List X) → Rises xs → Rises (filter p xs)
  rises-filter p [] a = tt
  rises-filter p (x ∷ xs) a =
      let rest = rises-filter p xs a.1 in
      elim (p x) as (λ b. Rises (cond b (x ∷ filter p xs) (filter p xs))) [ true ↦ (each-filter (λ y. at x ≤ at y) p xs a.0, rest) | false ↦ rest ]

  filter-insert : (p : X → Bool) (x : X) (ys : List X) → Rises ys → filter p (insert_by at x ys) ≡ cond (p x) (insert_by at x (filter p ys)) (filter p ys)
  filter-insert p x [] a = refl
  filter-insert p x (y ∷ ys) a =
      elim (nat_le (at x) (at y)) as (λ b. nat_le (at x) (at y) ≡ b → filter p (cond b (x ∷ y ∷ ys) (y ∷ insert_by at x ys)) ≡ cond (p x) (insert_by at x (filter p (y ∷ ys))) (filter p (y ∷ ys))) [
        | true ↦ λ t.
            let le : at x ≤ at y = leb-true (at x) (at y) t in
            ap (λ l. cond (p x) l (filter p (y ∷ ys))) (sym (insert-front x (filter p (y ∷ ys)) (each-filter (λ z. at x ≤ at z) p (y ∷ ys) (le, each_implied _ _ (λ z h. omega arith) ys a.0))))
        | false ↦ λ t.
            let rest = filter-insert p x ys a.1 in
            elim (p y) as (λ c. cond c (y ∷ filter p (insert_by at x ys)) (filter p (insert_by at x ys)) ≡ cond (p x) (insert_by at x (cond c (y ∷ filter p ys) (filter p ys))) (cond c (y ∷ filter p ys) (filter p ys))) [
              | true ↦
                  ap (λ l. y ∷ l) rest
                  ∙ elim (p x) as (λ d. y ∷ cond d (insert_by at x (filter p ys)) (filter p ys) ≡ cond d (insert_by at x (y ∷ filter p ys)) (y ∷ filter p ys)) [
                    | true ↦ ap (λ b. cond b (x ∷ y ∷ filter p ys) (y ∷ insert_by at x (filter p ys))) (sym t)
                    | false ↦ refl
                  ]
              | false ↦ rest
            ]
      ] refl

  pub filter-rising_by : (p : X → Bool) (xs : List X) → filter p (rising_by at xs) ≡ rising_by at (filter p xs)
  filter-rising_by p [] = refl
  filter-rising_by p (x ∷ xs) =
      filter-insert p x (rising_by at xs) (rises-rising_by xs)
      ∙ ap (λ l. cond (p x) (insert_by at x l) l) (filter-rising_by p xs)
      ∙ elim (p x) as (λ b. cond b (insert_by at x (rising_by at (filter p xs))) (rising_by at (filter p xs)) ≡ rising_by at (cond b (x ∷ filter p xs) (filter p xs))) [ true ↦ refl | false ↦ refl ]
