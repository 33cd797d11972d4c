-- What holds of all rows of a list.
use Rattle.std.proofs.Common.{◌≡◌, ℕ, zero, suc, ◌+◌, ◌<◌, List, [], ◌∷◌, ◌++◌, length, take, get_or, slice_get, Some, sym, subst, add-one, arith}
use Rattle.std.specs.List.{AllByRecursion}
use Rattle.journal_model.specs.Views.{Shown}
use Rattle.flat_scan.proofs.MarkedRows.{take_next}

pub all_append : {X : Type 0} (P : X → Type 0) (xs ys : List X) → AllByRecursion P xs → AllByRecursion P ys → AllByRecursion P (xs ++ ys)
all_append P [] ys a b = b
all_append P (x ∷ xs) ys a b = (a.0, all_append P xs ys a.1 b)

pub all_front : {X : Type 0} (P : X → Type 0) (xs ys : List X) → AllByRecursion P (xs ++ ys) → AllByRecursion P xs
all_front P [] ys a = tt
all_front P (x ∷ xs) ys a = (a.0, all_front P xs ys a.1)

pub all_back : {X : Type 0} (P : X → Type 0) (xs ys : List X) → AllByRecursion P (xs ++ ys) → AllByRecursion P ys
all_back P [] ys a = a
all_back P (x ∷ xs) ys a = all_back P xs ys a.1

pub all_at : {X : Type 0} (P : X → Type 0) (xs : List X) (i : ℕ) (d : X) → AllByRecursion P xs → i < length xs → P (get_or xs i d)
all_at P [] i d a h = absurd (omega arith)
all_at P (x ∷ xs) zero d a h = a.0
all_at P (x ∷ xs) (suc i) d a h = all_at P xs i d a.1 (omega arith)

pub all_map : {X : Type 0} (P Q : X → Type 0) → ((x : X) → P x → Q x) → (xs : List X) → AllByRecursion P xs → AllByRecursion Q xs
all_map P Q f [] a = tt
all_map P Q f (x ∷ xs) a = (f x a.0, all_map P Q f xs a.1)

pub all_next : (P : Shown → Type 0) (rows : List Shown) (i : ℕ) (s : Shown) → slice_get rows i ≡ Some s → AllByRecursion P (take i rows) → P s → AllByRecursion P (take (i + 1) rows)
all_next P rows i s e a h = rw add-one (subst (AllByRecursion P) (sym (take_next rows i s e)) (all_append P (take i rows) (s ∷ []) a (h, tt)))
