-- One more row in a column of words, and rows moved from the front of a tail.
use Rattle.std.proofs.Common.{◌≡◌, ℕ, zero, suc, ◌+◌, ◌*◌, ◌≤◌, ◌<◌, List, [], ◌∷◌, ◌++◌, length, map, take, drop, get_or, refl, sym, ap, subst, ◌∙◌, arith, append_assoc, length-append}
use Rattle.std.proofs.lemmas.List.{take-append-le, drop-append-le, take-append-drop, take_all, drop_all}
use Rattle.std.specs.List.{AllByRecursion}
use Rattle.row_types.specs.Bits.{AreWordsOf}
use Rattle.log_model.specs.Places.{Placed, width_of, vector_of, IsColumn}
use Rattle.growing_segment.specs.Tails.{HasDimension}

pub words_fill : (bits : List Rattle.std.proofs.Common.Bool) (words : List ℕ) → AreWordsOf bits words → length words ≡ width_of (length bits)
words_fill bits words are =
    let enough = are.packed.enough in
    let few = are.packed.few in
    omega arith

-- a row's words behind those of the rows before it
pub column-push : (width : ℕ) (rows : List Placed) (x : Placed) (words more : List ℕ) → AreWordsOf x.row.vector more → length more ≡ width → IsColumn width (map vector_of rows) words → IsColumn width (map vector_of (rows ++ x ∷ [])) (words ++ more)
column-push width [] x words more are long c =
    rw c (omega arith, rw (take_all width more (omega arith)) are, drop_all width more (omega arith))
column-push width (y ∷ rows) x words more are long c =
    let fits : width ≤ length words = c.0 in (
      omega (arith, length-append words more),
      rw (take-append-le width words more fits) c.1,
      rw (drop-append-le width words more fits) (column-push width rows x (drop width words) more are long c.2),
    )

pub column-more : (width n : ℕ) (rows : List Placed) (x : Placed) (before words : List ℕ) → take n words ≡ before → AreWordsOf x.row.vector (drop n words) → width_of (length x.row.vector) ≡ width → IsColumn width (map vector_of rows) before → IsColumn width (map vector_of (rows ++ x ∷ [])) words
column-more width n rows x before words front are long c =
    subst (IsColumn width (map vector_of (rows ++ x ∷ []))) (take-append-drop n words)
    (column-push width rows x (take n words) (drop n words) are (words_fill _ _ are ∙ long) (subst (IsColumn width (map vector_of rows)) (sym front) c))

-- the dimension of the first row, which is that of all
abbrev pub first_dim : List Placed → ℕ
first_dim [] = 0
first_dim (x ∷ rows) = length x.row.vector

pub first_dim_is : (dim : ℕ) (rows : List Placed) → 0 < length rows → AllByRecursion (HasDimension dim) rows → first_dim rows ≡ dim
first_dim_is dim [] h fit = absurd (omega arith)
first_dim_is dim (x ∷ rows) h fit = fit.0

pub all_take : {X : Type 0} (P : X → Type 0) (n : ℕ) (xs : List X) → AllByRecursion P xs → AllByRecursion P (take n xs)
all_take P zero xs a = tt
all_take P (suc n) [] a = tt
all_take P (suc n) (x ∷ xs) a = (a.0, all_take P n xs a.1)

pub all_drop : {X : Type 0} (P : X → Type 0) (n : ℕ) (xs : List X) → AllByRecursion P xs → AllByRecursion P (drop n xs)
all_drop P zero xs a = a
all_drop P (suc n) [] a = tt
all_drop P (suc n) (x ∷ xs) a = all_drop P n xs a.1

pub all_append : {X : Type 0} (P : X → Type 0) (xs ys : List X) → AllByRecursion P xs → AllByRecursion P ys → AllByRecursion P (xs ++ ys)
all_append P [] ys a b = b
all_append P (x ∷ xs) ys a b = (a.0, all_append P xs ys a.1 b)

pub all_front : {X : Type 0} (P : X → Type 0) (xs ys : List X) → AllByRecursion P (xs ++ ys) → AllByRecursion P xs
all_front P [] ys a = tt
all_front P (x ∷ xs) ys a = (a.0, all_front P xs ys a.1)

pub all_back : {X : Type 0} (P : X → Type 0) (xs ys : List X) → AllByRecursion P (xs ++ ys) → AllByRecursion P ys
all_back P [] ys a = a
all_back P (x ∷ xs) ys a = all_back P xs ys a.1

pub all_at : {X : Type 0} (P : X → Type 0) (xs : List X) (k : ℕ) (d : X) → AllByRecursion P xs → k < length xs → P (get_or xs k d)
all_at P [] k d a h = absurd (omega arith)
all_at P (x ∷ xs) zero d a h = a.0
all_at P (x ∷ xs) (suc k) d a h = all_at P xs k d a.1 (omega arith)

pub all_map : {X : Type 0} (P Q : X → Type 0) → ((x : X) → P x → Q x) → (xs : List X) → AllByRecursion P xs → AllByRecursion Q xs
all_map P Q f [] a = tt
all_map P Q f (x ∷ xs) a = (f x a.0, all_map P Q f xs a.1)
