-- Rows with their marks, by their numbers.
use Rattle.std.proofs.Common.{◌≡◌, ℕ, zero, suc, ◌+◌, ◌<◌, List, [], ◌∷◌, ◌++◌, length, map, take, slice_get, Option, Some, None, IfSome, refl, sym, ap, subst, ◌∙◌, arith}
use Rattle.std.specs.List.{AllByRecursion}
use Rattle.std.specs.Option.{option_map}
use Rattle.row_types.specs.declared.rows.Key.{Key}
use Rattle.row_types.specs.declared.rows.Row.{Row}
use Rattle.seg_sealed.specs.Segments.{key_of}
use Rattle.log_model.specs.Places.{Placed, vector_of}
use Rattle.log_model.specs.declared.queries.Query.{Query}
use Rattle.journal_model.specs.Views.{Shown}
use Rattle.seg_sealed.specs.Marks.{death_at}
use Rattle.seg_sealed.specs.Parts.{shown_as, shown_from}
use Rattle.flat_scan.specs.Rows.{vector_shown, HaveVectorsLike, row_at}

pub some_same : {A : Type 0} (x y : A) → Some x ≡ Some y → x ≡ y
some_same x y e = cc

pub none_some : {A : Type 0} (x : A) → None ≡ Some x → ⊥
none_some x e = cc

pub shown-length : (deaths : List (ℕ × ℕ)) (from : ℕ) (rows : List Placed) → length (shown_from deaths from rows) ≡ length rows
shown-length deaths from [] = refl
shown-length deaths from (x ∷ rows) = ap suc (shown-length deaths (suc from) rows)

pub shown-vectors : (deaths : List (ℕ × ℕ)) (from : ℕ) (rows : List Placed) → map vector_shown (shown_from deaths from rows) ≡ map vector_of rows
shown-vectors deaths from [] = refl
shown-vectors deaths from (x ∷ rows) = ap (λ l. x.row.vector ∷ l) (shown-vectors deaths (suc from) rows)

-- what holds of a row with its mark holds of the shown row of its number
pub shown_if : (P : Shown → Type 0) (deaths : List (ℕ × ℕ)) (from : ℕ) (rows : List Placed) (i : ℕ) → IfSome (slice_get rows i) (λ x. P (shown_as x (death_at (from + i) deaths))) → IfSome (slice_get (shown_from deaths from rows) i) P
shown_if P deaths from [] i h = tt
shown_if P deaths from (x ∷ rows) zero h =
    let there : from + 0 ≡ from = omega arith in
    subst (λ n. P (shown_as x (death_at n deaths))) there h
shown_if P deaths from (x ∷ rows) (suc i) h =
    let there : from + suc i ≡ suc from + i = omega arith in
    shown_if P deaths (suc from) rows i (subst (λ n. IfSome (slice_get rows i) (λ y. P (shown_as y (death_at n deaths)))) there h)

pub shown_if_first : (P : Shown → Type 0) (deaths : List (ℕ × ℕ)) (rows : List Placed) (i : ℕ) → IfSome (slice_get rows i) (λ x. P (shown_as x (death_at i deaths))) → IfSome (slice_get (shown_from deaths 0 rows) i) P
shown_if_first P deaths rows i h =
    let there : i ≡ 0 + i = omega arith in
    shown_if P deaths 0 rows i (subst (λ n. IfSome (slice_get rows i) (λ x. P (shown_as x (death_at n deaths)))) there h)

pub if_map : {A : Type 0} (P Q : A → Type 0) (o : Option A) → ((x : A) → P x → Q x) → IfSome o P → IfSome o Q
if_map P Q None f h = tt
if_map P Q (Some x) f h = f x h

pub row_if : (P : Row → Type 0) (rows : List Placed) (i : ℕ) → P (row_at rows i).row → IfSome (slice_get rows i) (λ x. P x.row)
row_if P [] i h = tt
row_if P (x ∷ rows) zero h = h
row_if P (x ∷ rows) (suc i) h = row_if P rows i h

pub key_if : (o : Option Placed) (key : Key) → option_map key_of o ≡ Some key → IfSome o (λ x. key ≡ x.row.key)
key_if None key e = tt
key_if (Some x) key e = sym (some_same x.row.key key e)

pub if_some : {A : Type 0} (P : A → Type 0) (o : Option A) (x : A) → IfSome o P → o ≡ Some x → P x
if_some P None x h e = absurd (none_some x e)
if_some P (Some y) x h e = subst P (some_same y x e) h

-- rows in two pieces
pub shown-append : (deaths : List (ℕ × ℕ)) (from : ℕ) (rows more : List Placed) → shown_from deaths from (rows ++ more) ≡ shown_from deaths from rows ++ shown_from deaths (from + length rows) more
shown-append deaths from [] more =
    let there : from ≡ from + 0 = omega arith in
    ap (λ n. shown_from deaths n more) there
shown-append deaths from (x ∷ rows) more =
    let there : suc from + length rows ≡ from + suc (length rows) = omega arith in
    ap (λ l. shown_as x (death_at from deaths) ∷ l) (shown-append deaths (suc from) rows more ∙ ap (λ n. shown_from deaths (suc from) rows ++ shown_from deaths n more) there)

-- the vectors of the shown rows have a dimension where those of the rows have it
pub shown-fit : (query : Query) (deaths : List (ℕ × ℕ)) (from : ℕ) (rows : List Placed) → AllByRecursion (λ x. length query.vector ≡ length x.row.vector) rows → HaveVectorsLike query (shown_from deaths from rows)
shown-fit query deaths from [] a = tt
shown-fit query deaths from (x ∷ rows) a = (a.0, shown-fit query deaths (suc from) rows a.1)

-- a shown row is the row of its number
pub shown-row : (deaths : List (ℕ × ℕ)) (from : ℕ) (rows : List Placed) (i : ℕ) (s : Shown) → slice_get (shown_from deaths from rows) i ≡ Some s → (row_at rows i).row ≡ s.row
shown-row deaths from [] i s e = absurd (none_some s e)
shown-row deaths from (x ∷ rows) zero s e = ap (λ (z : Shown). z.row) (some_same (shown_as x (death_at from deaths)) s e)
shown-row deaths from (x ∷ rows) (suc i) s e = shown-row deaths (suc from) rows i s e

-- ---- rows in order

pub take_next : (rows : List Shown) (i : ℕ) (s : Shown) → slice_get rows i ≡ Some s → take (suc i) rows ≡ take i rows ++ s ∷ []
take_next [] i s e = absurd (none_some s e)
take_next (x ∷ rows) zero s e = ap (λ z. z ∷ []) (some_same x s e)
take_next (x ∷ rows) (suc i) s e = ap (λ l. x ∷ l) (take_next rows i s e)

pub like_at : (query : Query) (rows : List Shown) (i : ℕ) (s : Shown) → HaveVectorsLike query rows → slice_get rows i ≡ Some s → length query.vector ≡ length s.row.vector
like_at query [] i s a e = absurd (none_some s e)
like_at query (x ∷ rows) zero s a e = subst (λ (z : Shown). length query.vector ≡ length z.row.vector) (some_same x s e) a.0
like_at query (x ∷ rows) (suc i) s a e = like_at query rows i s a.1 e

pub some-within : (rows : List Shown) (i : ℕ) (s : Shown) → slice_get rows i ≡ Some s → i < length rows
some-within [] i s e = absurd (none_some s e)
some-within (x ∷ rows) zero s e = omega arith
some-within (x ∷ rows) (suc i) s e = omega (arith, some-within rows i s e)
