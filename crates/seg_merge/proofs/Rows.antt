-- The rows that a merge keeps are those of a segment, by position.
use Rattle.std.proofs.Common.{◌≡◌, ◌≢◌, ℕ, suc, ◌+◌, ◌<◌, ◌≤◌, ◌^◌, Bool, true, false, cond, List, [], ◌∷◌, ◌++◌, length, map, refl, sym, ap, ap₂, subst, ◌∙◌, ◌⊎◌, ⊎_elim, length-append, arith}
use Rattle.std.specs.Prelude.{nat_le}
use Rattle.std.specs.List.{AllByRecursion, filter, sum_by}
use Rattle.std.specs.List.Sorted.{IsPermutation, IsNonDecreasingBy}
use Rattle.std.proofs.lemmas.Bool.{cases_eq}
use Rattle.std.proofs.lemmas.List.{map-append, length-map}
use Rattle.log_model.specs.Places.{Placed, placed, PlacedBefore, Rise}
use Rattle.journal_model.specs.Lists.{joined, insert_by, rising_by}
use Rattle.journal_model.specs.Views.{Shown}
use Rattle.seg_sealed.specs.Segments.{SealedSegment, IsRowOf, IsSealed, position_of}
use Rattle.seg_sealed.specs.Parts.{SegmentPart, shown_as, shown_from, shown_rows, kept_rows}
use Rattle.seg_sealed.specs.Runs.{with_rows}
use Rattle.seg_merge.specs.Merges.{IsLike, AreAlike, AreInOrder, all_rows}
use Rattle.seg_merge.specs.KeptRows.{placed_of, at_position, outlives}
use Rattle.seg_merge.proofs.Lists.{all_append}
use Rattle.seg_merge.proofs.Orders.{insert_all, rising_all, rising-map, RisesBy, here, counted-hit, counted-miss, none_counted, sorted_rising}

-- ---- rows of which one may stand before the other rise by position

before_later : (x y z : Placed) → PlacedBefore x y → PlacedBefore y z → PlacedBefore x z
before_later x y z a b = let c = a.lower in let d = a.not_later in let e = b.lower in let f = b.not_later in record { lower = omega arith; not_later = omega arith }

all_later : (x y : Placed) (rows : List Placed) → PlacedBefore x y → AllByRecursion (PlacedBefore y) rows → AllByRecursion (PlacedBefore x) rows
all_later x y [] a all = tt
all_later x y (z ∷ rows) a all = (before_later x y z a all.0, all_later x y rows a all.1)

le_of : (m n : ℕ) → nat_le m n ≡ true → m ≤ n
le_of m n e = grind arith

gt_of : (m n : ℕ) → nat_le m n ≡ false → n < m
gt_of m n e = grind arith

insert_rises : (x : Placed) (rows : List Placed) → AllByRecursion (λ y. PlacedBefore x y ⊎ PlacedBefore y x) rows → Rise rows → Rise (insert_by position_of x rows)
insert_rises x [] all rise = (tt, tt)
insert_rises x (y ∷ rows) all rise = elim (nat_le (position_of x) (position_of y)) as (λ b. nat_le (position_of x) (position_of y) ≡ b → Rise (cond b (x ∷ y ∷ rows) (y ∷ insert_by position_of x rows))) [
  | true ↦ λ e.
      let le : x.position ≤ y.position = le_of x.position y.position e in
      let first : PlacedBefore x y = ⊎_elim (λ h. h) (λ h. absurd (let l = h.lower in omega arith)) all.0 in
      ((first, all_later x y rows first rise.0), rise)
  | false ↦ λ e.
      let lt : y.position < x.position = gt_of x.position y.position e in
      let first : PlacedBefore y x = ⊎_elim (λ h. absurd (let l = h.lower in omega arith)) (λ h. h) all.0 in
      (insert_all position_of (PlacedBefore y) x rows first rise.0, insert_rises x rows all.1 rise.1)
] refl

order_rises : (rows : List Placed) → AreInOrder rows → Rise (rising_by position_of rows)
order_rises [] order = tt
order_rises (x ∷ rows) order = insert_rises x (rising_by position_of rows) (rising_all position_of (λ y. PlacedBefore x y ⊎ PlacedBefore y x) rows order.0) (order_rises rows order.1)

apart_all : (x : Placed) (ss : List Shown) → AllByRecursion (λ y. PlacedBefore x y ⊎ PlacedBefore y x) (map placed_of ss) → AllByRecursion (λ (s : Shown). s.position ≢ x.position) ss
apart_all x [] all = tt
apart_all x (s ∷ ss) all = (⊎_elim (λ h e. absurd (let l = h.lower in omega arith)) (λ h e. absurd (let l = h.lower in omega arith)) all.0, apart_all x ss all.1)

-- no position stands twice
order_apart : (ss : List Shown) → AreInOrder (map placed_of ss) → (n : ℕ) → sum_by (here at_position n) ss ≤ 1
order_apart [] order n = omega arith
order_apart (s ∷ ss) order n =
    let hit : s.position ≡ n → sum_by (here at_position n) (s ∷ ss) ≤ 1 = λ e.
    let a = counted-hit at_position n s ss e in
    let b : sum_by (here at_position n) ss ≡ 0 = none_counted at_position n ss (subst (λ k. AllByRecursion (λ (t : Shown). t.position ≢ k) ss) e (apart_all (placed_of s) ss order.0)) in
    omega arith in
    let miss : s.position ≢ n → sum_by (here at_position n) (s ∷ ss) ≤ 1 = λ ne.
    let a = counted-miss at_position n s ss ne in
    let b = order_apart ss order.1 n in
    omega arith in
    ⊎_elim hit miss (cases_eq s.position n)

low_all : (x : Placed) (ss : List Shown) → AllByRecursion (PlacedBefore x) (map placed_of ss) → AllByRecursion (λ (s : Shown). x.position < s.position) ss
low_all x [] all = tt
low_all x (s ∷ ss) all = (all.0.lower, low_all x ss all.1)

rise_by : (ss : List Shown) → Rise (map placed_of ss) → RisesBy at_position ss
rise_by [] rise = tt
rise_by (s ∷ ss) rise = (low_all (placed_of s) ss rise.0, rise_by ss rise.1)

-- ---- what holds of all rows holds of those that are kept

pub shown_placed : (deaths : List (ℕ × ℕ)) (j : ℕ) (rows : List Placed) → map placed_of (shown_from deaths j rows) ≡ rows
shown_placed deaths j [] = refl
shown_placed deaths j (x ∷ rows) = ap (λ l. x ∷ l) (shown_placed deaths (suc j) rows)

parts_placed : (parts : List SegmentPart) → map placed_of (joined (map shown_rows parts)) ≡ all_rows parts
parts_placed [] = refl
parts_placed (part ∷ parts) = map-append placed_of (shown_rows part) (joined (map shown_rows parts)) ∙ ap₂ (λ a b. a ++ b) (shown_placed part.deaths 0 part.sealed.rows) (parts_placed parts)

filter_all : (P : Placed → Type 0) (p : Shown → Bool) (ss : List Shown) → AllByRecursion P (map placed_of ss) → AllByRecursion P (map placed_of (filter p ss))
filter_all P p [] all = tt
filter_all P p (s ∷ ss) all = elim (p s) as (λ b. AllByRecursion P (map placed_of (cond b (s ∷ filter p ss) (filter p ss)))) [
  | true ↦ (all.0, filter_all P p ss all.1)
  | false ↦ filter_all P p ss all.1
]

filter_order : (p : Shown → Bool) (ss : List Shown) → AreInOrder (map placed_of ss) → AreInOrder (map placed_of (filter p ss))
filter_order p [] order = tt
filter_order p (s ∷ ss) order = elim (p s) as (λ b. AreInOrder (map placed_of (cond b (s ∷ filter p ss) (filter p ss)))) [
  | true ↦ (filter_all (λ y. PlacedBefore (placed_of s) y ⊎ PlacedBefore y (placed_of s)) p ss order.0, filter_order p ss order.1)
  | false ↦ filter_order p ss order.1
]

-- the rows that a floor leaves of parts, one part after another
abbrev pub left_rows : ℕ → List SegmentPart → List Shown
left_rows floor parts = filter (outlives floor) (joined (map shown_rows parts))

left_order : (floor : ℕ) (parts : List SegmentPart) → AreInOrder (all_rows parts) → AreInOrder (map placed_of (left_rows floor parts))
left_order floor parts order = filter_order (outlives floor) (joined (map shown_rows parts)) (subst AreInOrder (sym (parts_placed parts)) order)

left_all : (P : Placed → Type 0) (floor : ℕ) (parts : List SegmentPart) → AllByRecursion P (all_rows parts) → AllByRecursion P (map placed_of (left_rows floor parts))
left_all P floor parts all = filter_all P (outlives floor) (joined (map shown_rows parts)) (subst (AllByRecursion P) (sym (parts_placed parts)) all)

kept_placed : (floor : ℕ) (parts : List SegmentPart) → map placed_of (kept_rows floor parts) ≡ rising_by position_of (map placed_of (left_rows floor parts))
kept_placed floor parts = rising-map placed_of at_position position_of (λ s. refl) (left_rows floor parts)

kept_rise : (floor : ℕ) (parts : List SegmentPart) → AreInOrder (all_rows parts) → Rise (map placed_of (kept_rows floor parts))
kept_rise floor parts order = subst Rise (sym (kept_placed floor parts)) (order_rises (map placed_of (left_rows floor parts)) (left_order floor parts order))

-- what a sort by position gives of the rows that are left
pub sorted_kept : (floor : ℕ) (parts : List SegmentPart) (rows : List Shown) → AreInOrder (all_rows parts) → IsPermutation (left_rows floor parts) rows → IsNonDecreasingBy at_position rows → rows ≡ kept_rows floor parts
sorted_kept floor parts rows order moved up =
    sorted_rising at_position (left_rows floor parts) rows (order_apart (left_rows floor parts) (left_order floor parts order)) (rise_by (kept_rows floor parts) (kept_rise floor parts order)) moved up

-- ---- the rows make a segment

like_rows : (first : SegmentPart) (parts : List SegmentPart) → AllByRecursion (IsLike first) parts → AllByRecursion (λ (p : SegmentPart). IsSealed p.sealed) parts
    → AllByRecursion (IsRowOf first.sealed.dim first.sealed.kinds) (all_rows parts)
like_rows first [] alike sealed = tt
like_rows first (part ∷ parts) alike sealed =
    all_append (IsRowOf first.sealed.dim first.sealed.kinds) part.sealed.rows (all_rows parts)
    (subst (λ dim. AllByRecursion (IsRowOf dim first.sealed.kinds) part.sealed.rows) alike.0.dim (subst (λ kinds. AllByRecursion (IsRowOf part.sealed.dim kinds) part.sealed.rows) alike.0.kinds sealed.0.rows))
    (like_rows first parts alike.1 sealed.1)

pub like_itself : (first : SegmentPart) → IsLike first first
like_itself first = record { dim = refl; kinds = refl; applied = refl }

-- rows of a dimension and of kinds that a segment has make a segment
rows_make : (number : ℕ) (s : SealedSegment) (rows : List Placed) → IsSealed s → number < 2 ^ 60 → 0 < length rows → length rows ≤ 65536 → Rise rows → AllByRecursion (IsRowOf s.dim s.kinds) rows → IsSealed (with_rows number s rows)
rows_make number s rows sealed low some few rise all = record { number = low; dim = sealed.dim; width = sealed.width; some = omega arith; few = few; rise = rise; rows = all; lists = tt }

pub kept_make : (number floor : ℕ) (first : SegmentPart) (parts : List SegmentPart) (rows : List Placed) → number < 2 ^ 60 → length (kept_rows floor (first ∷ parts)) ≤ 65536 → AreAlike (first ∷ parts) → AreInOrder (all_rows (first ∷ parts))
    → AllByRecursion (λ (p : SegmentPart). IsSealed p.sealed) (first ∷ parts) → rows ≡ map placed_of (kept_rows floor (first ∷ parts)) → 0 < length rows → IsSealed (with_rows number first.sealed rows)
kept_make number floor first parts rows low few alike order sealed are some =
    let all : List SegmentPart = first ∷ parts in
    let many : length (map placed_of (kept_rows floor all)) ≡ length (kept_rows floor all) = length-map (kept_rows floor all) placed_of in
    let of : length rows ≡ length (map placed_of (kept_rows floor all)) = ap length are in
    let each : AllByRecursion (IsRowOf first.sealed.dim first.sealed.kinds) (map placed_of (kept_rows floor all)) =
    subst (AllByRecursion (IsRowOf first.sealed.dim first.sealed.kinds)) (sym (kept_placed floor all))
    (rising_all position_of (IsRowOf first.sealed.dim first.sealed.kinds) (map placed_of (left_rows floor all)) (left_all (IsRowOf first.sealed.dim first.sealed.kinds) floor all (like_rows first all (like_itself first, alike) sealed))) in
    rows_make number first.sealed rows sealed.0 low some (omega arith) (subst Rise (sym are) (kept_rise floor all order)) (subst (AllByRecursion (IsRowOf first.sealed.dim first.sealed.kinds)) (sym are) each)

-- ---- how many rows are kept

insert_length : (s : Shown) (ss : List Shown) → length (insert_by at_position s ss) ≡ suc (length ss)
insert_length s [] = refl
insert_length s (t ∷ ss) = elim (nat_le (at_position s) (at_position t)) as (λ b. length (cond b (s ∷ t ∷ ss) (t ∷ insert_by at_position s ss)) ≡ suc (length (t ∷ ss))) [
  | true ↦ refl
  | false ↦ ap suc (insert_length s ss)
]

rising_length : (ss : List Shown) → length (rising_by at_position ss) ≡ length ss
rising_length [] = refl
rising_length (s ∷ ss) = insert_length s (rising_by at_position ss) ∙ ap suc (rising_length ss)

filter_length : (p : Shown → Bool) (ss : List Shown) → length (filter p ss) ≤ length ss
filter_length p [] = omega arith
filter_length p (s ∷ ss) =
    let a : length (filter p ss) ≤ length ss = filter_length p ss in
    elim (p s) as (λ b. length (cond b (s ∷ filter p ss) (filter p ss)) ≤ suc (length ss)) [
      | true ↦ omega arith
      | false ↦ omega arith
    ]

-- no more rows are kept than there are
pub kept_few : (floor : ℕ) (parts : List SegmentPart) → length (kept_rows floor parts) ≤ length (all_rows parts)
kept_few floor parts =
    let a = rising_length (left_rows floor parts) in
    let b = filter_length (outlives floor) (joined (map shown_rows parts)) in
    let d = length-map (joined (map shown_rows parts)) placed_of in
    let e = ap length (parts_placed parts) in
    omega arith
