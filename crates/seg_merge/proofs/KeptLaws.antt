-- The rows that a floor leaves, as kept rows.
use Rattle.std.proofs.Common.{◌≡◌, ◌≢◌, ℕ, zero, suc, ◌+◌, ◌<◌, ◌≤◌, nat_eq, Bool, true, false, cond, not, List, [], ◌∷◌, ◌++◌, length, map, drop, get_or, slice_get, Option, Some, None, refl, sym, ap, ap₂, subst, ◌∙◌, append_assoc, append-nil, arith, add-one}
use Rattle.std.specs.Prelude.{slice_index_or}
use Rattle.std.specs.Option.{option_map}
use Rattle.std.specs.List.{AllByRecursion, filter}
use Rattle.std.specs.List.Sorted.{IsPermutation, IsNonDecreasingBy}
use Rattle.std.proofs.lemmas.Bool.Decides.{nat_tests}
use Rattle.std.proofs.lemmas.List.{map-append, length-map}
use Rattle.std.proofs.lemmas.List.Sorted.{IsPermutation-map}
use Rattle.hybrid_time.specs.declared.times.Timestamp.{Timestamp}
use Rattle.log_model.specs.Places.{Placed}
use Rattle.journal_model.specs.Lists.{joined}
use Rattle.journal_model.specs.Puts.{is_dead_by}
use Rattle.journal_model.specs.Views.{Shown}
use Rattle.seg_sealed.specs.Segments.{position_of}
use Rattle.seg_sealed.specs.Marks.{death_at, death_of, RowsRise, mark_of}
use Rattle.seg_sealed.specs.Parts.{SegmentPart, shown_as, shown_from, shown_rows, kept_rows}
use Rattle.seg_sealed.proofs.MarkLaws.{Mark, found_first, passed_first}
use Rattle.seg_merge.specs.declared.kept.Kept.{Kept}
use Rattle.seg_merge.specs.Merges.{rows_of, AreInOrder, all_rows}
use Rattle.seg_merge.specs.KeptRows.{no_row, rows_at, placed_in, shown_in, IsKept, time_of, at_time, at_position, placed_of, outlives, kept_at, kept_from, kept_of_parts, first_mark, behind_mark, unless_dead}
use Rattle.seg_merge.proofs.Lists.{read_is, filter-append, all_append}
use Rattle.seg_merge.proofs.Orders.{all_moved}
use Rattle.seg_merge.proofs.Rows.{left_rows, sorted_kept}

none_some : {A : Type 0} (x : A) → None ≡ Some x → ⊥
none_some x e = cc

nothing_some : {A : Type 0} (x : A) (xs : List A) → [] ≡ x ∷ xs → ⊥
nothing_some x xs e = cc

head_of : {A : Type 0} (x y : A) (xs ys : List A) → x ∷ xs ≡ y ∷ ys → x ≡ y
head_of x y xs ys e = cc

tail_of : {A : Type 0} (x y : A) (xs ys : List A) → x ∷ xs ≡ y ∷ ys → xs ≡ ys
tail_of x y xs ys e = cc

-- ---- the item at a place of which the list behind it is known

there : {A : Type 0} (xs : List A) (i : ℕ) (y : A) (ys : List A) → drop i xs ≡ y ∷ ys → slice_get xs i ≡ Some y
there [] zero y ys e = absurd (nothing_some y ys e)
there [] (suc i) y ys e = absurd (nothing_some y ys e)
there (x ∷ xs) zero y ys e = ap Some (head_of x y xs ys e)
there (x ∷ xs) (suc i) y ys e = there xs i y ys e

there_read : {A : Type 0} (xs : List A) (i : ℕ) (y d : A) (ys : List A) → drop i xs ≡ y ∷ ys → slice_index_or xs i d ≡ y
there_read [] zero y d ys e = absurd (nothing_some y ys e)
there_read [] (suc i) y d ys e = absurd (nothing_some y ys e)
there_read (x ∷ xs) zero y d ys e = head_of x y xs ys e
there_read (x ∷ xs) (suc i) y d ys e = there_read xs i y d ys e

there_within : {A : Type 0} (xs : List A) (i : ℕ) (y : A) (ys : List A) → drop i xs ≡ y ∷ ys → i < length xs
there_within [] zero y ys e = absurd (nothing_some y ys e)
there_within [] (suc i) y ys e = absurd (nothing_some y ys e)
there_within (x ∷ xs) zero y ys e = omega arith
there_within (x ∷ xs) (suc i) y ys e = let a = there_within xs i y ys e in omega arith

next : {A : Type 0} (xs : List A) (i : ℕ) (y : A) (ys : List A) → drop i xs ≡ y ∷ ys → drop (suc i) xs ≡ ys
next [] zero y ys e = absurd (nothing_some y ys e)
next [] (suc i) y ys e = absurd (nothing_some y ys e)
next (x ∷ xs) zero y ys e = tail_of x y xs ys e
next (x ∷ xs) (suc i) y ys e = next xs i y ys e

-- ---- the rows of one part

timed : (o : Option ℕ) → option_map time_of (option_map at_time o) ≡ o
timed None = refl
timed (Some n) = refl

row_is : (all : List SegmentPart) (place i : ℕ) (part : SegmentPart) (x : Placed) (rows : List Placed) (o : Option ℕ) → slice_get all place ≡ Some part → drop i part.sealed.rows ≡ x ∷ rows → placed_in all (kept_at place i x.position o) ≡ x
row_is all place i part x rows o there_part e =
    ap (λ rs. slice_index_or rs i no_row) (read_is rows_of all place part [] there_part) ∙ there_read part.sealed.rows i x no_row rows e

from_shown : (all : List SegmentPart) (place floor i : ℕ) (part : SegmentPart) (rows : List Placed) → slice_get all place ≡ Some part → drop i part.sealed.rows ≡ rows
    → map (shown_in all) (kept_from place floor part.deaths i (map position_of rows)) ≡ filter (outlives floor) (shown_from part.deaths i rows)
from_shown all place floor i part [] there_part e = refl
from_shown all place floor i part (x ∷ rows) there_part e =
    let rest = from_shown all place floor (suc i) part rows there_part (next part.sealed.rows i x rows e) in
    let s : shown_in all (kept_at place i x.position (death_at i part.deaths)) ≡ shown_as x (death_at i part.deaths) = ap₂ shown_as (row_is all place i part x rows (death_at i part.deaths) there_part e) (timed (death_at i part.deaths)) in
    elim (is_dead_by floor (death_at i part.deaths)) as (λ b.
    map (shown_in all) (cond b (kept_from place floor part.deaths (suc i) (map position_of rows)) (kept_at place i x.position (death_at i part.deaths) ∷ kept_from place floor part.deaths (suc i) (map position_of rows)))
    ≡ cond (not b) (shown_as x (death_at i part.deaths) ∷ filter (outlives floor) (shown_from part.deaths (suc i) rows)) (filter (outlives floor) (shown_from part.deaths (suc i) rows))) [
      | true ↦ rest
      | false ↦ ap₂ (λ t ts. t ∷ ts) s rest
    ]

kept_valid : (all : List SegmentPart) (place i : ℕ) (part : SegmentPart) (x : Placed) (rows : List Placed) (o : Option ℕ) → slice_get all place ≡ Some part → place < length all → drop i part.sealed.rows ≡ x ∷ rows
    → IsKept all (kept_at place i x.position o)
kept_valid all place i part x rows o there_part lt e = record {
  part = lt;
  row = subst (λ rs. i < length rs) (sym (read_is rows_of all place part [] there_part)) (there_within part.sealed.rows i x rows e);
  position = ap position_of (sym (row_is all place i part x rows o there_part e));
}

from_valid : (all : List SegmentPart) (place floor i : ℕ) (part : SegmentPart) (rows : List Placed) → slice_get all place ≡ Some part → place < length all → drop i part.sealed.rows ≡ rows
    → AllByRecursion (IsKept all) (kept_from place floor part.deaths i (map position_of rows))
from_valid all place floor i part [] there_part lt e = tt
from_valid all place floor i part (x ∷ rows) there_part lt e =
    let rest = from_valid all place floor (suc i) part rows there_part lt (next part.sealed.rows i x rows e) in
    elim (is_dead_by floor (death_at i part.deaths)) as (λ b.
    AllByRecursion (IsKept all) (cond b (kept_from place floor part.deaths (suc i) (map position_of rows)) (kept_at place i x.position (death_at i part.deaths) ∷ kept_from place floor part.deaths (suc i) (map position_of rows)))) [
      | true ↦ rest
      | false ↦ (kept_valid all place i part x rows (death_at i part.deaths) there_part lt e, rest)
    ]

-- ---- the rows of all parts

parts_shown : (all : List SegmentPart) (floor place : ℕ) (parts : List SegmentPart) → drop place all ≡ parts → map (shown_in all) (kept_of_parts floor place parts) ≡ left_rows floor parts
parts_shown all floor place [] e = refl
parts_shown all floor place (part ∷ parts) e =
    map-append (shown_in all) (kept_from place floor part.deaths 0 (map position_of part.sealed.rows)) (kept_of_parts floor (suc place) parts)
    ∙ ap₂ (λ a b. a ++ b) (from_shown all place floor 0 part part.sealed.rows (there all place part parts e) refl) (parts_shown all floor (suc place) parts (next all place part parts e))
    ∙ sym (filter-append (outlives floor) (shown_rows part) (joined (map shown_rows parts)))

parts_valid : (all : List SegmentPart) (floor place : ℕ) (parts : List SegmentPart) → drop place all ≡ parts → AllByRecursion (IsKept all) (kept_of_parts floor place parts)
parts_valid all floor place [] e = tt
parts_valid all floor place (part ∷ parts) e =
    all_append (IsKept all) (kept_from place floor part.deaths 0 (map position_of part.sealed.rows)) (kept_of_parts floor (suc place) parts)
    (from_valid all place floor 0 part part.sealed.rows (there all place part parts e) (there_within all place part parts e) refl)
    (parts_valid all floor (suc place) parts (next all place part parts e))

-- ---- sorted by position

sorted_valid : (all : List SegmentPart) (floor : ℕ) (sorted : List Kept) → IsPermutation (kept_of_parts floor 0 all) sorted → AllByRecursion (IsKept all) sorted
sorted_valid all floor sorted moved = all_moved (IsKept all) (kept_of_parts floor 0 all) sorted moved (parts_valid all floor 0 all refl)

shown_position : (all : List SegmentPart) (kept : List Kept) (j : ℕ) (d : Shown) (k : Kept) → AllByRecursion (IsKept all) kept → j < length kept → at_position (get_or (map (shown_in all) kept) j d) ≡ (get_or kept j k).position
shown_position all [] j d k valid lt = absurd (omega arith)
shown_position all (x ∷ kept) zero d k valid lt = sym valid.0.position
shown_position all (x ∷ kept) (suc j) d k valid lt = shown_position all kept j d k valid.1 (omega arith)

positions_rise : (all : List SegmentPart) (sorted : List Kept) → AllByRecursion (IsKept all) sorted → IsNonDecreasingBy (λ (k : Kept). k.position) sorted → IsNonDecreasingBy at_position (map (shown_in all) sorted)
positions_rise all [] valid up i j d le lt = absurd (omega arith)
positions_rise all (x ∷ sorted) valid up i j d le lt =
    let many : length (map (shown_in all) (x ∷ sorted)) ≡ length (x ∷ sorted) = length-map (x ∷ sorted) (shown_in all) in
    let a = shown_position all (x ∷ sorted) i d x valid (omega arith) in
    let b = shown_position all (x ∷ sorted) j d x valid (omega arith) in
    let e = up i j x le (omega arith) in
    omega arith

pub sorted_are : (all : List SegmentPart) (floor : ℕ) (left sorted : List Kept) → AreInOrder (all_rows all) → left ≡ kept_of_parts floor 0 all → IsPermutation left sorted → IsNonDecreasingBy (λ (k : Kept). k.position) sorted
    → (map (shown_in all) sorted ≡ kept_rows floor all) × AllByRecursion (IsKept all) sorted
sorted_are all floor left sorted order are moved up =
    let from : IsPermutation (kept_of_parts floor 0 all) sorted = subst (λ l. IsPermutation l sorted) are moved in
    let valid : AllByRecursion (IsKept all) sorted = sorted_valid all floor sorted from in
    let shown : IsPermutation (left_rows floor all) (map (shown_in all) sorted) = subst (λ l. IsPermutation l (map (shown_in all) sorted)) (parts_shown all floor 0 all refl) (IsPermutation-map (shown_in all) (kept_of_parts floor 0 all) sorted from) in
    (sorted_kept floor all (map (shown_in all) sorted) order shown (positions_rise all sorted valid up), valid)

-- ---- a walk along the rows of a part and its marks

later_all : (i j : ℕ) (marks : List Mark) → i ≤ j → AllByRecursion (λ later. j < later.0) marks → AllByRecursion (λ later. i < later.0) marks
later_all i j [] le all = tt
later_all i j (mark ∷ marks) le all = (let a = all.0 in omega arith, later_all i j marks le all.1)

not_later : (i : ℕ) (marks : List Mark) → AllByRecursion (λ later. i < later.0) marks → AllByRecursion (λ later. i + 1 ≤ later.0) marks
not_later i [] all = tt
not_later i (mark ∷ marks) all = (let a = all.0 in omega arith, not_later i marks all.1)

none_above : (row : ℕ) (marks : List Mark) → AllByRecursion (λ later. row < later.0) marks → death_at row (map death_of marks) ≡ None
none_above row [] all = refl
none_above row (mark ∷ marks) all = let h = all.0 in passed_first row mark marks (λ e. absurd (omega arith)) ∙ none_above row marks all.1

is_eq : (a b : ℕ) → nat_eq a b ≡ true → a ≡ b
is_eq a b e = grind (arith, nat_tests)

not_eq : (a b : ℕ) → nat_eq a b ≡ false → a ≢ b
not_eq a b e f = grind (arith, nat_tests)

-- the marks that are left when the walk comes to a row
pub record AreLeft (marks rest : List Mark) (i : ℕ) : Type 0 where
  pub rise : RowsRise rest
  pub low : AllByRecursion (λ mark. i ≤ mark.0) rest
  pub same : (row : ℕ) → i ≤ row → death_at row (map death_of rest) ≡ death_at row (map death_of marks)

record IsTold (rest : List Mark) (i : ℕ) : Type 0 where
  death : first_mark i rest ≡ option_map at_time (death_at i (map death_of rest))
  low : AllByRecursion (λ mark. i + 1 ≤ mark.0) (behind_mark i rest)
  rise : RowsRise (behind_mark i rest)
  same : (row : ℕ) → i + 1 ≤ row → death_at row (map death_of (behind_mark i rest)) ≡ death_at row (map death_of rest)

told : (rest : List Mark) (i : ℕ) → RowsRise rest → AllByRecursion (λ mark. i ≤ mark.0) rest → IsTold rest i
told [] i rise low = record { death = refl; low = tt; rise = tt; same = λ row le. refl }
told (mark ∷ rest) i rise low = by_test (nat_eq mark.0 i) refl
  where
    by_test : (b : Bool) → nat_eq mark.0 i ≡ b → IsTold (mark ∷ rest) i
    by_test true t =
        let e : mark.0 ≡ i = is_eq mark.0 i t in
        let behind : behind_mark i (mark ∷ rest) ≡ rest = ap (λ b. cond b rest (mark ∷ rest)) t in
        record {
          death = ap (λ b. cond b (Some mark.1) None) t ∙ ap (option_map at_time) (sym (found_first i mark rest e));
          low = subst (AllByRecursion (λ m. i + 1 ≤ m.0)) (sym behind) (not_later i rest (later_all i mark.0 rest (omega arith) rise.0));
          rise = subst RowsRise (sym behind) rise.1;
          same = λ row le. ap (λ l. death_at row (map death_of l)) behind ∙ sym (passed_first row mark rest (λ f. absurd (omega arith)));
        }
    by_test false t =
        let ne : mark.0 ≢ i = not_eq mark.0 i t in
        let first : i < mark.0 = let a = low.0 in omega (arith, ne) in
        let all : AllByRecursion (λ later. i < later.0) (mark ∷ rest) = (first, later_all i mark.0 rest (omega arith) rise.0) in
        let behind : behind_mark i (mark ∷ rest) ≡ mark ∷ rest = ap (λ b. cond b rest (mark ∷ rest)) t in
        record {
          death = ap (λ b. cond b (Some mark.1) None) t ∙ ap (option_map at_time) (sym (none_above i (mark ∷ rest) all));
          low = subst (AllByRecursion (λ m. i + 1 ≤ m.0)) (sym behind) (not_later i (mark ∷ rest) all);
          rise = subst RowsRise (sym behind) rise;
          same = λ row le. ap (λ l. death_at row (map death_of l)) behind;
        }

pub left_begun : (marks rest : List Mark) → RowsRise marks → rest ≡ marks → AreLeft marks rest 0
left_begun marks rest rise e = subst (λ r. AreLeft marks r 0) (sym e) (record { rise = rise; low = all marks; same = λ row le. refl })
  where
    all : (marks : List Mark) → AllByRecursion (λ mark. 0 ≤ mark.0) marks
    all [] = tt
    all (mark ∷ marks) = (omega arith, all marks)

pub left_next : (marks rest : List Mark) (i : ℕ) → AreLeft marks rest i → AreLeft marks (behind_mark i rest) (i + 1)
left_next marks rest i left =
    let t = told rest i left.rise left.low in
    record { rise = t.rise; low = t.low; same = λ row le. t.same row le ∙ left.same row (omega arith) }

left_death : (marks rest : List Mark) (i : ℕ) → AreLeft marks rest i → first_mark i rest ≡ option_map at_time (death_at i (map death_of marks))
left_death marks rest i left = (told rest i left.rise left.low).death ∙ ap (option_map at_time) (left.same i (omega arith))

from_next : (place floor i : ℕ) (deaths : List (ℕ × ℕ)) (position : ℕ) (positions : List ℕ)
    → kept_from place floor deaths i (position ∷ positions) ≡ unless_dead floor (kept_at place i position (death_at i deaths)) ++ kept_from place floor deaths (suc i) positions
from_next place floor i deaths position positions =
    let k : Kept = kept_at place i position (death_at i deaths) in
    let rest : List Kept = kept_from place floor deaths (suc i) positions in
    by_cases (is_dead_by floor (death_at i deaths)) k rest ∙ ap (λ o. cond (is_dead_by floor o) [] (k ∷ []) ++ rest) (sym (timed (death_at i deaths)))
  where
    by_cases : (b : Bool) (k : Kept) (rest : List Kept) → cond b rest (k ∷ rest) ≡ cond b [] (k ∷ []) ++ rest
    by_cases true k rest = refl
    by_cases false k rest = refl

drop_read : (xs : List ℕ) (i : ℕ) → i < length xs → drop i xs ≡ get_or xs i 0 ∷ drop (suc i) xs
drop_read [] i lt = absurd (omega arith)
drop_read (x ∷ xs) zero lt = refl
drop_read (x ∷ xs) (suc i) lt = drop_read xs i (omega arith)

-- the rows that were added, and those that are to come
pub rows_next : (place floor i : ℕ) (marks rest : List Mark) (positions : List ℕ) (old kept more : List Kept) (position : ℕ) (k : Kept) → AreLeft marks rest i → i < length positions → position ≡ get_or positions i 0
    → k ≡ record { position = position; part = place; row = i; death = first_mark i rest } → more ≡ kept ++ unless_dead floor k
    → kept ++ kept_from place floor (map death_of marks) i (drop i positions) ≡ old
    → more ++ kept_from place floor (map death_of marks) (i + 1) (drop (i + 1) positions) ≡ old
rows_next place floor i marks rest positions old kept more position k left lt at is are same =
    let deaths : List (ℕ × ℕ) = map death_of marks in
    let one : Kept = kept_at place i (get_or positions i 0) (death_at i deaths) in
    let k_is : k ≡ one = is ∙ ap₂ (λ p o. record { position = p; part = place; row = i; death = o }) at (left_death marks rest i left) in
    let n : i + 1 ≡ suc i = add-one i in
    ap₂ (λ m j. m ++ kept_from place floor deaths j (drop j positions)) (are ∙ ap (λ x. kept ++ unless_dead floor x) k_is) n
    ∙ append_assoc kept (unless_dead floor one) (kept_from place floor deaths (suc i) (drop (suc i) positions))
    ∙ ap (λ l. kept ++ l) (sym (from_next place floor i deaths (get_or positions i 0) (drop (suc i) positions)) ∙ ap (kept_from place floor deaths i) (sym (drop_read positions i lt)))
    ∙ same

from_end : (place floor i j : ℕ) (deaths : List (ℕ × ℕ)) (positions : List ℕ) → j ≡ length positions → kept_from place floor deaths i (drop j positions) ≡ []
from_end place floor i j deaths [] e = ap (λ n. kept_from place floor deaths i (drop n [])) e
from_end place floor i zero deaths (p ∷ positions) e = absurd (omega arith)
from_end place floor i (suc j) deaths (p ∷ positions) e = from_end place floor i j deaths positions (omega arith)

pub rows_done : (place floor i : ℕ) (deaths : List (ℕ × ℕ)) (positions : List ℕ) (all kept : List Kept) → i ≡ length positions → kept ++ kept_from place floor deaths i (drop i positions) ≡ all → kept ≡ all
rows_done place floor i deaths positions all kept e same = sym (ap (λ l. kept ++ l) (from_end place floor i i deaths positions e) ∙ append-nil kept) ∙ same

-- ---- a walk along the parts

pub part_next : (floor i : ℕ) (parts : List SegmentPart) (part : SegmentPart) (kept more all : List Kept) → slice_get parts i ≡ Some part → more ≡ kept ++ kept_from i floor part.deaths 0 (map position_of part.sealed.rows)
    → kept ++ kept_of_parts floor i (drop i parts) ≡ all → more ++ kept_of_parts floor (i + 1) (drop (i + 1) parts) ≡ all
part_next floor i parts part kept more all there_part are same =
    let here : List Kept = kept_from i floor part.deaths 0 (map position_of part.sealed.rows) in
    ap₂ (λ m j. m ++ kept_of_parts floor j (drop j parts)) are (add-one i)
    ∙ append_assoc kept here (kept_of_parts floor (suc i) (drop (suc i) parts))
    ∙ ap (λ l. kept ++ kept_of_parts floor i l) (sym (drop_get parts i part there_part)) ∙ same
  where
    some_same : (x y : SegmentPart) → Some x ≡ Some y → x ≡ y
    some_same x y e = cc

    drop_get : (xs : List SegmentPart) (i : ℕ) (x : SegmentPart) → slice_get xs i ≡ Some x → drop i xs ≡ x ∷ drop (suc i) xs
    drop_get [] zero x e = absurd (none_some x e)
    drop_get [] (suc i) x e = absurd (none_some x e)
    drop_get (y ∷ xs) zero x e = ap (λ z. z ∷ xs) (some_same y x e)
    drop_get (y ∷ xs) (suc i) x e = drop_get xs i x e

drop_end : (parts : List SegmentPart) (i : ℕ) → i ≡ length parts → drop i parts ≡ []
drop_end [] zero e = refl
drop_end [] (suc i) e = refl
drop_end (p ∷ parts) zero e = absurd (omega arith)
drop_end (p ∷ parts) (suc i) e = drop_end parts i (omega arith)

pub parts_done : (floor i : ℕ) (parts : List SegmentPart) (all kept : List Kept) → i ≡ length parts → kept ++ kept_of_parts floor i (drop i parts) ≡ all → kept ≡ all
parts_done floor i parts all kept e same = sym (ap (λ l. kept ++ kept_of_parts floor i l) (drop_end parts i e) ∙ append-nil kept) ∙ same

-- ---- the marks of a delete log

pub marks_again : (deaths : List (ℕ × ℕ)) → map death_of (map mark_of deaths) ≡ deaths
marks_again [] = refl
marks_again (death ∷ deaths) = ap (λ ds. death ∷ ds) (marks_again deaths)

-- ---- kept rows without their marks

pub placed_back : (parts : List SegmentPart) (kept : List Kept) → map placed_of (map (shown_in parts) kept) ≡ map (placed_in parts) kept
placed_back parts [] = refl
placed_back parts (k ∷ kept) = ap (λ xs. placed_in parts k ∷ xs) (placed_back parts kept)
