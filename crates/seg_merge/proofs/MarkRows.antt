-- The marks of kept rows, and the rows with their marks.
use Rattle.std.proofs.Common.{◌≡◌, ◌≢◌, ℕ, zero, suc, ◌+◌, ◌<◌, ◌≤◌, List, [], ◌∷◌, ◌++◌, length, map, take, get_or, Option, Some, None, refl, sym, ap, ap₂, ◌∙◌, append_assoc, append-nil, arith}
use Rattle.std.specs.Option.{option_map}
use Rattle.std.proofs.lemmas.List.{take_more, length-take}
use Rattle.std.proofs.Math.Seq.{take-length}
use Rattle.hybrid_time.specs.declared.times.Timestamp.{Timestamp}
use Rattle.log_model.specs.Places.{Placed}
use Rattle.binlog_format.specs.Fields.{InTurn}
use Rattle.binlog_format.specs.Deletes.{IsMarkFrom, after_mark}
use Rattle.seg_sealed.specs.Marks.{death_at, death_of}
use Rattle.seg_sealed.specs.Parts.{SegmentPart, AreDeathsOf, shown_as, shown_from}
use Rattle.seg_sealed.proofs.MarkLaws.{Mark, found_first, passed_first}
use Rattle.seg_merge.specs.declared.kept.Kept.{Kept}
use Rattle.seg_merge.specs.KeptRows.{placed_in, shown_in, time_of, mark_at, marks_of_kept}

pub marks-append : (j : ℕ) (xs ys : List Kept) → marks_of_kept j (xs ++ ys) ≡ marks_of_kept j xs ++ marks_of_kept (j + length xs) ys
marks-append j [] ys = ap (λ n. marks_of_kept n ys) (let n : j ≡ j + 0 = omega arith in n)
marks-append j (k ∷ xs) ys =
    ap (λ l. mark_at j k.death ++ l) (marks-append (suc j) xs ys ∙ ap (λ n. marks_of_kept (suc j) xs ++ marks_of_kept n ys) (let n : suc j + length xs ≡ j + suc (length xs) = omega arith in n))
    ∙ sym (append_assoc (mark_at j k.death) (marks_of_kept (suc j) xs) (marks_of_kept (j + suc (length xs)) ys))

pub marks-one : (j : ℕ) (k : Kept) → marks_of_kept j (k ∷ []) ≡ mark_at j k.death
marks-one j k = append-nil (mark_at j k.death)

-- the marks of one row more
pub marks_next : (kept : List Kept) (i : ℕ) (k : Kept) (marks more : List Mark) → i < length kept → marks ≡ marks_of_kept 0 (take i kept) → more ≡ marks ++ mark_at i (get_or kept i k).death → more ≡ marks_of_kept 0 (take (i + 1) kept)
marks_next kept i k marks more lt are is =
    let d : Kept = get_or kept i k in
    let n : 0 + length (take i kept) ≡ i = let a = length-take i kept in omega arith in
    is ∙ ap (λ l. l ++ mark_at i d.death) are ∙ ap (λ l. marks_of_kept 0 (take i kept) ++ l) (sym (marks-one i d) ∙ ap (λ j. marks_of_kept j (d ∷ [])) (sym n))
    ∙ sym (marks-append 0 (take i kept) (d ∷ [])) ∙ ap (marks_of_kept 0) (sym (take_more kept i k lt))

pub marks_done : (kept : List Kept) (i : ℕ) (marks : List Mark) → i ≡ length kept → marks ≡ marks_of_kept 0 (take i kept) → marks ≡ marks_of_kept 0 kept
marks_done kept i marks e are = are ∙ ap (λ n. marks_of_kept 0 (take n kept)) e ∙ ap (marks_of_kept 0) (take-length kept)

-- ---- the rules of a delete log

turn_from : (j least : ℕ) (kept : List Kept) → least ≤ j → j + length kept ≤ 65536 → InTurn IsMarkFrom after_mark least (marks_of_kept j kept)
turn_from j least [] le few = tt
turn_from j least (k ∷ kept) le few = elim k.death as (λ o. InTurn IsMarkFrom after_mark least (mark_at j o ++ marks_of_kept (suc j) kept)) [
  | None ↦ turn_from (suc j) least kept (omega arith) (omega arith)
  | Some ts ↦ ((omega arith, le), turn_from (suc j) (j + 1) kept (omega arith) (omega arith))
]

pub marks_turn : (kept : List Kept) → length kept ≤ 65536 → InTurn IsMarkFrom after_mark 0 (marks_of_kept 0 kept)
marks_turn kept few = turn_from 0 0 kept (omega arith) (omega arith)

few_from : (j : ℕ) (kept : List Kept) → length (marks_of_kept j kept) ≤ length kept
few_from j [] = omega arith
few_from j (k ∷ kept) =
    let a : length (marks_of_kept (suc j) kept) ≤ length kept = few_from (suc j) kept in
    elim k.death as (λ o. length (mark_at j o ++ marks_of_kept (suc j) kept) ≤ length (k ∷ kept)) [
      | None ↦ omega arith
      | Some ts ↦ omega arith
    ]

pub marks_few : (kept : List Kept) → length kept ≤ 65536 → length (marks_of_kept 0 kept) ≤ 65536
marks_few kept few = let a = few_from 0 kept in omega arith

deaths_from : (many j : ℕ) (kept : List Kept) → j + length kept ≤ many → AreDeathsOf many (map death_of (marks_of_kept j kept))
deaths_from many j [] le = tt
deaths_from many j (k ∷ kept) le = elim k.death as (λ o. AreDeathsOf many (map death_of (mark_at j o ++ marks_of_kept (suc j) kept))) [
  | None ↦ deaths_from many (suc j) kept (omega arith)
  | Some ts ↦ (omega arith, deaths_from many (suc j) kept (omega arith))
]

pub marks_deaths : (many : ℕ) (kept : List Kept) → many ≡ length kept → AreDeathsOf many (map death_of (marks_of_kept 0 kept))
marks_deaths many kept e = deaths_from many 0 kept (omega arith)

-- ---- rows with their marks

none_below : (row j : ℕ) (kept : List Kept) → row < j → death_at row (map death_of (marks_of_kept j kept)) ≡ None
none_below row j [] lt = refl
none_below row j (k ∷ kept) lt = elim k.death as (λ o. death_at row (map death_of (mark_at j o ++ marks_of_kept (suc j) kept)) ≡ None) [
  | None ↦ none_below row (suc j) kept (omega arith)
  | Some ts ↦ passed_first row (j, ts) (marks_of_kept (suc j) kept) (λ e. absurd (let f : j ≡ row = e in omega arith)) ∙ none_below row (suc j) kept (omega arith)
]

skip : (j : ℕ) (ts : Timestamp) (marks : List Mark) (m : ℕ) (rows : List Placed) → j < m → shown_from (map death_of ((j, ts) ∷ marks)) m rows ≡ shown_from (map death_of marks) m rows
skip j ts marks m [] lt = refl
skip j ts marks m (x ∷ rows) lt =
    ap₂ (λ o l. shown_as x o ∷ l) (passed_first m (j, ts) marks (λ e. absurd (let f : j ≡ m = e in omega arith))) (skip j ts marks (suc m) rows (omega arith))

shown_back : (parts : List SegmentPart) (j : ℕ) (kept : List Kept) → shown_from (map death_of (marks_of_kept j kept)) j (map (placed_in parts) kept) ≡ map (shown_in parts) kept
shown_back parts j [] = refl
shown_back parts j (k ∷ kept) =
    elim k.death as (λ o. shown_from (map death_of (mark_at j o ++ marks_of_kept (suc j) kept)) j (placed_in parts k ∷ map (placed_in parts) kept) ≡ shown_as (placed_in parts k) (option_map time_of o) ∷ map (shown_in parts) kept) [
      | None ↦ ap₂ (λ o l. shown_as (placed_in parts k) o ∷ l) (none_below j (suc j) kept (omega arith)) (shown_back parts (suc j) kept)
      | Some ts ↦
          ap₂ (λ o l. shown_as (placed_in parts k) o ∷ l) (found_first j (j, ts) (marks_of_kept (suc j) kept) refl)
          (skip j ts (marks_of_kept (suc j) kept) (suc j) (map (placed_in parts) kept) (omega arith) ∙ shown_back parts (suc j) kept)
    ]

-- kept rows with the marks that were made of them
pub shown_again : (parts : List SegmentPart) (kept : List Kept) → shown_from (map death_of (marks_of_kept 0 kept)) 0 (map (placed_in parts) kept) ≡ map (shown_in parts) kept
shown_again parts = shown_back parts 0
