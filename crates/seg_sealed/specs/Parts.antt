-- A segment with its deaths, and what a merge makes of several.
use Rattle.std.specs.Prelude.{◌≡◌, ℕ, suc, ◌<◌, List, [], ◌∷◌, length, map, Option, Some, None}
use Rattle.std.specs.List.{AllByRecursion}
use Rattle.log_model.specs.Places.{Placed}
use Rattle.journal_model.specs.Views.{Shown, merged_parts}
use Rattle.seg_sealed.specs.Segments.{SealedSegment}
use Rattle.seg_sealed.specs.Marks.{Marked, death_at}

-- a segment, the deaths of its rows, and the position of the journal up to which deaths were marked
pub record SegmentPart : Type 0 where
  pub sealed : SealedSegment
  pub deaths : List (ℕ × ℕ)
  pub applied : ℕ

abbrev pub part_of : SealedSegment → Marked → SegmentPart
part_of sealed marks = record { sealed = sealed; deaths = marks.deaths; applied = marks.applied }

abbrev pub shown_as : Placed → Option ℕ → Shown
shown_as x mark = record { position = x.position; ts = x.ts; row = x.row; mark = mark }

-- rows from a row number on, each with its mark
abbrev pub shown_from : List (ℕ × ℕ) → ℕ → List Placed → List Shown
shown_from deaths i [] = []
shown_from deaths i (x ∷ rows) = shown_as x (death_at i deaths) ∷ shown_from deaths (suc i) rows

-- the rows of a part, each with its mark
abbrev pub shown_rows : SegmentPart → List Shown
shown_rows part = shown_from part.deaths 0 part.sealed.rows

-- each death is of one of so many rows
abbrev pub AreDeathsOf : ℕ → List (ℕ × ℕ) → Type 0
AreDeathsOf rows deaths = AllByRecursion (λ death. death.0 < rows) deaths

-- ---- merging

-- the rows that a merge keeps of parts, with their marks: those not dead at or before the floor, by position
abbrev pub kept_rows : ℕ → List SegmentPart → List Shown
kept_rows floor parts = merged_parts floor (map shown_rows parts)

-- the part that a merge gives: of this number and applied up to this position, with the rows that are kept
pub record IsMergedPart (number applied floor : ℕ) (parts : List SegmentPart) (part : SegmentPart) : Type 0 where
  pub number_is : part.sealed.number ≡ number
  pub applied_is : part.applied ≡ applied
  pub rows : shown_rows part ≡ kept_rows floor parts
  pub some : 0 < length (kept_rows floor parts)

-- what a merge gives: no part exactly where no row is kept
abbrev pub IsMerged : ℕ → ℕ → ℕ → List SegmentPart → Option SegmentPart → Type 0
IsMerged number applied floor parts None = kept_rows floor parts ≡ []
IsMerged number applied floor parts (Some part) = IsMergedPart number applied floor parts part
