-- The rows that a merge keeps, named by their places in the parts; only proofs need it.
use Rattle.std.specs.Prelude.{◌≡◌, ℕ, zero, suc, ◌<◌, nat_eq, Bool, not, if◌then◌else◌, pos, List, [], ◌∷◌, ◌++◌, length, map, slice_index_or, Option, Some, None}
use Rattle.std.specs.Option.{option_map}
use Rattle.hybrid_time.specs.declared.times.Timestamp.{Timestamp}
use Rattle.log_model.specs.Places.{Placed, placed}
use Rattle.journal_model.specs.Puts.{is_dead_by}
use Rattle.journal_model.specs.Views.{Shown}
use Rattle.seg_sealed.specs.Segments.{position_of}
use Rattle.seg_sealed.specs.Marks.{death_at}
use Rattle.seg_sealed.specs.Parts.{SegmentPart, shown_as}
use Rattle.seg_merge.specs.declared.kept.Kept.{Kept}
use Rattle.seg_merge.specs.Merges.{rows_of}

-- a row for where there is none
abbrev pub no_row : Placed
no_row = placed 0 0 (record { key = record { 0 = pos 0 }; vector = []; fields = [] })

-- the rows of the part at a place
abbrev pub rows_at : List SegmentPart → ℕ → List Placed
rows_at parts place = slice_index_or (map rows_of parts) place []

-- the row that a kept row names
abbrev pub placed_in : List SegmentPart → Kept → Placed
placed_in parts k = slice_index_or (rows_at parts k.part) k.row no_row

abbrev pub time_of : Timestamp → ℕ
time_of ts = ts.0

abbrev pub at_time : ℕ → Timestamp
at_time ts = record { 0 = ts }

-- that row with its mark
abbrev pub shown_in : List SegmentPart → Kept → Shown
shown_in parts k = shown_as (placed_in parts k) (option_map time_of k.death)

-- it names a row of one of the parts, and that row's position
pub record IsKept (parts : List SegmentPart) (k : Kept) : Type 0 where
  pub part : k.part < length parts
  pub row : k.row < length (rows_at parts k.part)
  pub position : k.position ≡ (placed_in parts k).position

abbrev pub placed_of : Shown → Placed
placed_of s = placed s.position s.ts s.row

abbrev pub at_position : Shown → ℕ
at_position s = s.position

-- ---- what a floor leaves

abbrev pub outlives : ℕ → Shown → Bool
outlives floor s = not (is_dead_by floor s.mark)

abbrev pub kept_at : ℕ → ℕ → ℕ → Option ℕ → Kept
kept_at place row position death = record { position = position; part = place; row = row; death = option_map at_time death }

-- of the rows at some positions, numbered from a number on, those that are not dead at or before a floor
abbrev pub kept_from : ℕ → ℕ → List (ℕ × ℕ) → ℕ → List ℕ → List Kept
kept_from place floor deaths i [] = []
kept_from place floor deaths i (position ∷ positions) =
    if is_dead_by floor (death_at i deaths) then kept_from place floor deaths (suc i) positions else kept_at place i position (death_at i deaths) ∷ kept_from place floor deaths (suc i) positions

-- those of parts, which have places from a place on
abbrev pub kept_of_parts : ℕ → ℕ → List SegmentPart → List Kept
kept_of_parts floor place [] = []
kept_of_parts floor place (part ∷ parts) = kept_from place floor part.deaths 0 (map position_of part.sealed.rows) ++ kept_of_parts floor (suc place) parts

-- a row, unless it is dead at or before a floor
abbrev pub unless_dead : ℕ → Kept → List Kept
unless_dead floor k = if is_dead_by floor (option_map time_of k.death) then [] else k ∷ []

-- the death of the first mark, if it is of this row, and the marks behind it
abbrev pub first_mark : ℕ → List (ℕ × Timestamp) → Option Timestamp
first_mark row [] = None
first_mark row (mark ∷ marks) = if nat_eq mark.0 row then Some mark.1 else None

abbrev pub behind_mark : ℕ → List (ℕ × Timestamp) → List (ℕ × Timestamp)
behind_mark row [] = []
behind_mark row (mark ∷ marks) = if nat_eq mark.0 row then marks else mark ∷ marks

-- ---- runs

-- rows of the part at a place that follow one another from a row number on
abbrev pub IsStretch : ℕ → ℕ → List Kept → Type 0
IsStretch place row [] = Unit {0}
IsStretch place row (k ∷ ks) = (k.part ≡ place) × (k.row ≡ row) × IsStretch place (suc row) ks

-- ---- marks

abbrev pub mark_at : ℕ → Option Timestamp → List (ℕ × Timestamp)
mark_at i None = []
mark_at i (Some ts) = (i, ts) ∷ []

-- the marks of kept rows, which have row numbers from a number on
abbrev pub marks_of_kept : ℕ → List Kept → List (ℕ × Timestamp)
marks_of_kept i [] = []
marks_of_kept i (k ∷ ks) = mark_at i k.death ++ marks_of_kept (suc i) ks
