-- Which segments are merged together: by a compaction, and at a meet.
use Rattle.std.specs.Prelude.{ℕ, ◌+◌, ◌*◌, nat_le, nat_lt, Bool, if◌then◌else◌, List, [], ◌∷◌, ◌++◌, map, length, Option, IfSome}
use Rattle.std.specs.List.{filter, count_by}
use Rattle.log_model.specs.Places.{Placed}
use Rattle.journal_model.specs.declared.notes.Kind.TheVariants.{Number, Merge}
use Rattle.journal_model.specs.declared.notes.Note.{Note}
use Rattle.journal_model.specs.Notes.{note_of}
use Rattle.journal_model.specs.Layouts.{Channel, Segment, rows_in, is_kept, layout_of}
use Rattle.journal_model.specs.Lists.{IsIn}
use Rattle.journal_model.specs.Counts.{on_nodes}

-- how many rows of a segment are not dead at or before the floor
abbrev pub kept_rows : List Note → ℕ → Segment → ℕ
kept_rows notes floor s = count_by (is_kept notes floor) s.piece

-- a group that is not empty, before other groups
abbrev pub and_groups : {X : Type 0} → List X → List (List X) → List (List X)
and_groups [] groups = groups
and_groups (x ∷ group) groups = (x ∷ group) ∷ groups

-- a group takes the next item while the sizes sum to at most `most`; else the next group begins
abbrev pub grouped_from : {X : Type 0} → ℕ → (X → ℕ) → List X → ℕ → List X → List (List X)
grouped_from most size group sum [] = and_groups group []
grouped_from most size group sum (x ∷ xs) =
    if nat_le (sum + size x) most then grouped_from most size (group ++ x ∷ []) (sum + size x) xs
    else and_groups group (grouped_from most size (x ∷ []) (size x) xs)

abbrev pub grouped : {X : Type 0} → ℕ → (X → ℕ) → List X → List (List X)
grouped most size xs = grouped_from most size [] 0 xs

abbrev pub numbers_of : List (List Segment) → List (List ℕ)
numbers_of groups = map (map (λ s. s.number)) groups

-- the segments on nodes of which at most half of `seal_rows` rows are kept
abbrev pub small_in : Channel → List Note → ℕ → List Segment → List Segment
small_in channel notes floor segments = filter (λ s. nat_le (2 * kept_rows notes floor s) channel.seal_rows) (on_nodes segments)

-- the groups that a compaction merges: those of two segments and more
abbrev pub small_groups : Channel → List Note → ℕ → List (List Segment)
small_groups channel notes floor = filter (λ group. nat_le 2 (length group))
    (grouped channel.seal_rows (kept_rows notes floor) (small_in channel notes floor (layout_of channel notes).segments))

-- more than half of the rows are dead at or before the floor
abbrev pub is_mostly_dead : List Note → ℕ → List Placed → Bool
is_mostly_dead notes floor rows = nat_lt (2 * count_by (is_kept notes floor) rows) (length rows)

-- the groups that a meet merges: all segments on nodes, where most of their rows are dead
abbrev pub meet_groups : Channel → List Note → ℕ → List (List Segment)
meet_groups channel notes floor =
    if is_mostly_dead notes floor (rows_in (on_nodes (layout_of channel notes).segments))
    then grouped channel.seal_rows (kept_rows notes floor) (on_nodes (layout_of channel notes).segments) else []

-- ---- the merges of a meet

-- notes that merge each of some groups, in order: Number notes at the floor, and for each group a Merge note, which
-- gives no segment or one of their numbers; `taken` has the numbers so far
pub data MergesOf (floor : ℕ) : List ℕ → List (List ℕ) → List Note → Type 0 where
  Done : (taken : List ℕ) → MergesOf floor taken [] []
  Begins : (by line number : ℕ) (taken : List ℕ) (groups : List (List ℕ)) (notes : List Note)
      → MergesOf floor (number ∷ taken) groups notes → MergesOf floor taken groups (note_of by line (Number number (record { 0 = floor })) ∷ notes)
  Commits : (by line : ℕ) (group : List ℕ) (segment : Option ℕ) (node : ℕ) (taken : List ℕ) (groups : List (List ℕ)) (notes : List Note)
      → IfSome segment (λ number. IsIn number taken) → MergesOf floor taken groups notes → MergesOf floor taken (group ∷ groups) (note_of by line (Merge group segment node) ∷ notes)
