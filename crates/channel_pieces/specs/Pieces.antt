-- The pieces of a channel: the rows of its tail and of its segments with their marks, and where the segments stand.
use Rattle.std.specs.Prelude.{◌≡◌, ℕ, nat_eq, Bool, not, if◌then◌else◌, List, [], ◌∷◌, ◌++◌, map, length, Option, Some, None}
use Rattle.std.specs.Option.{option_map, option_or}
use Rattle.std.specs.List.{filter, list_any, IsDistinct}
use Rattle.std.specs.Map.{lookup}
use Rattle.std.specs.FinMap as fin
use Rattle.hybrid_time.specs.declared.times.Timestamp.{Timestamp}
use Rattle.row_types.specs.declared.rows.Kind.{Kind}
use Rattle.log_model.specs.Places.{Placed, placed}
use Rattle.journal_model.specs.declared.notes.Home.{Home}
use Rattle.journal_model.specs.declared.notes.Home.TheVariants.{Leader}
use Rattle.journal_model.specs.Layouts.{is_home}
use Rattle.journal_model.specs.Views.{Shown}
use Rattle.seg_sealed.specs.Parts.{SegmentPart, shown_as}
use Rattle.place_table.specs.Tables.{Table}

-- a sealed segment: its number, its homes, and its rows in order, each with its mark
pub record MarkedSegment : Type 0 where
  pub number : ℕ
  pub homes : List Home
  pub rows : List Shown

-- the pieces of a channel: the dimension and the column kinds of all its rows, the number of its nodes, the rows of
-- its tail, each with its mark, and its segments in rising order of numbers
pub record MarkedLayout : Type 0 where
  pub dim : ℕ
  pub kinds : List Kind
  pub nodes : ℕ
  pub tail : List Shown
  pub segments : List MarkedSegment

abbrev pub no_pieces : ℕ → List Kind → ℕ → MarkedLayout
no_pieces dim kinds nodes = record { dim = dim; kinds = kinds; nodes = nodes; tail = []; segments = [] }

-- ---- the tail

-- a row without its mark
abbrev pub placed_of : Shown → Placed
placed_of s = placed s.position s.ts s.row

-- a row joins the tail, without a mark
abbrev pub with_row : Placed → MarkedLayout → MarkedLayout
with_row x layout = record layout { tail = layout.tail ++ shown_as x None ∷ [] }

-- the tail becomes a segment that waits at the leader, with its marks, and is empty again
abbrev pub after_close : ℕ → MarkedLayout → MarkedLayout
after_close number layout = record layout {
  tail = [];
  segments = layout.segments ++ record { number = number; homes = Leader ∷ []; rows = layout.tail } ∷ [];
}

-- ---- deaths of rows, each by its position and with its timestamp

-- no position stands twice
abbrev pub AreOnce : List (ℕ × Timestamp) → Type 0
AreOnce deaths = IsDistinct nat_eq (map (λ d. d.0) deaths)

-- when the row at a position died, if it did
abbrev pub death_in : List (ℕ × Timestamp) → ℕ → Option ℕ
death_in deaths position = option_map (λ ts. ts.0) (lookup (nat_eq position) deaths)

-- a row after some deaths: it has its mark, and where it had none that of its death among them
abbrev pub marked_by : List (ℕ × Timestamp) → Shown → Shown
marked_by deaths s = record { position = s.position; ts = s.ts; row = s.row; mark = option_or s.mark (death_in deaths s.position) }

abbrev pub segment_marked : List (ℕ × Timestamp) → MarkedSegment → MarkedSegment
segment_marked deaths s = record { number = s.number; homes = s.homes; rows = map (marked_by deaths) s.rows }

-- all rows after some deaths
abbrev pub after_deaths : List (ℕ × Timestamp) → MarkedLayout → MarkedLayout
after_deaths deaths layout = record layout {
  tail = map (marked_by deaths) layout.tail;
  segments = map (segment_marked deaths) layout.segments;
}

-- ---- homes

-- the segment with a number
abbrev pub segment_in : List MarkedSegment → ℕ → Option MarkedSegment
segment_in [] number = None
segment_in (s ∷ segments) number = if nat_eq s.number number then Some s else segment_in segments number

-- the homes of the segment with a number change
abbrev pub rehomed : ℕ → (List Home → List Home) → List MarkedSegment → List MarkedSegment
rehomed number change [] = []
rehomed number change (s ∷ segments) =
    if nat_eq s.number number then record { number = s.number; homes = change s.homes; rows = s.rows } ∷ segments
    else s ∷ rehomed number change segments

abbrev pub with_homes : ℕ → (List Home → List Home) → MarkedLayout → MarkedLayout
with_homes number change layout = record layout { segments = rehomed number change layout.segments }

abbrev pub is_at : Home → MarkedSegment → Bool
is_at home s = list_any (is_home home) s.homes

abbrev pub is_elsewhere : Home → MarkedSegment → Bool
is_elsewhere home s = list_any (λ other. not (is_home home other)) s.homes

-- the numbers of the segments that have this home
abbrev pub numbers_at : Home → List MarkedSegment → List ℕ
numbers_at home segments = map (λ s. s.number) (filter (is_at home) segments)

-- the table of the segments' homes
abbrev pub table_of : MarkedLayout → Table
table_of layout = record { nodes = layout.nodes; segments = fin.from_entries (map (λ s. (s.number, record { rows = length s.rows; homes = s.homes })) layout.segments) }

-- ---- parts

-- the rows of each place of each segment
abbrev pub places_of : List MarkedSegment → List (List Shown)
places_of [] = []
places_of (s ∷ segments) = map (λ home. s.rows) s.homes ++ places_of segments

-- a part has vectors of this dimension and columns of these kinds
pub record HasShape (dim : ℕ) (kinds : List Kind) (part : SegmentPart) : Type 0 where
  pub dim_is : part.sealed.dim ≡ dim
  pub kinds_are : part.sealed.kinds ≡ kinds
