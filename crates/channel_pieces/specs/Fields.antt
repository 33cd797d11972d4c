-- How the fields of the types are seen, and what they keep; only proofs need it.
use Rattle.std.specs.Prelude.{◌≡◌, ℕ, suc, ◌+◌, ◌<◌, ◌≤◌, nat_eq, Bool, if◌then◌else◌, List, [], ◌∷◌, ◌++◌, map, length, Option, Some, None}
use Rattle.std.specs.Option.{option_map, IfSome}
use Rattle.std.specs.List.{AllByRecursion, count_by}
use Rattle.std.specs.Ordering.{nat_cmp}
use Rattle.std.specs.FinMap as fin
use Rattle.std.specs.Global.{Vec}
use Rattle.hybrid_time.specs.declared.times.Timestamp.{Timestamp}
use Rattle.row_types.specs.declared.rows.Kind.{Kind}
use Rattle.row_types.specs.Bits.{IsDimension}
use Rattle.log_model.specs.Places.{Placed}
use Rattle.journal_model.specs.declared.notes.Home.{Home}
use Rattle.journal_model.specs.Views.{Shown}
use Rattle.seg_sealed.specs.Segments.{SealedSegment, IsRowOf, position_of}
use Rattle.seg_sealed.specs.Marks.{Marked, death_at, with_death}
use Rattle.seg_sealed.specs.Parts.{SegmentPart, AreDeathsOf, shown_from, shown_rows}
use Rattle.place_table.specs.Tables.{Placement, Table}
use Rattle.channel_pieces.specs.declared.counting.PieceCounts.{PieceCounts}
use Rattle.channel_pieces.specs.declared.keeping.KeptRows.{KeptRows}
use Rattle.channel_pieces.specs.Counting.{is_unmarked}
use Rattle.channel_pieces.specs.Keeping.{outlives}
use Rattle.channel_pieces.specs.Pieces.{MarkedSegment, MarkedLayout, HasShape, placed_of, marked_by, places_of}

-- ---- marks that are made of deaths

-- positions that strictly rise
abbrev pub Climb : List ℕ → Type 0
Climb [] = Unit {0}
Climb (p ∷ positions) = AllByRecursion (λ q. p < q) positions × Climb positions

abbrev pub places_in : List (ℕ × Timestamp) → List ℕ
places_in deaths = map (λ d. d.0) deaths

abbrev pub index_from : ℕ → List ℕ → ℕ → Option ℕ
index_from i [] position = None
index_from i (p ∷ positions) position = if nat_eq p position then Some i else index_from (suc i) positions position

-- where a position stands among others
abbrev pub index_in : List ℕ → ℕ → Option ℕ
index_in positions position = index_from 0 positions position

abbrev pub unless_marked : Option ℕ → ℕ → Timestamp → List (ℕ × Timestamp)
unless_marked None row ts = (row, ts) ∷ []
unless_marked (Some mark) row ts = []

abbrev pub hit_at : List (ℕ × ℕ) → Timestamp → Option ℕ → List (ℕ × Timestamp)
hit_at marks ts None = []
hit_at marks ts (Some row) = unless_marked (death_at row marks) row ts

-- the row numbers that some deaths hit, of rows at some positions, where no mark stands yet
abbrev pub hits_of : List ℕ → List (ℕ × ℕ) → List (ℕ × Timestamp) → List (ℕ × Timestamp)
hits_of positions marks [] = []
hits_of positions marks (d ∷ deaths) = hit_at marks d.1 (index_in positions d.0) ++ hits_of positions marks deaths

-- marks with one more for each hit
abbrev pub with_hits : List (ℕ × Timestamp) → List (ℕ × ℕ) → List (ℕ × ℕ)
with_hits [] marks = marks
with_hits (h ∷ hits) marks = with_hits hits (with_death h.0 h.1.0 marks)

-- each hit is of a row that has no mark when its turn comes
abbrev pub AreOpen : List (ℕ × Timestamp) → List (ℕ × ℕ) → Type 0
AreOpen [] marks = Unit {0}
AreOpen (h ∷ hits) marks = (death_at h.0 marks ≡ None) × AreOpen hits (with_death h.0 h.1.0 marks)

-- the marks that are to come, if any are, or else those that are there
abbrev pub deaths_next : Option Marked → Marked → List (ℕ × ℕ)
deaths_next None marks = marks.deaths
deaths_next (Some next) marks = next.deaths

-- ---- a tail and a piece

-- the rows of a tail, as they are, and as they are once its deaths are marked
pub record MarkedTail : Type 0 where
  pub dim : ℕ
  pub rows : List Shown
  pub next : List Shown

-- a segment without its homes, likewise
pub record Piece : Type 0 where
  pub number : ℕ
  pub dim : ℕ
  pub kinds : List Kind
  pub rows : List Shown
  pub next : List Shown

-- marks, and those to come, are of these rows
pub record AreMarksOf (rows : ℕ) (marks : Marked) (next : Option Marked) : Type 0 where
  pub now : AreDeathsOf rows marks.deaths
  pub later : IfSome next (λ m. AreDeathsOf rows m.deaths)

-- with the marks of some deaths prepared, and with those made that are
abbrev pub tail_readied : List (ℕ × Timestamp) → MarkedTail → MarkedTail
tail_readied deaths t = record { dim = t.dim; rows = t.rows; next = map (marked_by deaths) t.rows }

abbrev pub tail_committed : MarkedTail → MarkedTail
tail_committed t = record { dim = t.dim; rows = t.next; next = t.next }

abbrev pub readied : List (ℕ × Timestamp) → Piece → Piece
readied deaths s = record { number = s.number; dim = s.dim; kinds = s.kinds; rows = s.rows; next = map (marked_by deaths) s.rows }

abbrev pub committed : Piece → Piece
committed s = record { number = s.number; dim = s.dim; kinds = s.kinds; rows = s.next; next = s.next }

-- without the marks that are prepared
abbrev pub settled : Piece → Piece
settled s = record { number = s.number; dim = s.dim; kinds = s.kinds; rows = s.rows; next = s.rows }

abbrev pub piece_of : SealedSegment → Marked → Option Marked → Piece
piece_of sealed marks next = record { number = sealed.number; dim = sealed.dim; kinds = sealed.kinds; rows = shown_from marks.deaths 0 sealed.rows; next = shown_from (deaths_next next marks) 0 sealed.rows }

-- a part for the readers of a piece
pub record IsPartOfPiece (s : Piece) (part : SegmentPart) : Type 0 where
  pub number_is : part.sealed.number ≡ s.number
  pub shape : HasShape s.dim s.kinds part
  pub rows_are : shown_rows part ≡ s.rows

pub record KeepsTail (rows : List Placed) (positions : List ℕ) (marks : Marked) (next : Option Marked) : Type 0 where
  pub positions_are : positions ≡ map position_of rows
  pub marks_fit : AreMarksOf (length rows) marks next

-- a part that is kept for sharing is of the segment and its marks
pub record IsPartOf (sealed : SealedSegment) (marks : Marked) (part : SegmentPart) : Type 0 where
  pub sealed_is : part.sealed ≡ sealed
  pub deaths_are : part.deaths ≡ marks.deaths

pub record KeepsPiece (sealed : SealedSegment) (marks : Marked) (next : Option Marked) (part : Option SegmentPart) : Type 0 where
  pub marks_fit : AreMarksOf (length sealed.rows) marks next
  pub part_is : IfSome part (IsPartOf sealed marks)

-- counts with those of one segment more, which waits at the leader or stands on nodes
abbrev pub counts_after : Bool → List Shown → PieceCounts → PieceCounts
counts_after waits rows c =
    if waits then record { tail = c.tail; waiting = c.waiting + 1; node_rows = c.node_rows; node_live = c.node_live }
    else record { tail = c.tail; waiting = c.waiting; node_rows = c.node_rows + length rows; node_live = c.node_live + count_by is_unmarked rows }

-- a piece with its rows and those that a floor leaves
abbrev pub kept_in_piece : ℕ → Piece → KeptRows
kept_in_piece floor s = record { number = s.number; rows = length s.rows; kept = count_by (outlives floor) s.rows }

-- ---- the pieces of a channel

abbrev pub homes_of : Option Placement → List Home
homes_of None = []
homes_of (Some p) = p.homes

-- a piece with its homes
abbrev pub homed : fin.FinMap nat_cmp Placement → Piece → MarkedSegment
homed places s = record { number = s.number; homes = homes_of (fin.get places s.number); rows = s.rows }

abbrev pub seen : List Kind → MarkedTail → List Piece → Table → MarkedLayout
seen kinds tail pieces places = record { dim = tail.dim; kinds = kinds; nodes = places.nodes; tail = tail.rows; segments = map (homed places.segments) pieces }

abbrev pub Fits : ℕ → List Kind → Shown → Type 0
Fits dim kinds s = IsRowOf dim kinds (placed_of s)

pub record IsPiece (dim : ℕ) (kinds : List Kind) (s : Piece) : Type 0 where
  pub dim_is : s.dim ≡ dim
  pub kinds_are : s.kinds ≡ kinds

-- how many rows the piece with a number has
abbrev pub rows_at : List Piece → ℕ → Option ℕ
rows_at [] number = None
rows_at (s ∷ pieces) number = if nat_eq s.number number then Some (length s.rows) else rows_at pieces number

abbrev pub numbers_of : List Piece → List ℕ
numbers_of pieces = map (λ s. s.number) pieces

pub record KeepsPieces (kinds : List Kind) (tail : MarkedTail) (pieces : List Piece) (places : Table) : Type 0 where
  pub dim : IsDimension tail.dim
  pub width : length kinds ≤ 16
  pub tail_fits : AllByRecursion (Fits tail.dim kinds) tail.rows
  pub pieces_fit : AllByRecursion (IsPiece tail.dim kinds) pieces
  pub rise : Climb (numbers_of pieces)
  pub placed : (number : ℕ) → option_map (λ p. p.rows) (fin.get places.segments number) ≡ rows_at pieces number

-- a list that is kept for sharing has a part for each home of each segment
pub record IsListOf (dim : ℕ) (kinds : List Kind) (segments : List MarkedSegment) (parts : List SegmentPart) : Type 0 where
  pub rows_are : map shown_rows parts ≡ places_of segments
  pub shapes : AllByRecursion (HasShape dim kinds) parts

pub record KeepsAll (kinds : List Kind) (tail : MarkedTail) (pieces : List Piece) (places : Table) (list : Option (Vec SegmentPart)) : Type 0 where
  pub kept : KeepsPieces kinds tail pieces places
  pub listed : IfSome list (λ (parts : Vec SegmentPart). IsListOf tail.dim kinds (map (homed places.segments) pieces) parts.items)
