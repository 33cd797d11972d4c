-- Where the rows of a journal stand: the tail, and the segments with their numbers, pieces and homes.
use Rattle.std.specs.Prelude.{ℕ, ◌+◌, ◌*◌, nat_eq, nat_lt, Bool, true, false, not, ◌&&◌, if◌then◌else◌, List, [], ◌∷◌, ◌++◌, map, length, take, Option, Some, None}
use Rattle.std.specs.List.{filter, find, list_any}
use Rattle.journal_model.specs.declared.notes.Home.{Home}
use Rattle.journal_model.specs.declared.notes.Home.TheVariants.{Leader, Node}
use Rattle.journal_model.specs.declared.notes.Kind.{Kind}
use Rattle.journal_model.specs.declared.notes.Kind.TheVariants.{Put, Seal, Number, Load, Release, Merge}
use Rattle.journal_model.specs.declared.notes.Note.{Note}
use Rattle.log_model.specs.Places.{Placed}
use Rattle.journal_model.specs.Puts.{effective_put, death, is_dead_by}
use Rattle.journal_model.specs.Lists.{insert_by, rising_by}
use Rattle.journal_model.specs.Walks.{walked}

-- a channel: its number, and the rows at which its tail is sealed
pub record Channel : Type 0 where
  pub number : ℕ
  pub seal_rows : ℕ

-- a sealed list of rows, its piece, with its number and its homes
pub record Segment : Type 0 where
  pub number : ℕ
  pub piece : List Placed
  pub homes : List Home

-- a merge that was begun, by a Number note that ended the first `at` notes
pub record BegunMerge : Type 0 where
  pub number : ℕ
  pub by : ℕ
  pub floor : ℕ
  pub at : ℕ

-- the rows that are in no segment, the segments in rising order of numbers, the merges that were begun
-- and whose numbers no merge has used, and how many numbers were taken
pub record Layout : Type 0 where
  pub tail : List Placed
  pub segments : List Segment
  pub begun : List BegunMerge
  pub taken : ℕ

abbrev pub empty_layout : Layout
empty_layout = record { tail = []; segments = []; begun = []; taken = 0 }

-- the numbers of segments are taken in this order
abbrev pub number_at : Channel → ℕ → ℕ
number_at channel n = n * 16 + channel.number

-- ---- the tail and its boundaries

abbrev pub waiting_segment : ℕ → List Placed → Segment
waiting_segment number piece = record { number = number; piece = piece; homes = Leader ∷ [] }

-- these rows become a waiting segment with the next number, and the tail is empty again
abbrev pub after_boundary : Channel → Layout → List Placed → Layout
after_boundary channel layout rows = record layout {
  tail = [];
  segments = layout.segments ++ waiting_segment (number_at channel layout.taken) rows ∷ [];
  taken = layout.taken + 1;
}

abbrev pub with_tail : Layout → List Placed → Layout
with_tail layout rows = record layout { tail = rows }

-- a row joins the tail, which is sealed where it has `seal_rows` rows then
abbrev pub with_row : Channel → Layout → Option Placed → Layout
with_row channel layout None = layout
with_row channel layout (Some x) =
    if nat_eq (length (layout.tail ++ x ∷ [])) channel.seal_rows then after_boundary channel layout (layout.tail ++ x ∷ [])
    else with_tail layout (layout.tail ++ x ∷ [])

-- a tail that is not empty is sealed
abbrev pub after_seal : Channel → Layout → Layout
after_seal channel layout = if nat_eq (length layout.tail) 0 then layout else after_boundary channel layout layout.tail

-- ---- homes

abbrev pub is_home : Home → Home → Bool
is_home Leader Leader = true
is_home (Node node) (Node other) = nat_eq node other
is_home home other = false

-- the leader goes, and the node comes
abbrev pub homes_after_load : ℕ → List Home → List Home
homes_after_load node homes = filter (λ home. not (is_home Leader home)) homes ++ Node node ∷ []

abbrev pub homes_after_release : ℕ → List Home → List Home
homes_after_release node homes = filter (λ home. not (is_home (Node node) home)) homes

abbrev pub with_homes : (List Home → List Home) → Segment → Segment
with_homes change s = record s { homes = change s.homes }

-- the homes of the segment with a number change
abbrev pub rehome : ℕ → (List Home → List Home) → List Segment → List Segment
rehome number change [] = []
rehome number change (s ∷ segments) = if nat_eq s.number number then with_homes change s ∷ segments else s ∷ rehome number change segments

abbrev pub with_segments : Layout → List Segment → Layout
with_segments layout segments = record layout { segments = segments }

-- ---- merges

-- the rows of all these segments, one segment after another
abbrev pub rows_in : List Segment → List Placed
rows_in [] = []
rows_in (s ∷ segments) = s.piece ++ rows_in segments

abbrev pub is_among : List ℕ → Segment → Bool
is_among numbers s = list_any (λ number. nat_eq s.number number) numbers

abbrev pub sources_in : List ℕ → List Segment → List Segment
sources_in numbers segments = filter (is_among numbers) segments

abbrev pub others_in : List ℕ → List Segment → List Segment
others_in numbers segments = filter (λ s. not (is_among numbers s)) segments

abbrev pub put_in : Placed → List Placed → List Placed
put_in x xs = insert_by (λ y. y.position) x xs

abbrev pub by_position : List Placed → List Placed
by_position xs = rising_by (λ y. y.position) xs

-- a row that was not dead at or before the floor
abbrev pub is_kept : List Note → ℕ → Placed → Bool
is_kept notes floor x = not (is_dead_by floor (death notes x))

-- the rows of some segments that were not dead at or before the floor, by position
abbrev pub kept_in : List Note → ℕ → List Segment → List Placed
kept_in notes floor segments = by_position (filter (is_kept notes floor) (rows_in segments))

-- the rows that a merge keeps of its sources: those not dead at or before its floor, by the notes up to its beginning
abbrev pub merged_piece : List Note → Layout → List ℕ → BegunMerge → List Placed
merged_piece before layout sources b = kept_in (take b.at before) b.floor (sources_in sources layout.segments)

-- a segment among others in rising order of numbers
abbrev pub with_segment : Segment → List Segment → List Segment
with_segment s [] = s ∷ []
with_segment s (other ∷ others) = if nat_lt s.number other.number then s ∷ other ∷ others else other ∷ with_segment s others

abbrev pub without_begun : ℕ → List BegunMerge → List BegunMerge
without_begun number begun = filter (λ b. not (nat_eq b.number number)) begun

-- the merge that a seat began with a number
abbrev pub begun_merge : Layout → ℕ → ℕ → Option BegunMerge
begun_merge layout by number = find (λ b. nat_eq b.number number && nat_eq b.by by) layout.begun

abbrev pub with_merged : List Note → Layout → List ℕ → ℕ → Option BegunMerge → List Segment → List Segment
with_merged before layout sources node None others = others
with_merged before layout sources node (Some b) others = with_segment (record { number = b.number; piece = merged_piece before layout sources b; homes = Node node ∷ [] }) others

-- the sources go; the merge, if it gives a segment, comes on the node under its number
abbrev pub after_merge : List Note → ℕ → Layout → List ℕ → Option ℕ → ℕ → Layout
after_merge before by layout sources None node = with_segments layout (others_in sources layout.segments)
after_merge before by layout sources (Some number) node = record layout {
  segments = with_merged before layout sources node (begun_merge layout by number) (others_in sources layout.segments);
  begun = without_begun number layout.begun;
}

-- ---- the walk

-- a merge begins: its number is taken
abbrev pub after_number : List Note → ℕ → Layout → ℕ → ℕ → Layout
after_number before by layout segment floor = record layout {
  begun = layout.begun ++ record { number = segment; by = by; floor = floor; at = length before + 1 } ∷ [];
  taken = layout.taken + 1;
}

-- what a note of a kind, by a seat, makes of the layout behind the notes before
abbrev pub layout_after : Channel → List Note → ℕ → Layout → Kind → Layout
layout_after channel before by layout (Put ts how row) = with_row channel layout (effective_put before ts.0 how row)
layout_after channel before by layout (Seal ts) = after_seal channel layout
layout_after channel before by layout (Number segment floor) = after_number before by layout segment floor.0
layout_after channel before by layout (Load segment node) = with_segments layout (rehome segment (homes_after_load node) layout.segments)
layout_after channel before by layout (Release segment node) = with_segments layout (rehome segment (homes_after_release node) layout.segments)
layout_after channel before by layout (Merge sources segment node) = after_merge before by layout sources segment node
layout_after channel before by layout _ = layout

abbrev pub next_layout : Channel → List Note → Layout → Note → Layout
next_layout channel before layout note = layout_after channel before note.by layout note.kind

-- where the rows stand after all notes
unfoldable pub layout_of : Channel → List Note → Layout
layout_of channel notes = walked (next_layout channel) empty_layout notes

abbrev pub tail_of : Channel → List Note → List Placed
tail_of channel notes = (layout_of channel notes).tail

-- the homes of each segment, and its piece
abbrev pub homes_of : Channel → List Note → List (ℕ × List Home)
homes_of channel notes = map (λ s. (s.number, s.homes)) (layout_of channel notes).segments

abbrev pub pieces_of : Channel → List Note → List (ℕ × List Placed)
pieces_of channel notes = map (λ s. (s.number, s.piece)) (layout_of channel notes).segments
