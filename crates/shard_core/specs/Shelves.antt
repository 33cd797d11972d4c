-- What a channel shows of its rows: the tail, and the segments with their homes, each row with its mark.
use Rattle.std.specs.Prelude.{ℕ, nat_eq, nat_lt, Bool, not, if◌then◌else◌, List, [], ◌∷◌, map, Option, Some, None}
use Rattle.std.specs.List.{filter, list_any}
use Rattle.std.specs.Option.{option_map}
use Rattle.journal_model.specs.declared.notes.Home.{Home}
use Rattle.journal_model.specs.declared.notes.Home.TheVariants.{Node}
use Rattle.journal_model.specs.declared.notes.Note.{Note}
use Rattle.journal_model.specs.Layouts.{Channel, Segment, Layout, begun_merge, merged_piece, layout_of}
use Rattle.journal_model.specs.Views.{Shown, View, shown}
use Rattle.channel_pieces.specs.Pieces.{MarkedSegment, MarkedLayout, places_of}

-- the tail's rows with their marks, and the segments in rising order of numbers
pub record Shelves : Type 0 where
  pub tail : List Shown
  pub segments : List MarkedSegment

-- what pieces show
abbrev pub shelves_in_pieces : MarkedLayout → Shelves
shelves_in_pieces pieces = record { tail = pieces.tail; segments = pieces.segments }

abbrev pub no_shelves : Shelves
no_shelves = record { tail = []; segments = [] }

-- ---- what a journal shows

abbrev pub shelf_of : List Note → Segment → MarkedSegment
shelf_of notes s = record { number = s.number; homes = s.homes; rows = map (shown notes) s.piece }

abbrev pub shelves_in : List Note → Layout → Shelves
shelves_in notes layout = record { tail = map (shown notes) layout.tail; segments = map (shelf_of notes) layout.segments }

-- the tail and the pieces of all segments, each row with the timestamp of its death
abbrev pub shelves_of : Channel → List Note → Shelves
shelves_of channel notes = shelves_in notes (layout_of channel notes)

-- ---- the view of it

abbrev pub seen_in : ℕ → ℕ → Shelves → View
seen_in floor tick s = record { floor = floor; tick = tick; parts = s.tail ∷ places_of s.segments }

-- ---- homes

abbrev pub is_shelved : List MarkedSegment → ℕ → Bool
is_shelved segments number = list_any (λ s. nat_eq s.number number) segments

-- the homes of a segment; none where it is not there
abbrev pub homes_at : List MarkedSegment → ℕ → List Home
homes_at [] number = []
homes_at (s ∷ segments) number = if nat_eq s.number number then s.homes else homes_at segments number

-- ---- merges

-- the segments that are not among these
abbrev pub shelves_but : List ℕ → List MarkedSegment → List MarkedSegment
shelves_but sources segments = filter (λ s. not (list_any (λ number. nat_eq s.number number) sources)) segments

-- a segment among others in rising order of numbers
abbrev pub with_shelf : MarkedSegment → List MarkedSegment → List MarkedSegment
with_shelf s [] = s ∷ []
with_shelf s (other ∷ others) = if nat_lt s.number other.number then s ∷ other ∷ others else other ∷ with_shelf s others

-- the sources go, and what the merge gives comes on the node: a number and rows, or nothing
abbrev pub with_product : ℕ → Option (ℕ × List Shown) → List MarkedSegment → List MarkedSegment
with_product node None others = others
with_product node (Some product) others = with_shelf (record { number = product.0; homes = Node node ∷ []; rows = product.1 }) others

-- what a merge that was begun gives: its number, and the rows that it keeps
abbrev pub product_of : List Note → ℕ → Layout → List ℕ → Option ℕ → Option (ℕ × List Shown)
product_of notes by layout sources None = None
product_of notes by layout sources (Some number) =
    option_map (λ b. (b.number, map (shown notes) (merged_piece notes layout sources b))) (begun_merge layout by number)

abbrev pub merged_shelves : List ℕ → Option (ℕ × List Shown) → ℕ → List MarkedSegment → List MarkedSegment
merged_shelves sources product node segments = with_product node product (shelves_but sources segments)
