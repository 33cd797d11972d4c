-- What a view shows, and when it is exact.
use Rattle.std.specs.Prelude.{◌≡◌, ◌↔◌, ℕ, ◌≤◌, nat_le, Bool, true, not, ◌&&◌, List, [], ◌∷◌, ◌++◌, map, Option, Some}
use Rattle.std.specs.Option.{option_or}
use Rattle.std.specs.List.{filter}
use Rattle.std.specs.FinMap as fin
use Rattle.row_types.specs.declared.rows.Row.{Row}
use Rattle.log_model.specs.Logs.{live}
use Rattle.journal_model.specs.declared.notes.Note.{Note}
use Rattle.journal_model.specs.Notes.{log_of, tick_of}
use Rattle.journal_model.specs.Puts.{first_end, death, is_dead_by}
use Rattle.journal_model.specs.Layouts.{Channel, Segment, layout_of}
use Rattle.journal_model.specs.Lists.{IsIn, joined, rising_by}
use Rattle.log_model.specs.Places.{Placed}

-- a row of a part: its position and timestamp, and the timestamp of its death, if it is marked
pub record Shown : Type 0 where
  pub position : ℕ
  pub ts : ℕ
  pub row : Row
  pub mark : Option ℕ

-- what a look gives of a channel: the floor, the tick, and the parts
pub record View : Type 0 where
  pub floor : ℕ
  pub tick : ℕ
  pub parts : List (List Shown)

abbrev pub shown : List Note → Placed → Shown
shown notes x = record { position = x.position; ts = x.ts; row = x.row; mark = death notes x }

-- a part stands for a piece up to the end of some notes: the rows of the piece, with their marks
abbrev pub StandsFor : List Note → List Shown → List Placed → Type 0
StandsFor notes part piece = part ≡ map (shown notes) piece

-- a row of a part after more notes: they may mark it, if it was not marked
abbrev pub advanced : List Note → Shown → Shown
advanced more s = record { position = s.position; ts = s.ts; row = s.row; mark = option_or s.mark (first_end s.row.key.0 more) }

-- what a merge makes of parts: the rows that are not dead at or before the floor, by position
abbrev pub merged_parts : ℕ → List (List Shown) → List Shown
merged_parts floor parts = rising_by (λ s. s.position) (filter (λ s. not (is_dead_by floor s.mark)) (joined parts))

-- a row is visible at a timestamp: it was put by then, and is not dead by then
abbrev pub is_visible : ℕ → Shown → Bool
is_visible t s = nat_le s.ts t && not (is_dead_by t s.mark)

-- a row is visible at a timestamp in some part of a view
abbrev pub IsSeen : View → ℕ → Row → Type 0
IsSeen view t row = (s : Shown) × IsIn s (joined view.parts) × (is_visible t s ≡ true) × (s.row ≡ row)

-- a row is that of its key in the live rows of the log
abbrev pub IsLiveAt : List Note → ℕ → Row → Type 0
IsLiveAt notes t row = fin.get (live (log_of notes) t) row.key.0 ≡ Some row

-- from its floor to its tick a view shows exactly the rows that are live
abbrev pub ShowsLive : List Note → View → Type 0
ShowsLive notes view = (t : ℕ) → view.floor ≤ t → t ≤ view.tick → (row : Row) → IsSeen view t row ↔ IsLiveAt notes t row

pub record IsExact (notes : List Note) (view : View) : Type 0 where
  pub tick_is : view.tick ≡ tick_of notes
  pub shows : ShowsLive notes view

-- one copy of a piece for each home of its segment
abbrev pub copies : Segment → List (List Placed)
copies s = map (λ home. s.piece) s.homes

abbrev pub places : List Segment → List (List Placed)
places [] = []
places (s ∷ segments) = copies s ++ places segments

-- the view of a journal: the tail, and a part for each place of each segment
abbrev pub view_of : Channel → ℕ → List Note → View
view_of channel floor notes = record {
  floor = floor;
  tick = tick_of notes;
  parts = map (map (shown notes)) ((layout_of channel notes).tail ∷ places (layout_of channel notes).segments);
}
