-- Worked journals, which the laws on examples speak of: for each kind of note a short journal, and what it leaves.
use Rattle.std.specs.Prelude.{◌≡◌, ℕ, pos, List, [], ◌∷◌, ◌++◌, map, Option, Some, None}
use Rattle.row_types.specs.declared.rows.Row.{Row}
use Rattle.row_types.specs.declared.rows.Key.{Key}
use Rattle.hybrid_time.specs.declared.times.Timestamp.{Timestamp}
use Rattle.log_model.specs.Places.{Placed}
use Rattle.journal_model.specs.declared.notes.PutKind.TheVariants.{Insert, Upsert}
use Rattle.journal_model.specs.declared.notes.Home.{Home}
use Rattle.journal_model.specs.declared.notes.Kind.TheVariants.{Put, Remove, Tick, Seal, Look, Number, Load, Release, Lists, Merge}
use Rattle.journal_model.specs.declared.notes.Note.{Note}
use Rattle.journal_model.specs.Notes.{note_of}
use Rattle.journal_model.specs.Journals.{IsJournal}
use Rattle.journal_model.specs.Layouts.{Channel, tail_of, homes_of, pieces_of}
use Rattle.journal_model.specs.Lawful.{IsLawful}
use Rattle.journal_model.specs.Views.{view_of}

unfoldable pub row : ℕ → Row
row n = record { key = record { 0 = pos n }; vector = []; fields = [] }

unfoldable pub key : ℕ → Key
key n = record { 0 = pos n }

unfoldable pub at : ℕ → Timestamp
at n = record { 0 = n }

-- a channel whose tail is sealed at two rows, and one at four
unfoldable pub two : Channel
two = record { number = 3; seal_rows = 2 }

unfoldable pub four : Channel
four = record { number = 3; seal_rows = 4 }

-- rows by their positions
abbrev pub positions : List Placed → List ℕ
positions rows = map (λ x. x.position) rows

abbrev pub pieces_at : Channel → List Note → List (ℕ × List ℕ)
pieces_at channel notes = map (λ p. (p.0, positions p.1)) (pieces_of channel notes)

-- of a view at the floor 0: the tick, and of each part the positions and marks
abbrev pub marks_of : Channel → List Note → List (List (ℕ × Option ℕ))
marks_of channel notes = map (map (λ s. (s.position, s.mark))) (view_of channel 0 notes).parts

-- the journal is in order and lawful, and leaves this tail, these pieces, these homes, and this view with its tick
pub record Leaves (channel : Channel) (notes : List Note) (tail : List ℕ) (pieces : List (ℕ × List ℕ)) (homes : List (ℕ × List Home)) (tick : ℕ) (parts : List (List (ℕ × Option ℕ))) : Type 0 where
  pub journal : IsJournal notes
  pub lawful : IsLawful channel notes
  pub tail_is : positions (tail_of channel notes) ≡ tail
  pub pieces_are : pieces_at channel notes ≡ pieces
  pub homes_are : homes_of channel notes ≡ homes
  pub tick_is : (view_of channel 0 notes).tick ≡ tick
  pub parts_are : marks_of channel notes ≡ parts

-- two rows, of keys 1 and 2, make segment 3 (number 0 of channel 3)
unfoldable pub sealed : List Note
sealed = note_of 1 2 (Put (at 1) Upsert (row 1)) ∷ note_of 1 3 (Put (at 2) Upsert (row 2)) ∷ []

-- ---- Put

-- an insert of a live key has no effect and ends no row; behind a remove it adds a row again
unfoldable pub inserting : List Note
inserting = note_of 1 2 (Put (at 1) Insert (row 1)) ∷ note_of 2 3 (Put (at 2) Insert (row 1)) ∷ note_of 1 4 (Put (at 3) Insert (row 2)) ∷ note_of 1 5 (Remove (at 4) (key 1))
    ∷ note_of 2 6 (Put (at 5) Insert (row 1)) ∷ note_of 0 0 (Tick (at 6)) ∷ []

-- an upsert ends the row of its key; the second row makes a segment, which waits at the leader
unfoldable pub upserting : List Note
upserting = sealed ++ note_of 1 4 (Put (at 3) Upsert (row 1)) ∷ note_of 0 0 (Tick (at 4)) ∷ []

-- ---- Remove

-- a remove ends the row of its key, and none where none is live
unfoldable pub removing : List Note
removing = note_of 1 2 (Put (at 1) Upsert (row 1)) ∷ note_of 1 3 (Remove (at 2) (key 1)) ∷ note_of 1 4 (Remove (at 3) (key 1)) ∷ note_of 1 5 (Put (at 4) Upsert (row 1)) ∷ note_of 0 0 (Tick (at 5)) ∷ []

-- ---- Tick

-- the tick is the last Tick's timestamp, whatever is written above it
unfoldable pub ticking : List Note
ticking = note_of 0 0 (Tick (at 1)) ∷ note_of 1 2 (Put (at 2) Upsert (row 1)) ∷ note_of 1 3 (Tick (at 3)) ∷ note_of 1 4 (Put (at 4) Upsert (row 2)) ∷ []

-- ---- Seal

-- a seal makes a segment of the tail, and none of an empty tail
unfoldable pub sealing : List Note
sealing = note_of 1 2 (Put (at 1) Upsert (row 1)) ∷ note_of 1 3 (Seal (at 2)) ∷ note_of 1 4 (Seal (at 3)) ∷ note_of 1 5 (Put (at 4) Upsert (row 2)) ∷ note_of 0 0 (Tick (at 5)) ∷ []

-- ---- Look

-- looks change nothing
unfoldable pub looking : List Note
looking = note_of 1 2 (Put (at 1) Upsert (row 1)) ∷ note_of 1 3 (Look (at 0)) ∷ note_of 0 0 (Tick (at 2)) ∷ note_of 2 4 (Look (at 2)) ∷ note_of 2 5 (Look (at 9)) ∷ []

-- ---- Number

-- a Number note takes the number 19, so the next segment is 35
unfoldable pub numbering : List Note
numbering = sealed ++ note_of 4 0 (Number 19 (at 0)) ∷ note_of 1 4 (Put (at 3) Upsert (row 3)) ∷ note_of 1 5 (Seal (at 4)) ∷ note_of 0 0 (Tick (at 5)) ∷ []

-- ---- Load

-- the first load takes the leader away, the second adds a home; a view has a part for each
unfoldable pub loading : List Note
loading = sealed ++ note_of 4 0 (Load 3 1) ∷ note_of 1 4 (Remove (at 3) (key 1)) ∷ note_of 4 0 (Load 3 0) ∷ note_of 0 0 (Tick (at 4)) ∷ []

-- ---- Release

-- the home goes, and the segment stays where it is besides
unfoldable pub releasing : List Note
releasing = sealed ++ note_of 4 0 (Load 3 1) ∷ note_of 4 0 (Load 3 0) ∷ note_of 4 0 (Release 3 1) ∷ note_of 0 0 (Tick (at 3)) ∷ []

-- ---- Lists

-- lists of a segment change no row and no home
unfoldable pub listing : List Note
listing = sealed ++ note_of 4 0 (Lists 3) ∷ note_of 4 0 (Load 3 0) ∷ note_of 4 0 (Lists 3) ∷ note_of 0 0 (Tick (at 3)) ∷ []

-- ---- Merge

-- the merge began at the floor 0: it keeps the row that was removed since, also where the tick is above its death
unfoldable pub merging : List Note
merging = sealed ++ note_of 4 0 (Load 3 0) ∷ note_of 4 0 (Number 19 (at 0)) ∷ note_of 1 4 (Remove (at 3) (key 1)) ∷ note_of 0 0 (Tick (at 4)) ∷ note_of 4 0 (Merge (3 ∷ []) (Some 19) 1) ∷ []

-- a merge that began at a floor at which no row is left gives no segment
unfoldable pub purging : List Note
purging = sealed ++ note_of 4 0 (Load 3 0) ∷ note_of 1 4 (Remove (at 3) (key 1)) ∷ note_of 1 5 (Remove (at 4) (key 2)) ∷ note_of 0 0 (Tick (at 5)) ∷ note_of 0 0 (Number 19 (at 5)) ∷ note_of 0 0 (Merge (3 ∷ []) None 0) ∷ []

-- ---- groups

-- three segments of one row each on a node, and one that waits
unfoldable pub spread : List Note
spread = note_of 1 2 (Put (at 1) Upsert (row 1)) ∷ note_of 1 3 (Seal (at 2)) ∷ note_of 1 4 (Put (at 3) Upsert (row 2)) ∷ note_of 1 5 (Seal (at 4)) ∷ note_of 1 6 (Put (at 5) Upsert (row 3)) ∷ note_of 1 7 (Seal (at 6))
    ∷ note_of 4 0 (Load 3 0) ∷ note_of 4 0 (Load 19 0) ∷ note_of 4 0 (Load 35 1) ∷ note_of 1 8 (Put (at 7) Upsert (row 4)) ∷ note_of 1 9 (Seal (at 8)) ∷ []

-- two of three rows are dead at 10, so a meet merges all three segments, which keep one row
unfoldable pub thinned : List Note
thinned = spread ++ note_of 1 10 (Remove (at 9) (key 1)) ∷ note_of 1 11 (Remove (at 10) (key 2)) ∷ []

-- ---- batches: one seat, one line, one timestamp, and different keys

unfoldable pub batch : List Note
batch = note_of 1 2 (Put (at 5) Upsert (row 1)) ∷ note_of 1 2 (Put (at 5) Upsert (row 2)) ∷ []
