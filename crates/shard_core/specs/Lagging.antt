-- What a shard keeps of its pieces, of what is pending and of its open deaths: once brought up, the pieces show the journal.
use Rattle.std.specs.Prelude.{◌≡◌, ℕ, ◌<◌, ◌≤◌, Bool, ◌||◌, if◌then◌else◌, List, [], ◌∷◌, length, Some}
use Rattle.std.specs.List.{AllByRecursion, list_any}
use Rattle.hybrid_time.specs.declared.times.Timestamp.{Timestamp}
use Rattle.log_model.specs.Places.{Placed}
use Rattle.journal_model.specs.declared.notes.Home.{Home}
use Rattle.journal_model.specs.declared.notes.Home.TheVariants.{Leader}
use Rattle.journal_model.specs.declared.notes.Note.{Note}
use Rattle.journal_model.specs.Puts.{put_at, death}
use Rattle.journal_model.specs.Layouts.{Channel, layout_of}
use Rattle.journal_model.specs.Invariants.{IsTaken}
use Rattle.journal_model.specs.Runs.{Rise}
use Rattle.channel_pieces.specs.Pieces.{MarkedSegment, AreOnce}
use Rattle.shard_core.specs.declared.pending.Pending.{Pending}
use Rattle.shard_core.specs.declared.pending.Pending.TheVariants.{Row, Closed}
use Rattle.shard_core.specs.Shelves.{Shelves, shelves_of, is_shelved, homes_at}
use Rattle.shard_core.specs.Steps.{caught_up, is_closing}

-- a row that is pending was put
abbrev pub IsPut : List Note → Pending → Type 0
IsPut notes (Row position) = (x : Placed) × (put_at notes position ≡ Some x)
IsPut notes (Closed number) = Unit {0}

-- a row was put at the position, and died then
abbrev pub IsDeath : List Note → ℕ × Timestamp → Type 0
IsDeath notes d = (x : Placed) × (put_at notes d.0 ≡ Some x) × (death notes x ≡ Some d.1.0)

-- the pieces are behind the journal by this
pub record IsBehind (channel : Channel) (notes : List Note) (pending : List Pending) (deaths : List (ℕ × Timestamp)) (s : Shelves) : Type 0 where
  pub rows : AllByRecursion (IsPut notes) pending
  pub died : AllByRecursion (IsDeath notes) deaths
  pub once : AreOnce deaths
  pub is : caught_up notes pending deaths s ≡ shelves_of channel notes

-- ---- what the next of the pending meets

-- rows of the journal by rising positions, at most as many as fill a tail
pub record Fits (channel : Channel) (notes : List Note) (rows : List Placed) : Type 0 where
  pub rises : Rise rows
  pub put : AllByRecursion (λ x. put_at notes x.position ≡ Some x) rows
  pub few : length rows ≤ channel.seal_rows

-- the tail can be closed under a number: it has rows, and the number was taken and is above those of all segments
pub record Closes (channel : Channel) (notes : List Note) (s : Shelves) (number : ℕ) : Type 0 where
  pub rows : 0 < length s.tail
  pub above : AllByRecursion (λ other. other.number < number) s.segments
  pub taken : IsTaken channel (layout_of channel notes).taken number

-- ---- homes

-- the homes of a segment: a boundary that is pending closes its segment at the leader
abbrev pub homes_with : List MarkedSegment → List Pending → ℕ → List Home
homes_with segments pending number =
    if is_shelved segments number then homes_at segments number
    else if list_any (is_closing number) pending then Leader ∷ [] else []

-- whether a segment is there, or will be
abbrev pub is_there_with : List MarkedSegment → List Pending → ℕ → Bool
is_there_with segments pending number = is_shelved segments number || list_any (is_closing number) pending
