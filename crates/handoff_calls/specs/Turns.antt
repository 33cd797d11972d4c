-- What the parts of a handoff do, each inside of one turn of its channel or of the vault.
use Rattle.std.specs.Prelude.{◌≡◌, ◌⊎◌, ℕ, false, List, [], ◌∷◌, Some, None, Result, Ok, Err}
use Rattle.row_types.specs.declared.allocation.Memory.{Memory as NoMemory}
use Rattle.journal_model.specs.declared.notes.Home.TheVariants.{Leader}
use Rattle.journal_model.specs.declared.notes.Kind.TheVariants.{Load}
use Rattle.journal_model.specs.declared.notes.Note.{Note}
use Rattle.journal_model.specs.declared.refusals.MoveError.{MoveError}
use Rattle.journal_model.specs.declared.refusals.MoveError.TheVariants as error
use Rattle.journal_model.specs.Notes.{note_of}
use Rattle.journal_model.specs.Layouts.{Channel, layout_of}
use Rattle.journal_model.specs.Lawful.{is_at}
use Rattle.journal_model.specs.Refusals.{move_refusal, load_refusal}
use Rattle.shard_core.specs.Counting.{IsLeastNode}
use Rattle.shard_core.specs.Moves.{BegunMove, IsMoveOf}
use Rattle.seat_walks.specs.Walks.{Turned}

-- a turn of the channel k in which nothing was noted and nothing drawn
pub record IsQuietTurn (k : ℕ) (t : Turned Note) : Type 0 where
  pub slot : t.slot ≡ k
  pub none : t.notes ≡ []
  pub undrawn : t.drawn ≡ []

-- the segment does not wait at the leader: it was loaded, or merged away, or is not there yet
abbrev pub WaitsNot : Channel → List Note → ℕ → Type 0
WaitsNot channel notes segment = is_at (layout_of channel notes) segment Leader ≡ false

-- the move of a segment from the leader is begun behind these notes, with the part that stands for it there
pub record Begins (channel : Channel) (segment : ℕ) (before : List Note) (moving : BegunMove) : Type 0 where
  pub lent : IsMoveOf channel before moving
  pub segment_is : moving.part.sealed.number ≡ segment
  pub home : moving.home ≡ Leader

-- the turn in which the move is begun, by its answer
abbrev pub BeginsOr : Channel → ℕ → List Note → Result BegunMove MoveError → Type 0
BeginsOr channel segment before (Ok moving) = Begins channel segment before moving
BeginsOr channel segment before (Err why) = (why ≡ error.Memory) ⊎ (move_refusal (layout_of channel before) segment Leader ≡ Some why)

-- the segment is loaded on the node with the fewest rows, where nothing refuses it
pub record IsLoaded (channel : Channel) (nodes by line segment : ℕ) (before notes : List Note) : Type 0 where
  pub node : ℕ
  pub chosen : IsLeastNode nodes (layout_of channel before).segments node
  pub free : load_refusal (layout_of channel before) segment Leader node ≡ None
  pub noted : notes ≡ note_of by line (Load segment node) ∷ []

-- it is not, since it waits no longer
pub record IsNotLoaded (channel : Channel) (segment : ℕ) (before notes : List Note) : Type 0 where
  pub gone : WaitsNot channel before segment
  pub none : notes ≡ []

abbrev pub LoadsOr : Channel → ℕ → ℕ → ℕ → ℕ → List Note → List Note → Type 0
LoadsOr channel nodes by line segment before notes = IsLoaded channel nodes by line segment before notes ⊎ IsNotLoaded channel segment before notes

-- the turn in which it is to be loaded, by its answer: want of memory adds nothing
abbrev pub LoadsOrNone : Channel → ℕ → ℕ → ℕ → ℕ → Result (Unit {0}) NoMemory → List Note → List Note → Type 0
LoadsOrNone channel nodes by line segment (Ok done) before notes = LoadsOr channel nodes by line segment before notes
LoadsOrNone channel nodes by line segment (Err error) before notes = notes ≡ []
