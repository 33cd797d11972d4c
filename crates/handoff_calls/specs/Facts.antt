-- What a handoff owes in its own words, over the notes of its call.
use Rattle.std.specs.Prelude.{◌≡◌, ◌≢◌, ◌⊎◌, ℕ, ◌==◌, cond, List, ◌++◌}
use Rattle.std.specs.List.{Contains}
use Rattle.turn_facts.specs.Counts.{total}
use Rattle.journal_model.specs.declared.notes.Kind.TheVariants.{Load}
use Rattle.journal_model.specs.declared.notes.Note.{Note}
use Rattle.journal_model.specs.Notes.{note_of}
use Rattle.journal_model.specs.Layouts.{Channel}
use Rattle.part_objects.specs.Spellings.{name_of}
use Rattle.part_objects.specs.declared.names.ObjectKind.{ObjectKind}
use Rattle.seg_sealed.specs.Parts.{SegmentPart}
use Rattle.seat_walks.specs.Walks.{Turned}
use Rattle.vault.specs.declared.notes.VaultNote.{VaultNote}
use Rattle.vault.specs.Names.{names_of}
use Rattle.vault.specs.Notes.{faults_as}
use Rattle.vault.specs.Stores.{kept_notes}
use Rattle.handoff_calls.specs.Turns.{WaitsNot}
use Rattle.handoff_calls.specs.Handoffs.{notes_of}

-- the failures, losses and damages of a line
abbrev pub faults_at : ℕ → VaultNote → ℕ
faults_at line note = cond (note.line == line) (faults_as note.outcome) 0

-- no note of these is of another line
abbrev pub AreOfLine : ℕ → List VaultNote → Type 0
AreOfLine line notes = (other : ℕ) → line ≢ other → total (faults_at other) notes ≡ 0

-- a failure, loss or damage on an object of the segment
pub record HasFault (segment : ℕ) (notes : List VaultNote) : Type 0 where
  pub note : VaultNote
  pub there : Contains notes note
  pub kind : ObjectKind
  pub object : note.object ≡ name_of segment kind
  pub bad : faults_as note.outcome ≡ 1

-- the segment waited no longer in a journal that some turn of the call found or left, or has such a note
pub record IsHandedOver (channel : Channel) (turns : List (Turned Note)) (stores : List (Turned VaultNote)) (segment : ℕ) : Type 0 where
  pub over : ((t : Turned Note) × Contains turns t × (WaitsNot channel t.before segment ⊎ WaitsNot channel (t.before ++ t.notes) segment)) ⊎ HasFault segment (notes_of stores)

-- what is loaded was stored before: a turn of the vault has Done notes of this call for the put and the get of each object of a
-- part of that segment
pub record IsStoredFirst (keeps line : ℕ) (turns : List (Turned Note)) (stores : List (Turned VaultNote)) : Type 0 where
  pub each : (t : Turned Note) (by segment node : ℕ) → Contains turns t → Contains t.notes (note_of by line (Load segment node))
      → (part : SegmentPart) × (u : Turned VaultNote) × (part.sealed.number ≡ segment) × Contains stores u × (u.notes ≡ kept_notes keeps line (names_of part))
