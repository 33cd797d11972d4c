-- What a note at its place in a journal is answered.
use Rattle.std.specs.Prelude.{ℕ, nat_le, Bool, if◌then◌else◌, List, length}
use Rattle.std.specs.FinMap as fin
use Rattle.journal_model.specs.declared.notes.Kind.{Kind}
use Rattle.journal_model.specs.declared.notes.Kind.TheVariants.{Put, Remove, Seal, Look}
use Rattle.journal_model.specs.declared.notes.Note.{Note}
use Rattle.journal_model.specs.Notes.{live_in, tick_of}
use Rattle.journal_model.specs.Layouts.{Channel, tail_of}

-- a change: whether its key was live (an insert of a live key has no effect); a look: served, or pending with the
-- tick; a seal: the length of the tail before it
pub data Reply : Type 0 where
  Written : Bool → Reply
  Served : Reply
  Pending : ℕ → Reply
  Sealed : ℕ → Reply
  Silent : Reply

abbrev pub look_reply : ℕ → ℕ → Reply
look_reply tick guarantee = if nat_le guarantee tick then Served else Pending tick

-- the answer to a note behind the notes before
abbrev pub answer_at : Channel → List Note → Kind → Reply
answer_at channel before (Put ts how row) = Written (fin.contains_key (live_in before) row.key.0)
answer_at channel before (Remove ts key) = Written (fin.contains_key (live_in before) key.0)
answer_at channel before (Look guarantee) = look_reply (tick_of before) guarantee.0
answer_at channel before (Seal ts) = Sealed (length (tail_of channel before))
answer_at channel before _ = Silent
