-- What contracts see of a list of notes and of a channel's journal, and how a note is appended.
use Rattle.std.specs.Prelude.{◌≡◌, ℕ, ◌+◌, nat_lt, Bool, true, false, if◌then◌else◌, List, [], ◌∷◌, ◌++◌, Option, Some, None}
use Rattle.journal_model.specs.declared.notes.Kind.{Kind}
use Rattle.journal_model.specs.declared.notes.Kind.TheVariants.{Number, Load, Release, Lists, Merge}
use Rattle.journal_model.specs.declared.notes.Note.{Note}
use Rattle.journal_model.specs.Layouts.{Channel, Layout, number_at, layout_of}
use Rattle.journal_model.specs.Runs.{State}

-- notes in their order, and how many more are taken without memory
pub record NoteList : Type 0 where
  pub notes : List Note
  pub spare : ℕ

-- a channel, its journal with the floor, and how many more notes it takes without memory
pub record ChannelJournal : Type 0 where
  pub channel : Channel
  pub state : State
  pub spare : ℕ

abbrev pub with_note : State → Note → State
with_note s note = record { notes = s.notes ++ note ∷ []; floor = s.floor }

-- the note stands behind all others, the channel and the floor stay, and one note less is taken without memory
pub record Appends (old new : ChannelJournal) (note : Note) : Type 0 where
  pub state : new.state ≡ with_note old.state note
  pub channel : new.channel ≡ old.channel
  pub spare : old.spare ≡ new.spare + 1

-- a note that moves or merges segments, and changes no row and no tick
abbrev pub is_upkeep : Kind → Bool
is_upkeep (Number segment floor) = true
is_upkeep (Load segment node) = true
is_upkeep (Release segment node) = true
is_upkeep (Lists segment) = true
is_upkeep (Merge sources segment node) = true
is_upkeep _ = false

-- the number that was taken between two layouts, where the later one has taken more
abbrev pub number_taken : Channel → Layout → Layout → Option ℕ
number_taken channel before after = if nat_lt before.taken after.taken then Some (number_at channel before.taken) else None

-- the number that the layout of a later journal has taken more
abbrev pub number_between : ChannelJournal → ChannelJournal → Option ℕ
number_between old new = number_taken old.channel (layout_of old.channel old.state.notes) (layout_of old.channel new.state.notes)
