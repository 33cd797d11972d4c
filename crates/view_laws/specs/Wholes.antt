-- The logs of several channels, the whole of them, and looks at all channels.
use Rattle.std.specs.Prelude.{◌≡◌, ℕ, ℤ, ◌≤◌, ◌+◌, List, [], ◌∷◌, ◌++◌}
use Rattle.std.specs.List.{filter, AllByRecursion}
use Rattle.std.specs.Ordering.{int_eq}
use Rattle.log_model.specs.declared.logs.Entry.{Entry}
use Rattle.log_model.specs.Logs.{key_of}
use Rattle.journal_model.specs.declared.notes.Note.{Note}
use Rattle.journal_model.specs.Notes.{log_of}
use Rattle.journal_model.specs.Journals.{IsJournal}
use Rattle.journal_model.specs.Lists.{joined, rising_by}
use Rattle.journal_model.specs.Views.{View, IsExact}

-- the entries of one key
abbrev pub of_key : ℤ → List Entry → List Entry
of_key key log = filter (λ entry. int_eq key (key_of entry.write)) log

-- the keys of all entries belong to a channel
abbrev pub IsOfChannel : (ℤ → ℕ) → ℕ → List Entry → Type 0
IsOfChannel home channel log = AllByRecursion (λ entry. home (key_of entry.write) ≡ channel) log

-- the keys of the logs belong to the channels first, first + 1, ..
abbrev pub AreOfChannelsFrom : (ℤ → ℕ) → ℕ → List (List Entry) → Type 0
AreOfChannelsFrom home first [] = Unit {0}
AreOfChannelsFrom home first (log ∷ logs) = IsOfChannel home first log × AreOfChannelsFrom home (first + 1) logs

-- a log for each channel, where each key belongs to the one channel that home gives
abbrev pub AreOfChannels : (ℤ → ℕ) → List (List Entry) → Type 0
AreOfChannels home logs = AreOfChannelsFrom home 0 logs

-- the union of the logs of channels by timestamp; entries of one timestamp stand by channel, and then as in their log
abbrev pub whole : List (List Entry) → List Entry
whole logs = rising_by (λ entry. entry.ts.0) (joined logs)

-- a look at a channel: its journal at the look, the view that it gave, and the notes that the journal got later
pub record Looked : Type 0 where
  pub notes : List Note
  pub more : List Note
  pub view : View

-- the log of the journal in the end
abbrev pub log_at_end : Looked → List Entry
log_at_end l = log_of (l.notes ++ l.more)

-- the view of a look is exact and serves a timestamp, and the journal went on as one
pub record ServesAt (t : ℕ) (l : Looked) : Type 0 where
  pub exact : IsExact l.notes l.view
  pub journal : IsJournal (l.notes ++ l.more)
  pub from_floor : l.view.floor ≤ t
  pub to_tick : t ≤ l.view.tick
