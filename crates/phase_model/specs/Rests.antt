-- The journals of all channels, when no thread is at work.
use Rattle.std.specs.Prelude.{◌≡◌, ℕ, ◌<◌, ◌≤◌, List, [], length, replicate}
use Rattle.coarse_lists.specs.declared.collections.Collection.{Collection}
use Rattle.legal_output.specs.Lines.{channel_of}
use Rattle.journal_model.specs.declared.notes.Note.{Note}
use Rattle.journal_model.specs.Notes.{log_of, tick_of}
use Rattle.journal_model.specs.Journals.{AreBelow}
use Rattle.journal_model.specs.Runs.{IsSound}
use Rattle.view_laws.specs.Wholes.{IsOfChannel}
use Rattle.turn_table.specs.Knowledge.{at_slot}
use Rattle.call_model.specs.Calls.{channel_at}

-- the next number, the number of the last meet, the floor of all channels, the timestamp of each caller's last write, and
-- the journal of each channel
pub record Rest : Type 0 where
  pub clock : ℕ
  pub met : ℕ
  pub floor : ℕ
  pub mine : ℕ → ℕ
  pub journals : List (List Note)

-- what the shard of a channel keeps of its journal: it is sound, and its keys are of the channel
pub record IsKept (collection : Collection) (floor k : ℕ) (notes : List Note) : Type 0 where
  pub sound : IsSound (channel_at collection k) (record { notes = notes; floor = floor })
  pub keys : IsOfChannel (channel_of collection.channels) k (log_of notes)

abbrev pub AreKept : Collection → Rest → Type 0
AreKept collection rest = (k : ℕ) → k < collection.channels → IsKept collection rest.floor k (at_slot rest.journals k)

-- the journal of a channel: a shard keeps it, its timestamps are below the clock, and its tick is not below the last meet
pub record IsChannel (collection : Collection) (rest : Rest) (k : ℕ) (notes : List Note) : Type 0 where
  pub kept : IsKept collection rest.floor k notes
  pub below : AreBelow rest.clock notes
  pub ticked : rest.met ≤ tick_of notes

-- a journal for each channel; the last meet and each caller's last write are below the clock
pub record AreJournals (collection : Collection) (rest : Rest) : Type 0 where
  pub many : length rest.journals ≡ collection.channels
  pub each : (k : ℕ) → k < collection.channels → IsChannel collection rest k (at_slot rest.journals k)
  pub met : rest.met < rest.clock
  pub mine : (caller : ℕ) → rest.mine caller < rest.clock

-- a new collection, where the next number is `clock`
abbrev pub new_rest : Collection → ℕ → Rest
new_rest collection clock = record { clock = clock; met = 0; floor = 0; mine = λ caller. 0; journals = replicate collection.channels [] }
