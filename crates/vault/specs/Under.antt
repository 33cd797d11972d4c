-- What stands between the calls of a keeper and the answer of a store. Only proofs need it.
use Rattle.std.specs.Prelude.{◌≡◌, ℕ, List, Result, Ok, Err}
use Rattle.turn_facts.specs.Counts.{Among}
use Rattle.row_types.specs.declared.allocation.Memory.{Memory as NoMemory}
use Rattle.seg_sealed.specs.Parts.{SegmentPart}
use Rattle.data_index_node.specs.declared.refusals.FlushError.{FlushError}
use Rattle.data_index_node.specs.declared.refusals.FlushError.TheVariants as flushed
use Rattle.query_node.specs.declared.refusals.FetchError.{FetchError}
use Rattle.query_node.specs.declared.refusals.FetchError.TheVariants as fetched
use Rattle.vault.specs.declared.notes.KeeperCall.TheVariants.{Put, Get}
use Rattle.vault.specs.declared.notes.Outcome.TheVariants.{Done, Memory, Failed, Lost, Damaged}
use Rattle.vault.specs.declared.notes.VaultNote.{VaultNote}
use Rattle.vault.specs.declared.storing.Stored.{Stored}
use Rattle.vault.specs.declared.storing.Stored.TheVariants as stored
use Rattle.vault.specs.Notes.{alike_notes, notes_up_to}

-- how a fetch ended
abbrev pub ended : Result SegmentPart FetchError → Result (Unit {0}) FetchError
ended (Ok part) = Ok tt
ended (Err error) = Err error

-- the notes of putting these objects, and of getting them, by how it ended
abbrev pub put_notes : ℕ → ℕ → List ℕ → Result (Unit {0}) FlushError → List VaultNote
put_notes by line objects (Ok done) = alike_notes by line Put Done objects
put_notes by line objects (Err (flushed.KeepFault object)) = notes_up_to by line Put object Failed objects
put_notes by line objects (Err flushed.Memory) = alike_notes by line Put Memory objects

abbrev pub get_notes : ℕ → ℕ → List ℕ → Result (Unit {0}) FetchError → List VaultNote
get_notes by line objects (Ok done) = alike_notes by line Get Done objects
get_notes by line objects (Err (fetched.KeepFault object)) = notes_up_to by line Get object Failed objects
get_notes by line objects (Err (fetched.Lost object)) = notes_up_to by line Get object Lost objects
get_notes by line objects (Err (fetched.Damaged object at want got)) = notes_up_to by line Get object (Damaged at want got) objects
get_notes by line objects (Err fetched.Memory) = alike_notes by line Get Memory objects

-- the object that an error names is one of these
abbrev pub NamesPut : List ℕ → Result (Unit {0}) FlushError → Type 0
NamesPut objects (Ok done) = Unit {0}
NamesPut objects (Err (flushed.KeepFault object)) = Among object objects
NamesPut objects (Err flushed.Memory) = Unit {0}

abbrev pub NamesGot : List ℕ → Result SegmentPart FetchError → Type 0
NamesGot objects (Ok part) = Unit {0}
NamesGot objects (Err (fetched.KeepFault object)) = Among object objects
NamesGot objects (Err (fetched.Lost object)) = Among object objects
NamesGot objects (Err (fetched.Damaged object at want got)) = Among object objects
NamesGot objects (Err fetched.Memory) = Unit {0}

-- what a store answers, by how its fetch ended
abbrev pub StoreAnswers : Result SegmentPart FetchError → Result Stored NoMemory → Type 0
StoreAnswers (Ok part) answer = answer ≡ Ok (stored.Kept part)
StoreAnswers (Err (fetched.KeepFault object)) answer = answer ≡ Ok stored.Failed
StoreAnswers (Err (fetched.Lost object)) answer = answer ≡ Ok stored.Failed
StoreAnswers (Err (fetched.Damaged object at want got)) answer = answer ≡ Ok stored.Failed
StoreAnswers (Err fetched.Memory) answer = (error : NoMemory) × (answer ≡ Err error)
