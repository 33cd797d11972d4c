-- Notes of a keeper's calls.
use Rattle.std.specs.Prelude.{ℕ, ◌==◌, cond, List, [], ◌∷◌, map, Option}
use Rattle.std.specs.declared.option.Option.TheVariants.{None}
use Rattle.vault.specs.declared.notes.KeeperCall.{KeeperCall}
use Rattle.vault.specs.declared.notes.Outcome.{Outcome}
use Rattle.vault.specs.declared.notes.Outcome.TheVariants.{Done, Memory, Failed, Lost, Damaged}
use Rattle.vault.specs.declared.notes.VaultNote.{VaultNote}

-- the seat that wrote a note, and its timestamp: it has none
abbrev pub by_of : VaultNote → ℕ
by_of note = note.by

abbrev pub time_of : VaultNote → Option ℕ
time_of note = None

abbrev pub note_of : ℕ → ℕ → KeeperCall → ℕ → Outcome → VaultNote
note_of by line call object outcome = record { by = by; line = line; call = call; object = object; outcome = outcome }

-- ---- what is counted

-- whether the keeper failed
abbrev pub failures_as : Outcome → ℕ
failures_as Failed = 1
failures_as Done = 0
failures_as Memory = 0
failures_as Lost = 0
failures_as (Damaged at want got) = 0

-- whether an object did not come back as it was put
abbrev pub harms_as : Outcome → ℕ
harms_as Lost = 1
harms_as (Damaged at want got) = 1
harms_as Done = 0
harms_as Memory = 0
harms_as Failed = 0

-- whether a call was a failure, a loss or a damage
abbrev pub faults_as : Outcome → ℕ
faults_as Failed = 1
faults_as Lost = 1
faults_as (Damaged at want got) = 1
faults_as Done = 0
faults_as Memory = 0

abbrev pub failures_in : VaultNote → ℕ
failures_in note = failures_as note.outcome

abbrev pub harms_in : VaultNote → ℕ
harms_in note = harms_as note.outcome

abbrev pub faults_in : VaultNote → ℕ
faults_in note = faults_as note.outcome

-- ---- calls on objects in turn

-- a call on each of these objects, and all went the same way
abbrev pub alike_notes : ℕ → ℕ → KeeperCall → Outcome → List ℕ → List VaultNote
alike_notes by line call outcome objects = map (λ object. note_of by line call object outcome) objects

-- calls up to the one on the object `last`, which went so; those before it were done
abbrev pub notes_up_to : ℕ → ℕ → KeeperCall → ℕ → Outcome → List ℕ → List VaultNote
notes_up_to by line call last outcome [] = []
notes_up_to by line call last outcome (object ∷ objects) =
    cond (object == last) (note_of by line call object outcome ∷ []) (note_of by line call object Done ∷ notes_up_to by line call last outcome objects)
