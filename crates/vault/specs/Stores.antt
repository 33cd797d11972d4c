-- What storing a part notes and answers.
use Rattle.std.specs.Prelude.{◌≡◌, ◌⊎◌, ℕ, List, [], ◌++◌, Result, Ok, Err}
use Rattle.turn_facts.specs.Counts.{Among}
use Rattle.row_types.specs.declared.allocation.Memory.{Memory as NoMemory}
use Rattle.seg_sealed.specs.Parts.{SegmentPart}
use Rattle.vault.specs.declared.notes.KeeperCall.TheVariants.{Put, Get}
use Rattle.vault.specs.declared.notes.Outcome.{Outcome}
use Rattle.vault.specs.declared.notes.Outcome.TheVariants.{Done, Memory, Failed}
use Rattle.vault.specs.declared.notes.VaultNote.{VaultNote}
use Rattle.vault.specs.declared.storing.Stored.{Stored}
use Rattle.vault.specs.declared.storing.Stored.TheVariants as stored
use Rattle.vault.specs.Notes.{alike_notes, notes_up_to, faults_as}

module _ (by line : ℕ) where
  -- each object was put, and got as it was put
  abbrev pub kept_notes : List ℕ → List VaultNote
  kept_notes objects = alike_notes by line Put Done objects ++ alike_notes by line Get Done objects

  -- the put of this object failed
  abbrev pub IsPutFailed : List ℕ → ℕ → List VaultNote → Type 0
  IsPutFailed objects object notes = notes ≡ notes_up_to by line Put object Failed objects

  -- all were put; and then the get of this object failed, or it did not come back as it was put
  pub record IsGetBad (objects : List ℕ) (object : ℕ) (notes : List VaultNote) : Type 0 where
    pub outcome : Outcome
    pub bad : faults_as outcome ≡ 1
    pub noted : notes ≡ alike_notes by line Put Done objects ++ notes_up_to by line Get object outcome objects

  -- one of the objects was not put, or did not come back as it was put, and that was the last call
  pub record IsLeft (objects : List ℕ) (notes : List VaultNote) : Type 0 where
    pub object : ℕ
    pub among : Among object objects
    pub noted : IsPutFailed objects object notes ⊎ IsGetBad objects object notes

  -- there was no memory: before any call, or in the puts, or in the gets; then each of these is noted so
  abbrev pub WantsMemory : List ℕ → List VaultNote → Type 0
  WantsMemory objects notes =
      (notes ≡ [])
      ⊎ ((notes ≡ alike_notes by line Put Memory objects)
      ⊎ (notes ≡ alike_notes by line Put Done objects ++ alike_notes by line Get Memory objects))

  -- the notes of storing a part, by its answer
  abbrev pub Stores : List ℕ → Result Stored NoMemory → List VaultNote → Type 0
  Stores objects (Ok (stored.Kept part)) notes = notes ≡ kept_notes objects
  Stores objects (Ok stored.Failed) notes = IsLeft objects notes
  Stores objects (Err error) notes = WantsMemory objects notes

-- ---- answers

-- how many faults the notes of a call have that answered so
abbrev pub faults_of : Result Stored NoMemory → ℕ
faults_of (Ok (stored.Kept part)) = 0
faults_of (Ok stored.Failed) = 1
faults_of (Err error) = 0

-- a fact on the part that is given back
abbrev pub IfKept : Result Stored NoMemory → (SegmentPart → Type 0) → Type 0
IfKept (Ok (stored.Kept part)) fact = fact part
IfKept (Ok stored.Failed) fact = Unit {0}
IfKept (Err error) fact = Unit {0}
