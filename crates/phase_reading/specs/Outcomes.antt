-- What a whole run promises, by how it ends.
use Rattle.std.specs.Prelude.{◌⊎◌, ℕ, ◌≤◌, List, [], ◌++◌, length, Option, IfSome}
use Rattle.std.specs.Io.KnownBytes.{Appends, Consumes, IsAtEnd}
use Rattle.input_lines.specs.Lines.{first_line}
use Rattle.input_lines.specs.Limits.{IsShort, IsWithin}
use Rattle.phase_reading.specs.Phases.{Begins, Meets, ended_lines, all_lines, IsBegun}
use Rattle.phase_reading.specs.Engines.{Answers}
use Rattle.phase_reading.specs.Outputs.{AppendsFront, WritesStopped, WritesLimited, OfPhases, OfWhole, OfLinesWithin}
use Rattle.phase_reading.specs.declared.stops.Stop.{Stop}
use Rattle.phase_reading.specs.declared.stops.Stop.TheVariants.{BadHeader, ReadFault, WriteFault, Limit, Memory}

-- line 1 is not too long, and makes no collection
pub record HasBadHeader (begins : Begins) (input : List ℕ) : Type 0 where
  pub short : IsShort (first_line input)
  pub bad : begins (first_line input) → ⊥

-- a limit is passed, and line 1 did not end the reading before
pub record PassesLimit (begins : Begins) (input : List ℕ) : Type 0 where
  pub past : IsWithin input → ⊥
  pub header : IsShort (first_line input) → begins (first_line input)

-- all was read, and it keeps the limits
pub record IsReadWhole (left rest : Option (List ℕ)) : Type 0 where
  pub within : IfSome left IsWithin
  pub ended : IsAtEnd rest

-- nothing in the bytes that were taken had ended the reading, and the output for their whole phases was written
pub record StopsAtFault (stopped : Answers) (begins : Begins) (meets : Meets) (left rest before now : Option (List ℕ)) : Type 0 where
  pub taken : List ℕ
  pub consumed : Consumes left rest taken
  pub within : IsWithin taken
  pub begun : IsBegun begins (ended_lines taken)
  pub writes : WritesStopped stopped meets (ended_lines taken) before now

-- nothing was taken behind the piece in which the reading ended; a piece has at most so many bytes
pub record StopsInPiece (begins : Begins) (left rest : Option (List ℕ)) : Type 0 where
  pub front : List ℕ
  pub piece : List ℕ
  pub consumed : Consumes left rest (front ++ piece)
  pub within : IsWithin front
  pub begun : IsBegun begins (ended_lines front)
  pub small : length piece ≤ 262_144

-- at most so many bytes were taken
abbrev pub TakesAtMost : ℕ → Option (List ℕ) → Option (List ℕ) → Type 0
TakesAtMost most left rest = (taken : List ℕ) × Consumes left rest taken × (length taken ≤ most)

-- of the output for some first phases, all of whose lines were read within the limits, P holds
abbrev pub OfRun : Answers → Meets → List ℕ → (List ℕ → Type 0) → Type 0
OfRun stopped meets input P =
    OfLinesWithin input (λ lines. OfPhases stopped meets lines P) ⊎ (IsWithin input × OfPhases stopped meets (all_lines input) P)

-- what was written where the sink failed: a front of such an output, or of the whole one
abbrev pub WritesFront : Answers → Answers → Meets → List ℕ → Option (List ℕ) → Option (List ℕ) → Type 0
WritesFront stopped whole meets input before now =
    OfRun stopped meets input (AppendsFront before now) ⊎ (IsWithin input × OfWhole whole input (AppendsFront before now))

-- ---- each ending, of what the source had left and has now, and of what was written before and now

abbrev pub HasStopped : Answers → Answers → Begins → Meets → Stop → Option (List ℕ) → Option (List ℕ) → Option (List ℕ) → Option (List ℕ) → Type 0
HasStopped stopped whole begins meets BadHeader left rest before now = IfSome left (HasBadHeader begins) × Appends before now []
HasStopped stopped whole begins meets ReadFault left rest before now = StopsAtFault stopped begins meets left rest before now
HasStopped stopped whole begins meets WriteFault left rest before now = IfSome left (λ input. WritesFront stopped whole meets input before now)
HasStopped stopped whole begins meets Limit left rest before now = IfSome left (λ input. WritesLimited stopped begins meets input before now)
HasStopped stopped whole begins meets Memory left rest before now = IfSome left (λ input. OfRun stopped meets input (Appends before now))

-- line 1 makes a collection, and the whole output was written
abbrev pub HasDone : Answers → Begins → Option (List ℕ) → Option (List ℕ) → Option (List ℕ) → Type 0
HasDone whole begins left before now = IfSome left (λ input. begins (first_line input) × OfWhole whole input (Appends before now))
