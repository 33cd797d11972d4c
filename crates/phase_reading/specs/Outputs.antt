-- What was written, of a stopped output or of a whole one.
use Rattle.std.specs.Prelude.{◌≡◌, ℕ, List, ◌∷◌, ◌++◌, take, Option}
use Rattle.std.specs.Io.KnownBytes.{Appends}
use Rattle.input_lines.specs.Limits.{IsShort, IsWithin}
use Rattle.phase_reading.specs.Phases.{Begins, Meets, ended_lines, all_lines, whole_lines, IsBegun, IsCut}
use Rattle.phase_reading.specs.Engines.{Answers}

-- a front of a text was written
abbrev pub AppendsFront : Option (List ℕ) → Option (List ℕ) → List ℕ → Type 0
AppendsFront before now output = (count : ℕ) × Appends before now (take count output)

-- the output for all phases whose meet is among these lines was written
pub record WritesStopped (stopped : Answers) (meets : Meets) (lines : List (List ℕ)) (before now : Option (List ℕ)) : Type 0 where
  pub output : List ℕ
  pub stands : stopped (whole_lines meets lines) output
  pub written : Appends before now output

-- of the output for some first phases of these lines P holds
pub record OfPhases (stopped : Answers) (meets : Meets) (lines : List (List ℕ)) (P : List ℕ → Type 0) : Type 0 where
  pub run : List (List ℕ)
  pub rest : List (List ℕ)
  pub front : lines ≡ run ++ rest
  pub phases : whole_lines meets run ≡ run
  pub output : List ℕ
  pub stands : stopped run output
  pub holds : P output

-- of the output with its end line P holds
pub record OfWhole (whole : Answers) (input : List ℕ) (P : List ℕ → Type 0) : Type 0 where
  pub output : List ℕ
  pub stands : whole (all_lines input) output
  pub holds : P output

-- P holds of the lines that ended in some first bytes, which keep the limits
pub record OfLinesWithin (bytes : List ℕ) (P : List (List ℕ) → Type 0) : Type 0 where
  pub part : List ℕ
  pub rest : List ℕ
  pub split : bytes ≡ part ++ rest
  pub within : IsWithin part
  pub holds : P (ended_lines part)

-- the first of these lines is not too long, and makes no collection
pub record BeginsBadly (begins : Begins) (lines : List (List ℕ)) : Type 0 where
  pub line : List ℕ
  pub rest : List (List ℕ)
  pub split : lines ≡ line ∷ rest
  pub short : IsShort line
  pub bad : begins line → ⊥

-- a limit is passed, line 1 made a collection if it ended before that, and the output for the phases whose meet line was
-- read whole by then was written
pub record WritesLimited (stopped : Answers) (begins : Begins) (meets : Meets) (bytes : List ℕ) (before now : Option (List ℕ)) : Type 0 where
  pub part : List ℕ
  pub cut : IsCut bytes part
  pub begun : IsBegun begins (ended_lines part)
  pub writes : WritesStopped stopped meets (ended_lines part) before now
