-- The lines of an input that have ended, and the phases that they make.
use Rattle.std.specs.Prelude.{◌≡◌, ℕ, ◌==◌, Bool, true, false, if◌then◌else◌, List, [], ◌∷◌, ◌++◌}
use Rattle.input_lines.specs.Lines.{first_line, other_lines}
use Rattle.input_lines.specs.Limits.{IsWithin}

-- which first lines make a collection
abbrev pub Begins : Type 1
Begins = List ℕ → Type 0

-- which lines are meets, behind a line 1
abbrev pub Meets : Type 0
Meets = List ℕ → List ℕ → Bool

abbrev pub onto_ended : ℕ → List (List ℕ) → List (List ℕ)
onto_ended byte [] = []
onto_ended byte (line ∷ lines) = (byte ∷ line) ∷ lines

-- the lines that an LF ends, without it
abbrev pub ended_lines : List ℕ → List (List ℕ)
ended_lines [] = []
ended_lines (byte ∷ bytes) = if byte == 10 then [] ∷ ended_lines bytes else onto_ended byte (ended_lines bytes)

-- all lines of an input that has come to its end; an empty one has an empty line 1
abbrev pub all_lines : List ℕ → List (List ℕ)
all_lines input = first_line input ∷ other_lines input

-- lines, each with its LF
abbrev pub joined : List (List ℕ) → List ℕ
joined [] = []
joined (line ∷ lines) = line ++ 10 ∷ joined lines

abbrev pub keep : Bool → List ℕ → List (List ℕ) → List (List ℕ)
keep true line lines = line ∷ lines
keep false line [] = []
keep false line (next ∷ lines) = line ∷ next ∷ lines

-- the lines up to and with the last meet
abbrev pub through_meet : (List ℕ → Bool) → List (List ℕ) → List (List ℕ)
through_meet is_meet [] = []
through_meet is_meet (line ∷ lines) = keep (is_meet line) line (through_meet is_meet lines)

-- line 1, and of the others those of the phases whose meet is among them, with the meets
abbrev pub whole_lines : Meets → List (List ℕ) → List (List ℕ)
whole_lines meets [] = []
whole_lines meets (header ∷ lines) = header ∷ through_meet (meets header) lines

-- line 1, where there is one, makes a collection
abbrev pub IsBegun : Begins → List (List ℕ) → Type 0
IsBegun begins [] = Unit {0}
IsBegun begins (header ∷ lines) = begins header

-- `part` keeps the limits, and the byte behind it passes one, whatever comes
pub record IsCut (bytes part : List ℕ) : Type 0 where
  pub byte : ℕ
  pub rest : List ℕ
  pub split : bytes ≡ part ++ byte ∷ rest
  pub within : IsWithin part
  pub past : (more : List ℕ) → IsWithin (part ++ byte ∷ more) → ⊥
