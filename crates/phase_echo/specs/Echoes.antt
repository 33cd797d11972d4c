-- A run that says each line again.
use Rattle.std.specs.Prelude.{◌≡◌, ℕ, ◌==◌, Bool, false, List, [], ◌∷◌, ◌++◌}
use Rattle.phase_reading.specs.Phases.{joined}

-- the line is the letter m
abbrev pub is_m : List ℕ → Bool
is_m [] = false
is_m (byte ∷ []) = byte == 109
is_m (byte ∷ next ∷ bytes) = false

-- the line is the letter c
abbrev pub IsC : List ℕ → Type 0
IsC line = line ≡ 99 ∷ []

-- each line is said again
abbrev pub IsEcho : List (List ℕ) → List ℕ → Type 0
IsEcho lines output = output ≡ joined lines

-- the same, and a dot at the end
abbrev pub IsWholeEcho : List (List ℕ) → List ℕ → Type 0
IsWholeEcho lines output = output ≡ joined lines ++ 46 ∷ []

-- the first lines were said again, and the second ones wait, each with its LF
pub record IsEchoing (held : List ℕ) (done waiting : List (List ℕ)) (output : List ℕ) : Type 0 where
  pub said : output ≡ joined done
  pub waits : held ≡ joined waiting
