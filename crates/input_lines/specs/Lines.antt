-- The lines of an input.
use Rattle.std.specs.Prelude.{ℕ, ◌==◌, if◌then◌else◌, List, [], ◌∷◌}

-- a byte before the first of some lines; where there are none it is a line of its own
abbrev pub onto_first : ℕ → List (List ℕ) → List (List ℕ)
onto_first byte [] = (byte ∷ []) ∷ []
onto_first byte (line ∷ lines) = (byte ∷ line) ∷ lines

-- the pieces that end with LF, without it, and a last piece that has no LF, unless nothing stands in it
abbrev pub lines_of : List ℕ → List (List ℕ)
lines_of [] = []
lines_of (byte ∷ bytes) = if byte == 10 then [] ∷ lines_of bytes else onto_first byte (lines_of bytes)

abbrev pub first_or_empty : List (List ℕ) → List ℕ
first_or_empty [] = []
first_or_empty (line ∷ lines) = line

abbrev pub behind_first : List (List ℕ) → List (List ℕ)
behind_first [] = []
behind_first (line ∷ lines) = lines

-- line 1; an empty input has an empty one
abbrev pub first_line : List ℕ → List ℕ
first_line input = first_or_empty (lines_of input)

-- the lines from line 2 on
abbrev pub other_lines : List ℕ → List (List ℕ)
other_lines input = behind_first (lines_of input)
