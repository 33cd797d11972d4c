-- How much of an input is read.
use Rattle.std.specs.Prelude.{ℕ, ◌+◌, ◌≤◌, List, [], ◌∷◌, length, Option, Some, None}
use Rattle.std.specs.List.{AllByRecursion}
use Rattle.input_lines.specs.Lines.{lines_of}

-- a line's length does not count its LF
abbrev pub IsShort : List ℕ → Type 0
IsShort line = length line ≤ 2_097_152

-- the limits on lines: on the bytes of each, and on their number
abbrev pub HasFewLines : List ℕ → Type 0
HasFewLines input = AllByRecursion IsShort (lines_of input) × (length (lines_of input) ≤ 262_144)

-- the limits on an input
pub record IsWithin (input : List ℕ) : Type 0 where
  pub bytes : length input ≤ 67_108_864
  pub lines : HasFewLines input

-- ---- what follows promises nothing: it is kept while the bytes come

-- the limits on lines for what comes behind some lines, of which the last has this many bytes if it
-- has not ended
abbrev pub LimitsBehind : ℕ → Option ℕ → List (List ℕ) → Type 0
LimitsBehind lines None more = AllByRecursion IsShort more × (lines + length more ≤ 262_144)
LimitsBehind lines (Some bytes) [] = Unit {0}
LimitsBehind lines (Some bytes) (line ∷ more) =
    (bytes + length line ≤ 2_097_152) × AllByRecursion IsShort more × (lines + length more ≤ 262_144)
