-- This file promises nothing: it says what is kept while an input is read.
use Rattle.std.specs.Prelude.{◌≡◌, ◌⊎◌, ℕ, ◌<◌, ◌≤◌, ◌==◌, Bool, true, false, List, [], ◌∷◌, ◌++◌, length, Option}
use Rattle.std.specs.List.{AllByRecursion}
use Rattle.std.specs.Io.KnownBytes.{Appends}
use Rattle.input_lines.specs.Limits.{IsShort}
use Rattle.input_lines.specs.declared.limits.TheConstants.{MAX_LINES}
use Rattle.phase_reading.specs.Phases.{Begins, Meets, joined, all_lines, whole_lines, IsBegun}
use Rattle.phase_reading.specs.Engines.{Account, Answers}
use Rattle.phase_reading.specs.Outputs.{AppendsFront, WritesLimited, BeginsBadly, OfPhases, OfWhole, OfLinesWithin}
use Rattle.phase_reading.specs.declared.stops.Stop.{Stop}
use Rattle.phase_reading.specs.declared.stops.Stop.TheVariants.{BadHeader, ReadFault, WriteFault, Limit, Memory}

-- no LF stands in these bytes
abbrev pub IsOpen : List ℕ → Type 0
IsOpen bytes = AllByRecursion (λ b. (b == 10) ≡ false) bytes

abbrev pub IsLine : List ℕ → Type 0
IsLine line = IsOpen line × IsShort line

-- whether a line behind these ends a phase; line 1 ends one
abbrev pub meets_behind : Meets → List (List ℕ) → List ℕ → Bool
meets_behind meets [] line = true
meets_behind meets (header ∷ lines) line = meets header line

-- what is known of `all` bytes, of which `last` are the line that has not ended, and of the output
pub record IsSoFar (account : Account) (begins : Begins) (meets : Meets) (before now : Option (List ℕ)) (all last : List ℕ) (lines : ℕ) : Type 0 where
  pub done : List (List ℕ)
  pub phase : List (List ℕ)
  pub output : List ℕ
  pub split : all ≡ joined (done ++ phase) ++ last
  pub count : lines ≡ length (done ++ phase)
  pub clean : AllByRecursion IsLine (done ++ phase)
  pub clean_last : IsLine last
  pub few : lines ≤ MAX_LINES
  pub few_last : 0 < length last → lines < MAX_LINES
  pub whole : whole_lines meets (done ++ phase) ≡ done
  pub begun : IsBegun begins done
  pub told : account done phase output
  pub silent : length done ≡ 0 → output ≡ []
  pub written : Appends before now output

-- ---- a call that answers and then writes; P is what is known of the text

abbrev pub Writes : (List ℕ → Type 0) → Option (List ℕ) → Option (List ℕ) → Type 0
Writes P before now = (text : List ℕ) × P text × Appends before now text

abbrev pub Fails : (List ℕ → Type 0) → Type 0 → Stop → Option (List ℕ) → Option (List ℕ) → Type 0
Fails P bad BadHeader before now = bad × Appends before now []
Fails P bad ReadFault before now = ⊥
Fails P bad WriteFault before now = (text : List ℕ) × P text × AppendsFront before now text
Fails P bad Limit before now = ⊥
Fails P bad Memory before now = Appends before now []

-- ---- what stands behind an end of the run

-- at the end of the last of these lines
abbrev pub Halts : Answers → Begins → Meets → Stop → List (List ℕ) → Option (List ℕ) → Option (List ℕ) → Type 0
Halts stopped begins meets BadHeader lines before now = BeginsBadly begins lines × Appends before now []
Halts stopped begins meets ReadFault lines before now = ⊥
Halts stopped begins meets WriteFault lines before now = OfPhases stopped meets lines (AppendsFront before now)
Halts stopped begins meets Limit lines before now = ⊥
Halts stopped begins meets Memory lines before now = OfPhases stopped meets lines (Appends before now)

-- within these bytes, whatever comes behind them
abbrev pub Stops : Answers → Begins → Meets → Stop → List ℕ → Option (List ℕ) → Option (List ℕ) → Type 0
Stops stopped begins meets stop bytes before now =
    OfLinesWithin bytes (λ lines. Halts stopped begins meets stop lines before now) ⊎ ((stop ≡ Limit) × WritesLimited stopped begins meets bytes before now)

-- once the input has come to its end
abbrev pub Ends : Answers → Answers → Begins → Meets → Stop → List ℕ → Option (List ℕ) → Option (List ℕ) → Type 0
Ends stopped whole begins meets stop input before now =
    Halts stopped begins meets stop (all_lines input) before now ⊎ ((stop ≡ WriteFault) × OfWhole whole input (AppendsFront before now))
