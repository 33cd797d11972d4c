-- What a run promises, by how it ends.
use Rattle.std.specs.Prelude.{◌≡◌, ◌⊎◌, ℕ, ◌≤◌, List, [], ◌∷◌, codes, Option, Some, IfSome}
use Rattle.std.specs.List.{AllByRecursion as Each}
use Rattle.std.specs.Io.KnownBytes.{Appends}
use Rattle.hybrid_time.specs.Times.{of_moment}
use Rattle.coarse_lists.specs.declared.collections.Collection.{Collection}
use Rattle.request_lines.specs.Headers.{header_of}
use Rattle.input_lines.specs.Lines.{first_line}
use Rattle.input_lines.specs.Limits.{IsWithin}
use Rattle.legal_output.specs.Lines.{Line}
use Rattle.legal_output.specs.Printed.{all_drawn}
use Rattle.legal_output.specs.Legal.{IsLegal}
use Rattle.legal_output.specs.Outputs.{asks_of, start_of, printed}
use Rattle.phase_engine.specs.Outputs.{begins}

abbrev pub running : List (List ℕ)
running = codes "run" ∷ []

abbrev pub still : List (List ℕ)
still = codes "run" ∷ codes "--still" ∷ []

-- the words are a form of the command line
abbrev pub IsForm : List (List ℕ) → Type 0
IsForm words = (words ≡ running) ⊎ (words ≡ still)

-- no number below this one is drawn: the first of the least moment, where no word stands behind `run`
abbrev pub first_in : List (List ℕ) → ℕ → ℕ
first_in [] least = 0
first_in (word ∷ []) least = of_moment least
first_in (word ∷ other ∷ words) least = 0

-- the source tells an input that keeps the limits and whose line 1 makes a collection
pub record TellsGood (left : Option (List ℕ)) (input : List ℕ) : Type 0 where
  pub told : left ≡ Some input
  pub within : IsWithin input
  pub header : begins (first_line input)

-- a legal output whose drawn numbers are none of them below `least`
pub record IsLegalFrom (least : ℕ) (input output : List ℕ) : Type 0 where
  pub collection : Collection
  pub header : header_of (first_line input) ≡ Some collection
  pub lines : List Line
  pub text : output ≡ printed lines
  pub legal : IsLegal (start_of collection) (asks_of collection input) lines
  pub drawn_from : Each (λ n. least ≤ n) (all_drawn lines)

-- what was written is such an output for what was left to read, where P says which
abbrev pub WritesAll : (List ℕ → List ℕ → Type 0) → Option (List ℕ) → Option (List ℕ) → Option (List ℕ) → Type 0
WritesAll P left before now = IfSome left (λ input. (output : List ℕ) × P input output × Appends before now output)
