-- Which texts answer the first lines of an input.
use Rattle.std.specs.Prelude.{◌≡◌, ℕ, ◌≤◌, Bool, true, false, List, [], ◌∷◌, ◌++◌, map, Option, Some, None, IsSome, Result, Ok, Err}
use Rattle.std.specs.List.{AllByRecursion as Each}
use Rattle.coarse_lists.specs.declared.collections.Collection.{Collection}
use Rattle.answer_lines.specs.declared.reasons.Reason.{Reason}
use Rattle.request_lines.specs.declared.requests.Request.{Request}
use Rattle.request_lines.specs.declared.requests.Ask.{Ask}
use Rattle.request_lines.specs.declared.requests.Ask.TheVariants as asks
use Rattle.request_lines.specs.Headers.{header_of}
use Rattle.request_lines.specs.Requests.{request_of}
use Rattle.legal_output.specs.Lines.{Asked, Finish, Line}
use Rattle.legal_output.specs.Printed.{all_drawn}
use Rattle.legal_output.specs.Legal.{IsLegal}
use Rattle.legal_output.specs.Outputs.{asked_of, start_of, printed}

-- line 1 makes a collection
abbrev pub begins : List ℕ → Type 0
begins line = IsSome (header_of line)

abbrev pub asks_meet : Ask → Bool
asks_meet asks.Meet = true
asks_meet ask = false

abbrev pub is_meet : Result Request Reason → Bool
is_meet (Ok request) = asks_meet request.what
is_meet (Err reason) = false

abbrev pub meets_in : Option Collection → List ℕ → Bool
meets_in None line = false
meets_in (Some collection) line = is_meet (request_of collection line)

-- behind this line 1 a line is a meet
abbrev pub meets : List ℕ → List ℕ → Bool
meets header line = meets_in (header_of header) line

-- what lines ask
abbrev pub asked_in : Collection → List (List ℕ) → List Asked
asked_in collection lines = map (λ line. asked_of (request_of collection line)) lines

-- line 1 makes a collection, and the output is the text of lines that are legal for what was asked of it, whose drawn
-- numbers are none of them below `least`
pub record IsAnswered (least : ℕ) (asks : Collection → List Asked) (header output : List ℕ) : Type 0 where
  pub collection : Collection
  pub header_is : header_of header ≡ Some collection
  pub lines : List Line
  pub text : output ≡ printed lines
  pub legal : IsLegal (start_of collection) (asks collection) lines
  pub drawn_from : Each (λ n. least ≤ n) (all_drawn lines)

-- an output that stops behind some lines
abbrev pub stopped_at : ℕ → List (List ℕ) → List ℕ → Type 0
stopped_at least [] output = output ≡ []
stopped_at least (header ∷ lines) output = IsAnswered least (λ collection. asked_in collection lines) header output

-- an output of all lines, with its end line
abbrev pub whole_at : ℕ → List (List ℕ) → List ℕ → Type 0
whole_at least [] output = ⊥
whole_at least (header ∷ lines) output = IsAnswered least (λ collection. asked_in collection lines ++ Finish ∷ []) header output
