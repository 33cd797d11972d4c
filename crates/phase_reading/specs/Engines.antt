-- What the calls of an engine require, and what they do to its account.
use Rattle.std.specs.Prelude.{◌≡◌, ℕ, ◌+◌, ◌<◌, ◌≤◌, Bool, true, false, List, [], ◌∷◌, ◌++◌, length}
use Rattle.std.specs.List.{AllByRecursion as Each}
use Rattle.input_lines.specs.declared.limits.TheConstants.{MAX_LINES}
use Rattle.phase_reading.specs.Phases.{Begins, Meets}

-- the first lines were answered by the text, and the second ones came behind them and wait for their meet
abbrev pub Account : Type 1
Account = List (List ℕ) → List (List ℕ) → List ℕ → Type 0

-- which texts answer some lines
abbrev pub Answers : Type 1
Answers = List (List ℕ) → List ℕ → Type 0

-- no line has come
abbrev pub IsFresh : Account → Type 0
IsFresh account = (output : List ℕ) × account [] [] output

-- line 1 was answered, no line that waits is a meet, and an input may have one more
pub record CanTake (account : Account) (meets : Meets) : Type 0 where
  pub header : List ℕ
  pub done : List (List ℕ)
  pub waiting : List (List ℕ)
  pub output : List ℕ
  pub told : account (header ∷ done) waiting output
  pub room : length (header ∷ done) + length waiting < MAX_LINES
  pub plain : Each (λ line. meets header line ≡ false) waiting

-- the lines that wait are a phase: a meet, and before it none
pub record CanRun (account : Account) (meets : Meets) : Type 0 where
  pub header : List ℕ
  pub done : List (List ℕ)
  pub phase : List (List ℕ)
  pub meet : List ℕ
  pub output : List ℕ
  pub told : account (header ∷ done) (phase ++ meet ∷ []) output
  pub few : length (header ∷ done) + length (phase ++ meet ∷ []) ≤ MAX_LINES
  pub plain : Each (λ line. meets header line ≡ false) phase
  pub meets_there : meets header meet ≡ true

-- line 1 was answered, and no line that waits is a meet
pub record CanEnd (account : Account) (meets : Meets) : Type 0 where
  pub header : List ℕ
  pub done : List (List ℕ)
  pub waiting : List (List ℕ)
  pub output : List ℕ
  pub told : account (header ∷ done) waiting output
  pub few : length (header ∷ done) + length waiting ≤ MAX_LINES
  pub plain : Each (λ line. meets header line ≡ false) waiting

-- line 1 makes a collection, and the text answers it
abbrev pub AnswersFirst : Account → Account → Begins → List ℕ → List ℕ → Type 0
AnswersFirst old new begins line text = begins line × ((output : List ℕ) → old [] [] output → new (line ∷ []) [] (output ++ text))

-- the line waits behind the others, and `meet` says whether it is a meet
abbrev pub Takes : Account → Account → Meets → List ℕ → Bool → Type 0
Takes old new meets line meet = (header : List ℕ) (done waiting : List (List ℕ)) (output : List ℕ) → old (header ∷ done) waiting output
    → (meet ≡ meets header line) × new (header ∷ done) (waiting ++ line ∷ []) output

-- the text answers the lines that wait
abbrev pub AnswersPhase : Account → Account → List ℕ → Type 0
AnswersPhase old new text = (done waiting : List (List ℕ)) (output : List ℕ) → old done waiting output → new (done ++ waiting) [] (output ++ text)

-- the text answers the lines that wait, and the end
abbrev pub AnswersEnd : Account → Answers → List ℕ → Type 0
AnswersEnd old whole text = (done waiting : List (List ℕ)) (output : List ℕ) → old done waiting output → whole (done ++ waiting) (output ++ text)
