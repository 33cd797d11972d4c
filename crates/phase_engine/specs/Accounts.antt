-- What the engine keeps while it answers. Nothing here need be believed: it is the invariant of the engine.
use Rattle.std.specs.Prelude.{◌≡◌, ℕ, ◌+◌, ◌*◌, ◌^◌, ◌≤◌, Bool, true, false, List, [], ◌∷◌, ◌++◌, map, length, Option, Some, None, Ok}
use Rattle.std.specs.List.{AllByRecursion as Each}
use Rattle.coarse_lists.specs.declared.collections.Collection.{Collection}
use Rattle.request_lines.specs.declared.requests.Ask.TheVariants as asks
use Rattle.request_lines.specs.Headers.{header_of}
use Rattle.request_lines.specs.Requests.{request_of}
use Rattle.legal_output.specs.Lines.{Line}
use Rattle.legal_output.specs.Legal.{Numbered}
use Rattle.legal_output.specs.Phases.{Phase, lines_in}
use Rattle.legal_output.specs.Outputs.{printed}
use Rattle.phase_model.specs.Rests.{Rest}
use Rattle.phase_laws.specs.Runs.{HasRun}
use Rattle.phase_lines.specs.Waiting.{Read, AreHeld}
use Rattle.phase_channels.specs.Rests.{collection_in, AreAtRest}
use Rattle.phase_channels.specs.Steps.{FitsRead}
use Rattle.phase_engine.specs.declared.running.Running.{Running}
use Rattle.phase_engine.specs.Outputs.{asked_in}

-- the lines that came behind the last meet: what was read of them, and their own meet, if it came
abbrev pub HaveCome : Collection → List Read → Bool → List (List ℕ) → Type 0
HaveCome collection reads false lines = map (λ line. request_of collection line) lines ≡ reads
HaveCome collection reads true lines =
    (caller : ℕ) × (map (λ line. request_of collection line) lines ≡ reads ++ Ok (record { caller = caller; what = asks.Meet }) ∷ [])

-- `done` was answered by `output`: phases that were run over the channels, each with its meet; and `waiting` came behind them
pub record IsRunning (least : ℕ) (running : Running) (done waiting : List (List ℕ)) (output : List ℕ) : Type 0 where
  pub header : List ℕ
  pub lines : List (List ℕ)
  pub split : done ≡ header ∷ lines
  pub header_is : header_of header ≡ Some (collection_in running.channels)
  -- what has run
  pub phases : List Phase
  pub rest : Rest
  pub ran : HasRun (collection_in running.channels) least phases rest
  pub at_rest : AreAtRest rest running.channels
  -- what was printed
  pub text : output ≡ printed (lines_in phases)
  pub numbered : Numbered 2 (lines_in phases)
  pub asked : map (λ (line : Line). line.asked) (lines_in phases) ≡ asked_in (collection_in running.channels) lines
  -- what waits
  pub reads : List Read
  pub held : AreHeld (2 + length lines) reads running.lines
  pub come : HaveCome (collection_in running.channels) reads running.meet_came waiting
  pub fit : Each (FitsRead (collection_in running.channels)) reads
  -- each phase has a meet line of its own, and takes the clock by so much at most
  pub met : length phases ≤ length lines
  pub low : running.channels.clock ≤ 2 ^ 63 + length phases * (2 ^ 40 + 1)

abbrev pub IsAccount : ℕ → Option Running → List (List ℕ) → List (List ℕ) → List ℕ → Type 0
IsAccount least None done waiting output = (done ≡ []) × (waiting ≡ []) × (output ≡ [])
IsAccount least (Some running) done waiting output = IsRunning least running done waiting output
