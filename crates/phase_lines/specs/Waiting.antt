-- The lines of a phase, and what each caller asks among them.
use Rattle.std.specs.Prelude.{◌≡◌, ◌≢◌, ℕ, ◌+◌, ◌<◌, ◌≤◌, List, [], ◌∷◌, ◌++◌, length, map, if◌then◌else◌, Result, Ok, Err}
use Rattle.std.specs.List.{AllByRecursion as Each}
use Rattle.answer_lines.specs.declared.reasons.Reason.{Reason}
use Rattle.hybrid_time.specs.declared.times.Timestamp.{Timestamp}
use Rattle.request_lines.specs.declared.requests.Request.{Request}
use Rattle.request_lines.specs.declared.requests.Ask.TheVariants as asks
use Rattle.legal_output.specs.Lines.{caller_in}
use Rattle.legal_output.specs.Printed.{is_caller}
use Rattle.turn_facts.specs.Counts.{Among, NoneTwice}
use Rattle.turn_facts.specs.Prefixes.{IsAt}
use Rattle.phase_run.specs.declared.works.Work.{Work}
use Rattle.phase_lines.specs.declared.lines.Slot.{Slot}
use Rattle.phase_lines.specs.declared.lines.Slot.TheVariants.{Refused, Asked}
use Rattle.phase_lines.specs.declared.lines.PhaseLines.{PhaseLines}

abbrev pub Read : Type 0
Read = Result Request Reason

abbrev pub own : ℕ → ℕ → Read → List (ℕ × Request)
own caller number (Ok request) = if is_caller caller (caller_in request.caller request.what) then (number, request) ∷ [] else []
own caller number (Err reason) = []

-- the requests of a caller among lines from a number on, each at the number of its line
abbrev pub requests_of : ℕ → ℕ → List Read → List (ℕ × Request)
requests_of caller number [] = []
requests_of caller number (read ∷ reads) = own caller number read ++ requests_of caller (number + 1) reads

-- a line that waits with others for a meet: one that is refused, or a request of a caller
abbrev pub MayWait : Read → Type 0
MayWait (Ok request) = (request.caller < 16) × (request.what ≢ asks.Meet)
MayWait (Err reason) = Unit {0}

abbrev pub slot_of : Read → Slot
slot_of (Ok request) = Asked request.caller
slot_of (Err reason) = Refused reason

-- these lines wait, from the number `first` on
pub record AreHeld (first : ℕ) (reads : List Read) (lines : PhaseLines) : Type 0 where
  pub first_is : lines.first ≡ first
  pub slots : lines.slots.items ≡ map slot_of reads
  pub many : length lines.places.items ≡ 16
  pub places : (caller : ℕ) (place : _) → IsAt lines.places.items caller place → place.items ≡ requests_of caller first reads
  pub may : Each MayWait reads

-- a caller's work: all that it asks, behind its last write
pub record IsWorkOf (first : ℕ) (reads : List Read) (mine : List Timestamp) (work : Work) : Type 0 where
  pub caller : work.caller < 16
  pub requests : work.requests.items ≡ requests_of work.caller first reads
  pub mine_is : IsAt mine work.caller work.mine

-- a work for each caller that asks
pub record AreWorks (first : ℕ) (reads : List Read) (mine : List Timestamp) (works : List Work) : Type 0 where
  pub few : length works ≤ 16
  pub each : (i : ℕ) (work : Work) → IsAt works i work → IsWorkOf first reads mine work
  pub apart : NoneTwice (map (λ (work : Work). work.caller) works)
  pub all : (caller : ℕ) → requests_of caller first reads ≢ [] → Among caller (map (λ (work : Work). work.caller) works)
