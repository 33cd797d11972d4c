-- What callers may ask, the lines that were answered, and what a caller knows of its last write.
use Rattle.std.specs.Prelude.{◌≡◌, ◌⊎◌, ℕ, zero, suc, ◌<◌, ◌≤◌, List, [], ◌∷◌, ◌++◌, length, OnOk}
use Rattle.std.specs.declared.result.Result.{Result}
use Rattle.row_types.specs.declared.allocation.Memory.{Memory}
use Rattle.hybrid_time.specs.declared.times.Timestamp.{Timestamp}
use Rattle.coarse_lists.specs.declared.collections.Collection.{Collection}
use Rattle.answer_lines.specs.declared.answers.Answer.{Answer}
use Rattle.request_lines.specs.declared.requests.Ask.{Ask}
use Rattle.request_lines.specs.declared.requests.Ask.TheVariants as asks
use Rattle.request_lines.specs.declared.requests.Request.{Request}
use Rattle.request_lines.specs.Requests.{FitsWrite, FitsQuery}
use Rattle.legal_output.specs.Lines.{Given, Line}
use Rattle.journal_model.specs.declared.notes.Note.{Note}
use Rattle.journal_model.specs.declared.notes.Kind.TheVariants.{Tick}
use Rattle.journal_model.specs.Notes.{note_of}
use Rattle.turn_facts.specs.Counts.{Among}
use Rattle.turn_table.specs.Seats.{SeatView}
use Rattle.seat_walks.specs.Walks.{Turned, Step, Lift}
use Rattle.shard_core.specs.Shards.{ChannelBase}
use Rattle.call_model.specs.Turns.{stamp}
use Rattle.call_model.specs.Calls.{TicksAll}
use Rattle.call_model.specs.Walks.{Did, Ran}

-- a caller may ask for all but a meet, with rows and queries of the collection
abbrev pub MayAsk : Collection → Ask → Type 0
MayAsk collection (asks.Write write) = FitsWrite collection write
MayAsk collection (asks.Search query level wait) = FitsQuery collection query
MayAsk collection (asks.Get key level wait) = Unit {0}
MayAsk collection asks.Tick = Unit {0}
MayAsk collection asks.Seal = Unit {0}
MayAsk collection asks.Meet = ⊥

-- a request at the number of its line, and its answer
abbrev pub line_of : ℕ × Request → Answer → Line
line_of request answer = record { number = request.0; asked = Given request.1; answer = answer }

-- the requests that were answered, with their answers
abbrev pub answered : List (ℕ × Request) → List (ℕ × Answer) → List Line
answered [] answers = []
answered (request ∷ requests) [] = []
answered (request ∷ requests) (answer ∷ answers) = line_of request answer.1 ∷ answered requests answers

-- the caller's last write was before the table, or its seat drew it
abbrev pub IsKnown : ℕ → ℕ → SeatView Note ChannelBase → Type 0
IsKnown first mine seat = (mine < first) ⊎ Among mine seat.drawn

-- a turn that ticks, or adds nothing
abbrev pub MayTick : ℕ → ℕ → Turned Note → Type 0
MayTick by line t = (t.notes ≡ []) ⊎ ((ts : ℕ) × (t.notes ≡ note_of by line (Tick (stamp ts)) ∷ []))

-- a caller's seat: the first requests were served, and all of them where memory was not wanting
pub record Asked (collection : Collection) (least mine : ℕ) (a : SeatView Note ChannelBase) (requests : List (ℕ × Request)) (answers : List (ℕ × Answer))
    (done : Result (Unit {0}) Memory) (p : SeatView Note ChannelBase) : Type 0 where
  pub part : List (Step Note)
  pub ran : Ran collection least mine a (answered requests answers) part p
  pub whole : OnOk done ((part ≡ []) × (length answers ≡ length requests))

-- ---- tickers

-- a round: it begins at a moment, and then each channel is ticked, one after another, for no line
pub record IsRound (collection : Collection) (least by : ℕ) (steps : List (Step Note)) : Type 0 where
  pub moment : ℕ
  pub ticking : List (Step Note)
  pub stamps : List Timestamp
  pub later : least ≤ moment
  pub only : steps ≡ Lift moment ∷ ticking
  pub ticks : TicksAll collection by 0 stamps ticking

-- so many rounds, one after another
abbrev pub AreRounds : Collection → ℕ → ℕ → ℕ → List (Step Note) → Type 0
AreRounds collection least by zero steps = steps ≡ []
AreRounds collection least by (suc n) steps =
    (round : List (Step Note)) × (others : List (Step Note)) × (steps ≡ round ++ others) × IsRound collection least by round × AreRounds collection least by n others

-- a ticker's seat, once all its rounds are done
pub record Ticked (collection : Collection) (least rounds : ℕ) (s e : SeatView Note ChannelBase) : Type 0 where
  pub steps : List (Step Note)
  pub did : Did s steps e
  pub ticks : AreRounds collection least s.number rounds steps
