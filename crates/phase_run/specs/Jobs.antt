-- What a seat is to do in a phase, and what was done with it.
use Rattle.std.specs.Prelude.{◌≡◌, ℕ, ◌+◌, ◌*◌, List, [], All, length, map, OnOk}
use Rattle.std.specs.declared.result.Result.{Result}
use Rattle.row_types.specs.declared.allocation.Memory.{Memory}
use Rattle.coarse_lists.specs.declared.collections.Collection.{Collection}
use Rattle.hybrid_time.specs.declared.times.Timestamp.{Timestamp}
use Rattle.answer_lines.specs.declared.answers.Answer.{Answer}
use Rattle.request_lines.specs.declared.requests.Request.{Request}
use Rattle.legal_output.specs.Lines.{Line}
use Rattle.legal_output.specs.Printed.{write_behind}
use Rattle.journal_model.specs.declared.notes.Note.{Note}
use Rattle.turn_table.specs.Seats.{SeatView}
use Rattle.shard_core.specs.Shards.{ChannelBase}
use Rattle.phase_model.specs.Phases.{Minds}
use Rattle.shard_calls.specs.Fronts.{FrontView, IsReady}
use Rattle.phase_run.specs.declared.jobs.Task.{Task}
use Rattle.phase_run.specs.declared.jobs.Task.TheVariants.{Caller, Ticker}
use Rattle.phase_run.specs.declared.jobs.Job.{Job}
use Rattle.phase_run.specs.Callers.{MayAsk, answered, IsKnown, Asked, Ticked}

-- how many numbers a task may draw
abbrev pub draws_of : Task → List (ℕ × Request) → ℕ
draws_of (Caller number) requests = length requests * 20 + 20
draws_of (Ticker rounds) requests = rounds * 20 + 20

-- a job that may begin
pub record IsSet (front : FrontView) (job : Job) : Type 0 where
  pub seat : IsReady front.table (draws_of job.task job.requests.items) job.seat
  pub may : All (λ (request : ℕ × Request). MayAsk front.collection request.1.what) job.requests.items
  pub mine : IsKnown front.table.first job.mine.0 job.seat
  pub none : job.answers.items ≡ []

-- a ticker's seat: it does nothing but tick, and does all of its rounds where memory was not wanting
pub record Ticking (collection : Collection) (least rounds : ℕ) (a : SeatView Note ChannelBase) (done : Result (Unit {0}) Memory) (p : SeatView Note ChannelBase) : Type 0 where
  pub minds : Minds a p
  pub ticked : OnOk done (Ticked collection least rounds a p)

-- what was done with a seat, by its task
abbrev pub Worked : Collection → ℕ → ℕ → Task → SeatView Note ChannelBase → List (ℕ × Request) → List (ℕ × Answer) → Result (Unit {0}) Memory → SeatView Note ChannelBase → Type 0
Worked collection least mine (Caller number) a requests answers done p = Asked collection least mine a requests answers done p
Worked collection least mine (Ticker rounds) a requests answers done p = Ticking collection least rounds a done p

-- what was done with a job: its task stays, and a caller's last write is the one behind its answers
pub record HasWorked (front : FrontView) (least : ℕ) (old new : Job) : Type 0 where
  pub worked : Worked front.collection least old.mine.0 old.task old.seat old.requests.items new.answers.items new.done new.seat
  pub mine : new.mine.0 ≡ write_behind old.mine.0 (answered old.requests.items new.answers.items)
  pub task : new.task ≡ old.task
  pub numbers : map (λ (answer : ℕ × Answer). answer.0) new.answers.items ≡ map (λ (line : Line). line.number) (answered old.requests.items new.answers.items)
