-- What a phase is asked, the seats that set out and come back, and what stands behind it.
use Rattle.std.specs.Prelude.{◌≡◌, ℕ, ◌^◌, ◌<◌, ◌≤◌, vec_capacity, List, [], ◌∷◌, ◌++◌, All, length, map, Option, Some, None}
use Rattle.std.specs.List.{AllByRecursion as Each}
use Rattle.coarse_lists.specs.declared.collections.Collection.{Collection}
use Rattle.answer_lines.specs.declared.answers.Answer.{Answer}
use Rattle.request_lines.specs.declared.requests.Request.{Request}
use Rattle.legal_output.specs.Lines.{Line}
use Rattle.legal_output.specs.Printed.{lines_of, write_behind}
use Rattle.journal_model.specs.declared.notes.Note.{Note}
use Rattle.journal_model.specs.Runs.{IsSound}
use Rattle.turn_facts.specs.Counts.{Among, NoneTwice}
use Rattle.turn_facts.specs.Notes.{of}
use Rattle.turn_facts.specs.Prefixes.{IsAt}
use Rattle.turn_table.specs.Knowledge.{at_slot}
use Rattle.turn_table.specs.Seats.{SeatView}
use Rattle.seat_walks.specs.Gathers.{Parted}
use Rattle.shard_core.specs.Keys.{AreKeysIn}
use Rattle.shard_core.specs.Shards.{ChannelShard, ChannelBase}
use Rattle.phase_model.specs.Rests.{Rest}
use Rattle.call_model.specs.Turns.{by_of}
use Rattle.phase_model.specs.Meets.{meet_tick}
use Rattle.phase_model.specs.Phases.{IsLineOf}
use Rattle.phase_run.specs.declared.jobs.Task.{Task}
use Rattle.phase_run.specs.declared.jobs.Task.TheVariants.{Caller, Ticker}
use Rattle.phase_run.specs.declared.jobs.Job.{Job}
use Rattle.phase_run.specs.declared.phases.Plan.{Plan}
use Rattle.phase_run.specs.declared.phases.Prepared.{Prepared}
use Rattle.phase_run.specs.declared.works.Work.{Work}
use Rattle.phase_run.specs.declared.works.Done.{Done}
use Rattle.phase_run.specs.declared.works.Roles.{Roles}
use Rattle.phase_run.specs.declared.works.PhaseEnd.{PhaseEnd}
use Rattle.phase_run.specs.declared.works.Stop.TheVariants.{Memory}
use Rattle.shard_calls.specs.Fronts.{FrontView}
use Rattle.phase_run.specs.Callers.{MayAsk, answered}
use Rattle.phase_run.specs.Jobs.{draws_of}

-- what callers may be asked for, where the next number is `clock`
pub record MayBeAsked (collection : Collection) (clock : ℕ) (work : Work) : Type 0 where
  pub many : length work.requests.items ≤ 2 ^ 18
  pub may : All (λ (request : ℕ × Request). MayAsk collection request.1.what) work.requests.items
  pub mine_is : work.mine.0 < clock

pub record MayRun (collection : Collection) (clock : ℕ) (works : List Work) : Type 0 where
  pub callers : length works ≤ 16
  pub each : All (MayBeAsked collection clock) works

pub record AreFew (roles : Roles) : Type 0 where
  pub few_tickers : roles.tickers ≤ 16
  pub few_rounds : roles.rounds ≤ 1000

-- ---- lines

abbrev pub whose_work : Work → Option ℕ
whose_work work = Some work.caller

-- the lines of a phase: of each caller those that it was asked, with its answers, and beside these only lines that are refused
pub record AreLines (works : List Work) (dones : List Done) (block : List Line) : Type 0 where
  pub each : (i : ℕ) (w : Work) (d : Done) → IsAt works i w → IsAt dones i d → lines_of (Some w.caller) block ≡ answered w.requests.items d.answers.items
  pub lines : Each (IsLineOf (map whose_work works)) block

-- the journals before the phase, and each caller's last write
pub record IsRestOf (rest : Rest) (clock floor : ℕ) (journals : List (List Note)) (works : List Work) : Type 0 where
  pub clock_is : rest.clock ≡ clock
  pub floor_is : rest.floor ≡ floor
  pub journals_are : rest.journals ≡ journals
  pub mine_is : (i : ℕ) (w : Work) → IsAt works i w → w.mine.0 ≡ rest.mine w.caller

-- what stands behind the phase
abbrev pub ran_rest : Rest → ℕ → List (List Note) → List Line → Rest
ran_rest old clock journals block = record { clock = clock; met = old.met; floor = old.floor; mine = λ caller. write_behind (old.mine caller) (lines_of (Some caller) block); journals = journals }

-- ---- seats

abbrev pub seat_in : Job → SeatView Note ChannelBase
seat_in job = job.seat

abbrev pub plan_in : Job → Plan
plan_in job = record { task = job.task; mine = job.mine; requests = job.requests }

abbrev pub plan_by : Work → Plan
plan_by work = record { task = Caller work.caller; mine = work.mine; requests = work.requests }

abbrev pub whose_is : Task → Option ℕ
whose_is (Caller number) = Some number
whose_is (Ticker rounds) = None

-- the caller that a gate sees
abbrev pub caller_number : Task → ℕ
caller_number (Caller number) = number
caller_number (Ticker rounds) = 0

abbrev pub done_in : Job → Done
done_in job = record { caller = caller_number job.task; mine = job.mine; answers = job.answers }

-- what was done is told of callers alone
abbrev pub told_of : Task → Done → List Done
told_of (Caller number) done = done ∷ []
told_of (Ticker rounds) done = []

abbrev pub dones_of : List Job → List Done
dones_of [] = []
dones_of (job ∷ jobs) = told_of job.task (done_in job) ++ dones_of jobs

-- what a caller did of its work: the answers to its first requests, and its last write behind them
pub record IsDoneOf (work : Work) (done : Done) : Type 0 where
  pub caller_is : done.caller ≡ work.caller
  pub mine_is : done.mine.0 ≡ write_behind work.mine.0 (answered work.requests.items done.answers.items)
  pub numbers : map (λ (answer : ℕ × Answer). answer.0) done.answers.items ≡ map (λ (line : Line). line.number) (answered work.requests.items done.answers.items)

-- what each caller did, in the order of the works
pub record AreDone (works : List Work) (dones : List Done) : Type 0 where
  pub many : length dones ≡ length works
  pub each : (i : ℕ) (w : Work) (d : Done) → IsAt works i w → IsAt dones i d → IsDoneOf w d

-- each caller has an answer to each of its requests
abbrev pub AreAnswered : List Work → List Done → Type 0
AreAnswered works dones = (i : ℕ) (w : Work) (d : Done) → IsAt works i w → IsAt dones i d → length d.answers.items ≡ length w.requests.items

-- memory was wanting before any caller ran: nothing was done
pub record IsNotBegun (shards : List ChannelShard) (clock : ℕ) (end : PhaseEnd) : Type 0 where
  pub stop_is : end.stop ≡ Memory
  pub clock_is : end.clock ≡ clock
  pub shards_are : end.shards.items ≡ shards
  pub none : end.done.items ≡ []

-- ---- plans

-- a plan that a seat with an allowance of 2^30 may take up
pub record IsPlan (front : FrontView) (plan : Plan) : Type 0 where
  pub few : draws_of plan.task plan.requests.items ≤ 2 ^ 30
  pub may : All (λ (request : ℕ × Request). MayAsk front.collection request.1.what) plan.requests.items
  pub mine_is : plan.mine.0 < front.table.first

-- a plan of the background
abbrev pub IsIdle : Plan → Type 0
IsIdle plan = whose_is plan.task ≡ None

-- a ticker's plan
pub record IsTicker (rounds : ℕ) (plan : Plan) : Type 0 where
  pub task : plan.task ≡ Ticker rounds
  pub none : plan.requests.items ≡ []
  pub mine_is : plan.mine.0 ≡ 0

-- the plans of works, and behind them plans of the background
pub record Planned (works : List Work) (plans : List Plan) : Type 0 where
  pub others : List Plan
  pub are : plans ≡ map plan_by works ++ others
  pub idle : All IsIdle others

-- the plans of works, and those of tickers behind them; there is room for a job each, and for what each caller did
pub record ArePlans (works : List Work) (roles : Roles) (prepared : Prepared) : Type 0 where
  pub others : List Plan
  pub are : prepared.plans.items ≡ map plan_by works ++ others
  pub many : length others ≡ roles.tickers
  pub tickers : All (IsTicker roles.rounds) others
  pub none : (prepared.jobs.items ≡ []) × (prepared.done.items ≡ [])
  pub room : (length prepared.plans.items ≤ vec_capacity prepared.jobs) × (length prepared.plans.items ≤ vec_capacity prepared.done)

-- ---- jobs

-- a job that was just made
pub record IsFresh (job : Job) : Type 0 where
  pub none : job.answers.items ≡ []
  pub allowance : job.seat.allowance ≡ 2 ^ 30

-- seats were split off from s, which has become e, one for each plan
pub record SetOut (plans : List Plan) (s : SeatView Note ChannelBase) (made : List Job) (e : SeatView Note ChannelBase) : Type 0 where
  pub parted : Parted s (map seat_in made) e
  pub planned : map plan_in made ≡ plans
  pub fresh : All IsFresh made

-- ---- tickers

-- each of so many tickers has a number of its own, and in each channel the phase added, as notes of that number, just so many ticks of no line
pub record HaveTicked (channels tickers rounds : ℕ) (old new : List (List Note)) : Type 0 where
  pub numbers : List ℕ
  pub many : length numbers ≡ tickers
  pub apart : NoneTwice numbers
  pub ticks : (n k : ℕ) → Among n numbers → k < channels → (stamps : List ℕ) × (length stamps ≡ rounds) × (of by_of n (at_slot new k) ≡ of by_of n (at_slot old k) ++ map (meet_tick n) stamps)

-- ---- shards

-- a shard keeps that its journal is sound, and that its keys are of its channel
pub record KeepsJournal (x : ChannelShard) : Type 0 where
  pub sound : IsSound x.channel x.state
  pub keys : AreKeysIn x.collection.channels x.channel.number x.state.notes
