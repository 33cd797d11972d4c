-- Seats that are joined, and what is told of their jobs.
use Rattle.std.proofs.Common.{◌≡◌, ℕ, ◌+◌, ◌<◌, ◌≤◌, List, [], ◌∷◌, ◌++◌, length, map, All, Ok, refl, ap, sym, ◌∙◌, subst, arith, length-append, append_assoc}
use Rattle.std.proofs.lemmas.List.{map-append, append-nil}
use Rattle.std.proofs.lemmas.List.Elements.{All-push, All-nil}
use Rattle.journal_model.specs.declared.notes.Note.{Note}
use Rattle.turn_table.specs.Seats.{Table, SeatView}
use Rattle.seat_walks.specs.Gathers.{Gathered, IsBack}
use Rattle.seat_walks.specs.Tells.{Joins}
use Rattle.seat_walks.proofs.Gathering.{gathered_none, gathered_more}
use Rattle.shard_core.specs.Shards.{ChannelBase}
use Rattle.call_model.specs.Turns.{by_of}
use Rattle.phase_run.specs.declared.jobs.Task.{Task}
use Rattle.phase_run.specs.declared.jobs.Task.TheVariants.{Caller, Ticker}
use Rattle.phase_run.specs.declared.jobs.Job.{Job}
use Rattle.phase_run.specs.declared.works.Done.{Done}
use Rattle.phase_run.specs.declared.works.Stop.{Stop}
use Rattle.phase_run.specs.declared.works.Stop.TheVariants as stops
use Rattle.phase_run.specs.Phases.{seat_in, done_in, told_of, dones_of}

dones_append : (xs ys : List Job) → dones_of (xs ++ ys) ≡ dones_of xs ++ dones_of ys
dones_append [] ys = refl
dones_append (x ∷ xs) ys = ap (λ (l : List Done). told_of x.task (done_in x) ++ l) (dones_append xs ys) ∙ sym (append_assoc (told_of x.task (done_in x)) (dones_of xs) (dones_of ys))

dones_more : (xs : List Job) (x : Job) → dones_of (xs ++ x ∷ []) ≡ dones_of xs ++ told_of x.task (done_in x)
dones_more xs x = dones_append xs (x ∷ []) ∙ ap (λ (l : List Done). dones_of xs ++ l) (append-nil (told_of x.task (done_in x)))

told_few : (task : Task) (done : Done) → length (told_of task done) ≤ 1
told_few (Caller number) done = omega arith
told_few (Ticker rounds) done = omega arith

pub dones_few : (xs : List Job) → length (dones_of xs) ≤ length xs
dones_few [] = omega arith
dones_few (x ∷ xs) =
    let one : length (told_of x.task (done_in x)) ≤ 1 = told_few x.task (done_in x) in
    let rest : length (dones_of xs) ≤ length xs = dones_few xs in
    let all : length (told_of x.task (done_in x) ++ dones_of xs) ≡ length (told_of x.task (done_in x)) + length (dones_of xs) = length-append (told_of x.task (done_in x)) (dones_of xs) in omega arith

-- the seat s has become e by taking in the seats of these jobs
pub record GatheredSo (s : SeatView Note ChannelBase) (jobs : List Job) (e : SeatView Note ChannelBase) (dones : List Done) (stop : Stop) : Type 0 where
  pub seat : Gathered by_of s (map seat_in jobs) e
  pub done : dones ≡ dones_of jobs
  pub whole : stop ≡ stops.All → All (λ (job : Job). job.done ≡ Ok tt) jobs

pub so_none : (s : SeatView Note ChannelBase) (dones : List Done) → dones ≡ [] → GatheredSo s [] s dones stops.All
so_none s dones none = record { seat = gathered_none by_of s; done = none; whole = λ all. All-nil (λ (job : Job). job.done ≡ Ok tt) }

pub so_more : (t : Table ChannelBase) (s m e : SeatView Note ChannelBase) (jobs : List Job) (job : Job) (dones later : List Done) (stop next : Stop) → GatheredSo s jobs m dones stop → IsBack t (length s.seen) job.seat → Joins by_of m e job.seat
    → later ≡ dones ++ told_of job.task (done_in job) → (next ≡ stops.All → (stop ≡ stops.All) × (job.done ≡ Ok tt)) → GatheredSo s (jobs ++ job ∷ []) e later next
so_more t s m e jobs job dones later stop next g back joins told behind = record {
  seat = subst (λ (l : List (SeatView Note ChannelBase)). Gathered by_of s l e) (sym (map-append seat_in jobs (job ∷ [])))
      (gathered_more by_of t s m e job.seat (map seat_in jobs) g.seat back joins.seat joins.drawn joins.numbers joins.mine joins.others);
  done = told ∙ ap (λ (l : List Done). l ++ told_of job.task (done_in job)) g.done ∙ sym (dones_more jobs job);
  whole = λ all. let both = behind all in All-push (λ (j : Job). j.done ≡ Ok tt) jobs job (g.whole both.0) both.1;
}
