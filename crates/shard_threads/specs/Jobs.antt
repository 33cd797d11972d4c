-- What ticks on one channel do to a seat, and what a job of them has done.
use Rattle.std.specs.Prelude.{◌≡◌, ◌≢◌, ℕ, ◌≤◌, List, ◌++◌, map, length, OnOk}
use Rattle.turn_facts.specs.Notes.{of}
use Rattle.turn_table.specs.Knowledge.{at_slot}
use Rattle.turn_table.specs.Seats.{SeatView}
use Rattle.journal_model.specs.declared.notes.Kind.TheVariants.{Tick}
use Rattle.journal_model.specs.declared.notes.Note.{Note}
use Rattle.journal_model.specs.Notes.{note_of}
use Rattle.shard_core.specs.Shards.{ChannelBase}
use Rattle.call_model.specs.Turns.{by_of, stamp}
use Rattle.shard_calls.specs.Fronts.{Spends}
use Rattle.shard_threads.specs.declared.jobs.Job.{Job}

-- the notes of its own number that a seat has seen on the channel k
abbrev pub own_notes : SeatView Note ChannelBase → ℕ → List Note
own_notes seat k = of by_of seat.number (at_slot seat.seen k)

abbrev pub tick_at : ℕ → ℕ → ℕ → Note
tick_at by line ts = note_of by line (Tick (stamp ts))

-- it drew these numbers, and noted a tick at each on the channel k, in their order, and nothing else on any channel
pub record Ticked (line k : ℕ) (numbers : List ℕ) (old new : SeatView Note ChannelBase) : Type 0 where
  pub drawn : new.drawn ≡ old.drawn ++ numbers
  pub own : own_notes new k ≡ own_notes old k ++ map (tick_at old.number line) numbers
  pub others : (j : ℕ) → j ≢ k → own_notes new j ≡ own_notes old j
  pub number : new.number ≡ old.number

-- the job ticked its channel, as often as it was to unless memory was wanting, and was answered each number
pub record HasTicked (old new : Job) : Type 0 where
  pub numbers : List ℕ
  pub ticked : Ticked 0 old.channel numbers old.seat new.seat
  pub few : length numbers ≤ old.times
  pub done : OnOk new.done ((length numbers ≡ old.times) × (new.answers.items ≡ old.answers.items ++ numbers))
  pub spends : Spends old.times old.seat new.seat
