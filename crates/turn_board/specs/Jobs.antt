-- What writing under turns does to a seat.
use Rattle.std.specs.Prelude.{◌≡◌, ◌≢◌, ℕ, ◌+◌, ◌-◌, ◌<◌, ◌≤◌, List, [], ◌∷◌, ◌++◌, map, length, OnOk, OnErr}
use Rattle.std.specs.declared.result.Result.{Result}
use Rattle.turn_facts.specs.Notes.{of}
use Rattle.turn_facts.specs.Prefixes.{StartsWith}
use Rattle.turn_board.specs.declared.boards.Entry.{Entry}
use Rattle.turn_board.specs.declared.jobs.Job.{Job}
use Rattle.turn_table.specs.Knowledge.{at_slot}
use Rattle.turn_table.specs.Seats.{Table, SeatView}

-- the seat is of the table, in no turn, and may draw at least n numbers
pub record IsReady (t : Table ℕ) (n : ℕ) (seat : SeatView Entry ℕ) : Type 0 where
  pub table : seat.table ≡ t
  pub turns : seat.turns ≡ []
  pub allowance : n ≤ seat.allowance

-- the entry that the seat by writes at a number that it drew
abbrev pub entry : ℕ → ℕ → Entry
entry by at = record { by = by; at = at }

-- the entries of its own number that a seat has seen on the board k
abbrev pub own_entries : SeatView Entry ℕ → ℕ → List Entry
own_entries seat k = of (λ (e : Entry). e.by) seat.number (at_slot seat.seen k)

-- under a turn it drew the number at, and wrote one entry at it behind those that stood there
pub record Put (at : ℕ) (old new : SeatView Entry ℕ) (before after : List Entry) : Type 0 where
  pub seat : new ≡ record old { drawn = old.drawn ++ at ∷ []; allowance = old.allowance - 1 }
  pub entries : after ≡ before ++ entry old.number at ∷ []

-- it drew these numbers and wrote an entry at each on the board k, in their order, and nothing else
pub record Wrote (numbers : List ℕ) (k : ℕ) (old new : SeatView Entry ℕ) : Type 0 where
  pub drawn : new.drawn ≡ old.drawn ++ numbers
  pub own : own_entries new k ≡ own_entries old k ++ map (entry old.number) numbers
  -- what it drew it has no more
  pub allowance : new.allowance + length new.drawn ≡ old.allowance + length old.drawn
  -- it may have seen more of this board, and has seen of the others what it had
  pub more : StartsWith (at_slot new.seen k) (at_slot old.seen k)
  pub others : (j : ℕ) → j ≢ k → at_slot new.seen j ≡ at_slot old.seen j
  pub boards : length new.seen ≡ length old.seen
  pub table : new.table ≡ old.table
  pub number : new.number ≡ old.number
  pub joined : new.joined ≡ old.joined
  pub least : new.least ≡ old.least
  pub turns : new.turns ≡ old.turns

-- what a call answers that was to write n entries, and wrote one at each of these numbers: fewer only where memory was wanting
pub record Tells {T E : Type 0} (answer : Result T E) (n : ℕ) (numbers : List ℕ) : Type 0 where
  pub all : OnOk answer (length numbers ≡ n)
  pub fewer : OnErr answer (length numbers < n)

-- the job wrote on its board, and has its answer
pub record Did (old new : Job) : Type 0 where
  pub numbers : List ℕ
  pub wrote : Wrote numbers old.slot old.seat new.seat
  pub done : Tells new.done old.times numbers
  pub slot : new.slot ≡ old.slot
  pub times : new.times ≡ old.times
