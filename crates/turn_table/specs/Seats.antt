-- Tables, seats and turns as callers see them.
use Rattle.std.specs.Prelude.{◌≡◌, ℕ, ◌+◌, ◌^◌, ◌<◌, true, List, [], ◌∷◌, map, length, drop, None, Option}
use Rattle.atomic_table.specs.Seated.{TableId}
use Rattle.turn_lock.specs.declared.tickets.Ticket.{Ticket}
use Rattle.turn_lock.specs.declared.tickets.Doing.{Doing}
use Rattle.atomic_table.specs.declared.shared.Seat as raw
use Rattle.turn_table.specs.declared.knows.Know.{Know}
use Rattle.turn_lock.specs.Tickets.{inside}
use Rattle.turn_table.specs.declared.knows.Part.{Part}
use Rattle.turn_table.specs.declared.turns.Turn.{Turn}
use Rattle.turn_table.specs.Knowledge.{at_slot}

-- which table it is, the least number that was ever to be drawn, and the base of the value of each slot
pub record Table (B : Type 0) : Type 0 where
  pub id : TableId
  pub first : ℕ
  pub bases : List B

-- a seat: its table, what it has, what it has seen of the journal of each slot, and the turns that it holds
pub record SeatView (N B : Type 0) : Type 0 where
  pub table : Table B
  pub number : ℕ
  pub allowance : ℕ
  pub drawn : List ℕ
  -- the numbers of the seats that were joined to it
  pub joined : List ℕ
  -- no number that it draws is below this one
  pub least : ℕ
  pub seen : List (List N)
  -- the journals with which the table began
  pub origin : List (List N)
  pub turns : List Ticket
  -- how many numbers it had drawn when it entered its turn
  pub mark : ℕ

module _ {S N B : Type 0} where
  abbrev pub known : raw.Seat (Option S) (Doing (Know N B)) → Know N B
  known p = p.me.0.client

  abbrev pub seat_view : raw.Seat (Option S) (Doing (Know N B)) → SeatView N B
  seat_view p = record {
    table = record { id = p.table_id; first = (known p).first; bases = (known p).bases };
    number = (known p).number;
    allowance = (known p).allowance;
    drawn = (known p).drawn;
    joined = (known p).joined;
    least = (known p).least;
    seen = (known p).seen;
    origin = (known p).origin;
    turns = p.me.0.tickets;
    mark = (known p).mark;
  }

  -- it is a seat, with nothing to give away, and out of the slots of its tickets it has the values
  pub record IsSeat (p : raw.Seat (Option S) (Doing (Know N B))) (number : ℕ) : Type 0 where
    pub live : (known p).live ≡ true
    pub named : number ≡ (known p).number
    pub spare : (known p).spare ≡ []
    pub parts : (known p).parts ≡ []
    pub long : length (known p).seen ≡ p.table_id.slots
    pub inside : (known p).inside ≡ map (λ (t : Ticket). t.slot) p.me.0.tickets
    pub carried : p.me.1 ≡ map (λ (t : Ticket). (t.slot, None)) p.me.0.tickets

module _ {N B : Type 0} where
  -- the numbers that it drew since it entered its turn
  abbrev pub fresh : SeatView N B → List ℕ
  fresh s = drop s.mark s.drawn

  -- its numbers, and what it has seen
  abbrev pub part_of : SeatView N B → Part N
  part_of s = record { numbers = s.number ∷ s.joined; seen = s.seen }

  -- the seat with which a table begins
  abbrev pub first_seat : Table B → List (List N) → SeatView N B
  first_seat t js = record { table = t; number = 0; allowance = 2 ^ 40; drawn = []; joined = []; least = t.first; seen = js; origin = js; turns = []; mark = 0 }

  -- the turn is the one that the seat holds
  pub record IsGiven {V : Type 0} (seat : SeatView N B) (turn : Turn V) : Type 0 where
    pub slot : turn.slot < length seat.seen
    pub number : turn.number + 1 < 2 ^ 64
    pub held : seat.turns ≡ inside turn.slot turn.number ∷ []
    pub before : turn.before ≡ length (at_slot seat.seen turn.slot)

-- the turn with another value
abbrev pub with_value : {V : Type 0} → Turn V → V → Turn V
with_value t w = record t { value = w }
