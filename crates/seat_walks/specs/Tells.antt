-- What the calls of a table tell, as the laws take it.
use Rattle.std.specs.Prelude.{◌≡◌, ℕ, ◌+◌, ◌-◌, ◌<◌, ◌≤◌, max, List, [], ◌∷◌, ◌++◌, length, slice_set, Option}
use Rattle.turn_facts.specs.Counts.{Among, NoneTwice}
use Rattle.turn_facts.specs.Notes.{of}
use Rattle.turn_facts.specs.Prefixes.{StartsWith}
use Rattle.turn_lock.specs.declared.tickets.Ticket.{Ticket}
use Rattle.turn_table.specs.Knowledge.{at_slot, longer_each}
use Rattle.turn_table.specs.Rule.{Grew}
use Rattle.turn_table.specs.Seats.{SeatView, part_of}
use Rattle.seat_walks.specs.Walks.{Turned, IsAbove, Puts}
use Rattle.seat_walks.specs.Gathers.{numbers_of}

module _ {N B : Type 0} where
  -- `draw`: the seat s, which has become e, drew x
  pub record Drew (time : N → Option ℕ) (s e : SeatView N B) (x : ℕ) : Type 0 where
    pub seat : e ≡ record s { drawn = s.drawn ++ x ∷ []; allowance = s.allowance - 1 }
    pub allowance : 1 ≤ s.allowance
    pub above : IsAbove time s x

  -- `enter`, what was done under the turn, and `leave`: the seat old entered and was `inside`, drew and put and was `put`, and left and is new
  pub record TurnTaken (number : N → ℕ) (time : N → Option ℕ) (old inside put new : SeatView N B) (t : Turned N) : Type 0 where
    pub tickets : List Ticket
    pub later : List N
    pub rest : old.turns ≡ []
    pub enter : inside ≡ record old { seen = slice_set old.seen t.slot t.before; turns = tickets; mark = length old.drawn }
    pub slot : t.slot < length inside.seen
    pub more : StartsWith t.before (at_slot old.seen t.slot)
    pub mine : (n : ℕ) → Among n (numbers_of old) → of number n t.before ≡ of number n (at_slot old.seen t.slot)
    pub puts : Puts number time inside put t.before later t.notes t.drawn
    pub leave : new ≡ record put { seen = slice_set put.seen t.slot later; turns = [] }

  -- `split`: the seat p, with the allowance n, was split off from m, which has become e
  pub record Splits (m e p : SeatView N B) (n : ℕ) : Type 0 where
    pub room : n + 1 ≤ m.allowance
    pub seat : e ≡ record m { allowance = m.allowance - (n + 1) }
    pub other : p ≡ record m { number = p.number; allowance = n; drawn = []; joined = []; turns = []; mark = 0 }

  -- `join`: the seat m took in p, and has become e
  pub record Joins (number : N → ℕ) (m e p : SeatView N B) : Type 0 where
    pub seat : e ≡ record m { allowance = m.allowance + p.allowance; drawn = m.drawn ++ p.drawn; joined = m.joined ++ p.number ∷ p.joined; least = max m.least p.least; seen = longer_each m.seen p.seen }
    pub drawn : NoneTwice e.drawn
    pub numbers : NoneTwice (numbers_of e)
    pub mine : Grew number e.seen (part_of m)
    pub others : Grew number e.seen (part_of p)
