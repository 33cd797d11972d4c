-- What a clause says of a lock, of its seats and of a turn.
use Rattle.std.specs.Prelude.{◌≡◌, ℕ, ◌+◌, ◌<◌, ◌^◌, [], ◌∷◌, Option, None}
use Rattle.atomic_table.specs.declared.shared.Seat.{Seat}
use Rattle.turn_lock.specs.declared.tickets.Doing.{Doing}
use Rattle.turn_lock.specs.declared.locks.TurnLock.{TurnLock}
use Rattle.turn_lock.specs.declared.locks.Turn.{Turn}
use Rattle.turn_lock.specs.Tickets.{inside}
use Rattle.turn_lock.specs.Plays.{SameTurns}

abbrev pub Pass : Type 0 → Type 0 → Type 0
Pass S C = Seat (Option S) (Doing C)

module _ {S C : Type 0} where
  -- what the seat knows
  abbrev pub known : Pass S C → C
  known p = p.me.0.client

  abbrev pub IsSamePass : Pass S C → Pass S C → Type 0
  IsSamePass old new = (new.table_id ≡ old.table_id) × (new.id ≡ old.id)

  -- it is the same seat, in the same turns
  abbrev pub IsStill : Pass S C → Pass S C → Type 0
  IsStill old new = IsSamePass old new × SameTurns old.me new.me

  -- it has no ticket
  abbrev pub IsAtRest : Pass S C → Type 0
  IsAtRest p = (p.me.0.tickets ≡ []) × (p.me.1 ≡ [])

module _ {S C K P : Type 0} where
  abbrev pub slot_count : TurnLock S C K P → ℕ
  slot_count l = l.slots

  -- the number of the client's words
  abbrev pub word_count : TurnLock S C K P → ℕ
  word_count l = l.own_words

  abbrev pub IsPassOf : TurnLock S C K P → Pass S C → Type 0
  IsPassOf l p = p.table_id ≡ l.table.shared.table_id

  -- the seat is inside of the turn, and of no other
  abbrev pub IsInside : TurnLock S C K P → Pass S C → Turn S → Type 0
  IsInside l p t = (t.slot < l.slots) × (t.number + 1 < 2 ^ 64) × (p.me.0.tickets ≡ inside t.slot t.number ∷ []) × (p.me.1 ≡ (t.slot, None) ∷ [])
