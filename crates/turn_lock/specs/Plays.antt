-- What each step tells.
use Rattle.std.specs.Prelude.{◌≡◌, ◌≢◌, ℕ, List, ◌∷◌, Option, Some}
use Rattle.atomic_table.specs.Table.{Me, Step}
use Rattle.turn_lock.specs.declared.tickets.Doing.{Doing}
use Rattle.turn_lock.specs.declared.tickets.Ticket.{Ticket}
use Rattle.turn_lock.specs.Tickets.{waiting, inside, doing}

abbrev Seated : Type 0 → Type 0 → Type 0
Seated S C = Me (Option S) (Doing C)

module _ {S C : Type 0} where
  -- its turns are as they were
  abbrev pub SameTurns : Seated S C → Seated S C → Type 0
  SameTurns m m' = (m'.0.tickets ≡ m.0.tickets) × (m'.1 ≡ m.1)

  -- the exchange took the ticket, or found another number
  abbrev pub queued : Step (Option S) → Seated S C → ℕ → Seated S C → Type 0
  queued st m r m' = (r ≡ st.first → m' ≡ (doing (waiting st.word st.first ∷ m.0.tickets) m.0.client, m.1)) × (r ≢ st.first → m' ≡ m)

  abbrev pub Served : (C → ℕ → S → C → Type 0) → ℕ → ℕ → List Ticket → Seated S C → Seated S C → Type 0
  Served took k n ts m m' = (x : S) × (m'.0.tickets ≡ inside k n ∷ ts) × (m'.1 ≡ (k, Some x) ∷ m.1) × took m.0.client k x m'.0.client

  -- where the newest ticket is the one that is served, the value is taken
  abbrev pub looked : (C → ℕ → S → C → Type 0) → Step (Option S) → Seated S C → ℕ → Seated S C → Type 0
  looked took st m r m' = (k n : ℕ) (ts : List Ticket) → m.0.tickets ≡ waiting k n ∷ ts → (r ≡ n → Served took k n ts m m') × (r ≢ n → m' ≡ m)

  -- the value y goes back to its slot, and the newest ticket is done with
  abbrev pub passed : (C → ℕ → S → C → Type 0) → Seated S C → Seated S C → Type 0
  passed gave m m' = (k n : ℕ) (y : S) (ts : List Ticket) (cs : List (ℕ × Option S)) → m.0.tickets ≡ inside k n ∷ ts → m.1 ≡ (k, Some y) ∷ cs
      → (m'.0.tickets ≡ ts) × (m'.1 ≡ cs) × gave m.0.client k y m'.0.client

  abbrev pub moved : (C → ℕ → ℕ → C → Type 0) → Step (Option S) → Seated S C → ℕ → Seated S C → Type 0
  moved learnt st m r m' = SameTurns m m' × learnt m.0.client st.first r m'.0.client

  -- the same with the value y in hand
  abbrev pub marked : (C → ℕ → S → ℕ → ℕ → C → Type 0) → Step (Option S) → Seated S C → ℕ → Seated S C → Type 0
  marked counted st m r m' = SameTurns m m' × ((k : ℕ) (y : S) (cs : List (ℕ × Option S)) → m.1 ≡ (k, Some y) ∷ cs → counted m.0.client k y st.first r m'.0.client)
