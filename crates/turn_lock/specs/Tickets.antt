-- The rule of the tickets. With n slots, word k counts the tickets that were taken for the slot k, and word n + k is the ticket that is served; the client's words lie behind them.
use Rattle.std.specs.Prelude.{◌≡◌, ℕ, ◌+◌, ◌<◌, ◌≤◌, List, map, drop, length, slice_index_or, Option, Some, None}
use mathlib.Core.Option.{none, some}
use mathlib.Core.Option as maybe
use lib.ListN.{get_elem?}
use Rattle.atomic_table.specs.Table.{State}
use Rattle.turn_lock.specs.Client.{Homes, IsOut}
use Rattle.turn_lock.specs.declared.tickets.Doing.{Doing}
use Rattle.turn_lock.specs.declared.tickets.Ticket.{Ticket}
use Rattle.turn_lock.specs.declared.tickets.Stage.{Stage}
use Rattle.turn_lock.specs.declared.tickets.Stage.TheVariants.{Waiting, Inside}

abbrev pub waiting : ℕ → ℕ → Ticket
waiting k m = record { stage = Waiting; slot = k; number = m }

abbrev pub inside : ℕ → ℕ → Ticket
inside k m = record { stage = Inside; slot = k; number = m }

abbrev pub client : {C : Type 0} → Doing C → C
client d = d.client

abbrev pub doing : {C : Type 0} → List Ticket → C → Doing C
doing ts v = record { tickets = ts; client = v }

-- the seat j has the ticket t, at the place a of its list
abbrev pub Has : {C : Type 0} → List (Doing C) → ℕ → ℕ → Ticket → Type 0
Has {C} ds j a t = (d : Doing C) × (get_elem? ds j ≡ some d) × (get_elem? d.tickets a ≡ some t)

module _ {S : Type 0} (n : ℕ) (ws : List ℕ) (hs : Homes S) where
  abbrev pub taken : ℕ → ℕ
  taken k = slice_index_or ws k 0

  abbrev pub served : ℕ → ℕ
  served k = slice_index_or ws (n + k) 0

  abbrev pub Stands : ℕ → ℕ → Stage → Type 0
  Stands k m Waiting = served k ≤ m
  Stands k m Inside = (m ≡ served k) × IsOut hs k

  -- a ticket was taken and is not yet done with, and the value is out while one is inside
  abbrev pub Sits : Ticket → Type 0
  Sits t = (t.slot < n) × (t.number < taken t.slot) × Stands t.slot t.number t.stage

-- a value that is out is with a seat
abbrev pub IsPlaced : {S C : Type 0} → List (Doing C) → ℕ → maybe.Option (Option S) → Type 0
IsPlaced ds k none = (j : ℕ) × (a : ℕ) × (m : ℕ) × Has ds j a (inside k m)
IsPlaced ds k (some None) = ⊥
IsPlaced ds k (some (Some x)) = Unit {0}

-- no ticket is in two places
abbrev pub Apart : {C : Type 0} → List (Doing C) → Type 0
Apart ds = (i j a b : ℕ) (t u : Ticket) → Has ds i a t → Has ds j b u → t.slot ≡ u.slot → t.number ≡ u.number → (i ≡ j) × (a ≡ b)

-- the ticket m of the slot k is with a seat
abbrev pub IsHeld : {C : Type 0} → List (Doing C) → ℕ → ℕ → Type 0
IsHeld ds k m = (j : ℕ) × (a : ℕ) × (t : Ticket) × Has ds j a t × (t.slot ≡ k) × (t.number ≡ m)

-- each ticket from the one that is served to the newest is with a seat, in one place, and there are no others
pub record Lined {S C : Type 0} (n : ℕ) (ws : List ℕ) (hs : Homes S) (ds : List (Doing C)) : Type 0 where
  pub many : length hs ≡ n
  pub wide : n + n ≤ length ws
  pub sits : (j a : ℕ) (t : Ticket) → Has ds j a t → Sits n ws hs t
  pub held : (k m : ℕ) → k < n → served n ws hs k ≤ m → m < taken n ws hs k → IsHeld ds k m
  pub apart : Apart ds
  pub ordered : (k : ℕ) → k < n → served n ws hs k ≤ taken n ws hs k
  pub placed : (k : ℕ) (h : maybe.Option (Option S)) → get_elem? hs k ≡ some h → IsPlaced ds k h

-- the rule of the lock: that of the tickets, and the client's
pub record Ticketed {S C : Type 0} (holds : List ℕ → Homes S → List C → Type 0) (s : State (Option S) (Doing C)) : Type 0 where
  pub slots : ℕ
  pub lined : Lined slots s.words s.homes s.views
  pub kept : holds (drop (slots + slots) s.words) s.homes (map client s.views)
