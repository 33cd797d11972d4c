-- A seat of the channels and one of the vault, and what calls leave of them.
use Rattle.std.specs.Prelude.{◌≡◌, List, [], length}
use Rattle.turn_table.specs.Seats.{Table, SeatView}
use Rattle.seat_walks.specs.Walks.{Step, Walks}
use Rattle.vault.specs.declared.notes.VaultNote.{VaultNote}
use Rattle.vault.specs.declared.bases.VaultBase.{VaultBase}
use Rattle.vault.specs.Notes.{by_of, time_of}

-- by these steps the seat s of the vault has become e
abbrev pub DidVault : SeatView VaultNote VaultBase → List (Step VaultNote) → SeatView VaultNote VaultBase → Type 0
DidVault s steps e = Walks by_of time_of s steps e

-- a table of one vault
abbrev pub IsOne : Table VaultBase → Type 0
IsOne table = length table.bases ≡ 1

-- the seat is of the table, and in no turn
pub record IsAtRest (table : Table VaultBase) (seat : SeatView VaultNote VaultBase) : Type 0 where
  pub same : seat.table ≡ table
  pub rest : seat.turns ≡ []

-- what a call leaves of a seat of the vault, which draws nothing
pub record Stays (old new : SeatView VaultNote VaultBase) : Type 0 where
  pub table : new.table ≡ old.table
  pub turns : new.turns ≡ old.turns
  pub number : new.number ≡ old.number
  pub joined : new.joined ≡ old.joined
  pub allowance : new.allowance ≡ old.allowance
  pub drawn : new.drawn ≡ old.drawn
