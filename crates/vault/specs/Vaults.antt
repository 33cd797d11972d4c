-- What contracts see of a vault, and what every vault keeps.
use Rattle.std.specs.Prelude.{◌≡◌, ℕ, ◌+◌, ◌-◌, ◌^◌, ◌<◌, ◌≤◌, min, Bool, true, List, length, Option, is_some}
use Rattle.turn_facts.specs.Counts.{total}
use Rattle.manu_edge.specs.Objects.{Objects}
use Rattle.vault.specs.declared.notes.VaultNote.{VaultNote}
use Rattle.vault.specs.declared.bases.VaultBase.{VaultBase}
use Rattle.vault.specs.Notes.{failures_in, harms_in}

-- the journal, and the base: the keeper's count of faults when the vault was made, whether the keeper tells its map, and the
-- length of the journal at the last meet; the objects of the keeper, where they are told, and its count of faults now; and for
-- how many more notes there is room
pub record VaultView : Type 0 where
  pub notes : List VaultNote
  pub base : VaultBase
  pub kept : Option Objects
  pub faults : ℕ
  pub room : ℕ

abbrev pub base_of : ℕ → Bool → ℕ → VaultBase
base_of start told met = record { start = start; told = told; met = met }

-- for how many more notes there is room, with so many in a vector of this capacity
abbrev pub room_of : ℕ → ℕ → ℕ
room_of many capacity = min capacity (2 ^ 56 - 1) - many

abbrev pub vault_of : List VaultNote → VaultBase → Option Objects → ℕ → ℕ → VaultView
vault_of notes base kept faults room = record { notes = notes; base = base; kept = kept; faults = faults; room = room }

-- a count went up by so many at least, or stands at its greatest number
abbrev pub HasRisen : ℕ → ℕ → ℕ → Type 0
HasRisen before many now = min (before + many) (2 ^ 64 - 1) ≤ now

-- what every vault keeps
pub record IsVault (vault : VaultView) : Type 0 where
  pub few : length vault.notes < 2 ^ 56
  -- as many failures as there are in the journal, the count of faults rose
  pub failures : HasRisen vault.base.start (total failures_in vault.notes) vault.faults
  pub tells : vault.base.told ≡ is_some vault.kept
  -- where the keeper tells its map, nothing in the journal was lost or damaged
  pub harms : vault.base.told ≡ true → total harms_in vault.notes ≡ 0
  pub met : vault.base.met ≤ length vault.notes
