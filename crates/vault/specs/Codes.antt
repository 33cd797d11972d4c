-- The codes of what contracts see of a vault; only proofs need them.
use Rattle.std.specs.Prelude.{◌≡◌, ℕ, zero, suc, Bool, List, Option, None, refl}
use Rattle.std.specs.Coded.{Coded, code_by, coded×, coded_ℕ, coded_bool, coded_list, coded_option}
use Rattle.std.specs.FinMap as fin
use Rattle.manu_edge.specs.Objects.{Objects}
use Rattle.vault.specs.declared.notes.KeeperCall.{KeeperCall}
use Rattle.vault.specs.declared.notes.KeeperCall.TheVariants.{Put, Get}
use Rattle.vault.specs.declared.notes.Outcome.{Outcome}
use Rattle.vault.specs.declared.notes.Outcome.TheVariants.{Done, Memory, Failed, Lost, Damaged}
use Rattle.vault.specs.declared.notes.VaultNote.{VaultNote}
use Rattle.vault.specs.declared.bases.VaultBase.{VaultBase}
use Rattle.vault.specs.Vaults.{VaultView}

abbrev pub number_of : KeeperCall → ℕ
number_of Put = 0
number_of Get = 1

abbrev pub call_of : ℕ → KeeperCall
call_of zero = Put
call_of (suc n) = Get

pub call_back : (call : KeeperCall) → call_of (number_of call) ≡ call
call_back Put = refl
call_back Get = refl

abbrev pub call_code : Coded KeeperCall
call_code = code_by ℕ coded_ℕ number_of call_of call_back

-- a number for the kind of an outcome, and the values of a damage
abbrev pub parts_of : Outcome → ℕ × (ℕ × (Option ℕ × Option ℕ))
parts_of Done = (0, (0, (None, None)))
parts_of Memory = (1, (0, (None, None)))
parts_of Failed = (2, (0, (None, None)))
parts_of Lost = (3, (0, (None, None)))
parts_of (Damaged at want got) = (4, (at, (want, got)))

abbrev pub outcome_as : ℕ → ℕ → Option ℕ → Option ℕ → Outcome
outcome_as zero at want got = Done
outcome_as (suc zero) at want got = Memory
outcome_as (suc (suc zero)) at want got = Failed
outcome_as (suc (suc (suc zero))) at want got = Lost
outcome_as (suc (suc (suc (suc n)))) at want got = Damaged at want got

abbrev pub outcome_of : ℕ × (ℕ × (Option ℕ × Option ℕ)) → Outcome
outcome_of parts = outcome_as parts.0 parts.1.0 parts.1.1.0 parts.1.1.1

pub outcome_back : (outcome : Outcome) → outcome_of (parts_of outcome) ≡ outcome
outcome_back Done = refl
outcome_back Memory = refl
outcome_back Failed = refl
outcome_back Lost = refl
outcome_back (Damaged at want got) = refl

abbrev pub outcome_code : Coded Outcome
outcome_code =
    code_by (ℕ × (ℕ × (Option ℕ × Option ℕ))) (coded× coded_ℕ (coded× coded_ℕ (coded× (coded_option coded_ℕ) (coded_option coded_ℕ))))
    parts_of outcome_of outcome_back

abbrev pub note_code : Coded VaultNote
note_code =
    code_by (ℕ × (ℕ × (KeeperCall × (ℕ × Outcome)))) (coded× coded_ℕ (coded× coded_ℕ (coded× call_code (coded× coded_ℕ outcome_code))))
    (λ n. (n.by, (n.line, (n.call, (n.object, n.outcome)))))
    (λ p. record { by = p.0; line = p.1.0; call = p.1.1.0; object = p.1.1.1.0; outcome = p.1.1.1.1 }) (λ _. refl)

abbrev pub base_code : Coded VaultBase
base_code =
    code_by (ℕ × (Bool × ℕ)) (coded× coded_ℕ (coded× coded_bool coded_ℕ)) (λ b. (b.start, (b.told, b.met)))
    (λ p. record { start = p.0; told = p.1.0; met = p.1.1 }) (λ _. refl)

abbrev pub objects_code : Coded Objects
objects_code = fin.code coded_ℕ (coded_list coded_ℕ)

abbrev pub vault_code : Coded VaultView
vault_code =
    code_by (List VaultNote × (VaultBase × (Option Objects × (ℕ × ℕ))))
    (coded× (coded_list note_code) (coded× base_code (coded× (coded_option objects_code) (coded× coded_ℕ coded_ℕ))))
    (λ v. (v.notes, (v.base, (v.kept, (v.faults, v.room)))))
    (λ p. record { notes = p.0; base = p.1.0; kept = p.1.1.0; faults = p.1.1.1.0; room = p.1.1.1.1 }) (λ _. refl)
