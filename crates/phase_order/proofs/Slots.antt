-- The journals of all slots, those that are not there among them.
use Rattle.std.proofs.Common.{◌≡◌, ℕ, zero, suc, ◌<◌, ◌≤◌, List, [], ◌∷◌, length, ⊎_elim, refl, sym, subst, arith}
use Rattle.std.proofs.lemmas.Bool.{cases_lt}
use Rattle.turn_table.specs.Knowledge.{at_slot}
use Rattle.coarse_lists.specs.declared.collections.Collection.{Collection}
use Rattle.journal_model.specs.declared.notes.Note.{Note}
use Rattle.journal_model.specs.Journals.{IsJournal}
use Rattle.phase_model.specs.Rests.{Rest, AreJournals}

-- a slot that is not there
pub slot_past : (journals : List (List Note)) (k : ℕ) → length journals ≤ k → at_slot journals k ≡ []
slot_past [] k h = refl
slot_past (x ∷ journals) zero h = absurd (omega arith)
slot_past (x ∷ journals) (suc k) h = slot_past journals k (omega arith)

-- each slot is a journal
pub all_journals : (collection : Collection) (rest : Rest) → AreJournals collection rest → (k : ℕ) → IsJournal (at_slot rest.journals k)
all_journals collection rest are k = ⊎_elim
    (λ (below : k < collection.channels). (are.each k below).kept.sound.journal)
    (λ (far : collection.channels ≤ k). subst IsJournal (sym (slot_past rest.journals k (let n : length rest.journals ≡ collection.channels = are.many in omega arith))) tt)
    (cases_lt k collection.channels)
