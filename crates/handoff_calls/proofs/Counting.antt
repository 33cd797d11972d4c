-- What a handoff left is what failed.
use Rattle.std.proofs.Common.{◌≡◌, ℕ, ◌+◌, List, [], ◌∷◌, ◌++◌, Ok, refl, ap, sym, ◌∙◌, arith, append_assoc, append-nil}
use Rattle.turn_facts.specs.Counts.{total}
use Rattle.journal_model.specs.Layouts.{Channel}
use Rattle.journal_model.specs.declared.notes.Note.{Note}
use Rattle.shard_core.specs.Counting.{waiting_numbers}
use Rattle.seat_walks.specs.Walks.{Turned}
use Rattle.vault.specs.declared.notes.VaultNote.{VaultNote}
use Rattle.vault.specs.declared.storing.Stored.TheVariants as stored
use Rattle.vault.specs.Names.{names_of}
use Rattle.vault.specs.Notes.{faults_in}
use Rattle.vault.proofs.Sums.{total-nil, total-cons, total-append, faults_stored}
use Rattle.handoff_calls.specs.Handoffs.{Hand, Gone, Left, Moved, vault_in, left_in, all_vault, notes_of, IsHand, AreHands, IsHandoff}

pub notes-append : {N : Type 0} (ts us : List (Turned N)) → notes_of (ts ++ us) ≡ notes_of ts ++ notes_of us
notes-append [] us = refl
notes-append (t ∷ ts) us = ap (λ l. t.notes ++ l) (notes-append ts us) ∙ sym (append_assoc t.notes (notes_of ts) (notes_of us))

module _ (channel : Channel) (nodes by keeps line : ℕ) where
  hand_faults : (segment : ℕ) (hand : Hand) → IsHand channel nodes by keeps line segment hand → left_in hand ≡ total faults_in (notes_of (vault_in hand))
  hand_faults segment (Gone begun) is = sym (total-nil faults_in)
  hand_faults segment (Left begun moving store) is = sym (ap (total faults_in) (append-nil store.notes) ∙ faults_stored keeps line (names_of moving.part) (Ok stored.Failed) store.notes is.1.left)
  hand_faults segment (Moved begun moving store loaded) is =
      sym (ap (total faults_in) (append-nil store.notes) ∙ faults_stored keeps line (names_of moving.part) (Ok (stored.Kept moving.part)) store.notes is.1.kept)

  all_faults : (segments : List ℕ) (hands : List Hand) → AreHands channel nodes by keeps line segments hands → total left_in hands ≡ total faults_in (notes_of (all_vault hands))
  all_faults [] [] are = total-nil left_in ∙ sym (total-nil faults_in)
  all_faults [] (hand ∷ hands) are = absurd are
  all_faults (segment ∷ segments) [] are = absurd are
  all_faults (segment ∷ segments) (hand ∷ hands) are =
      let rest : total left_in hands ≡ total faults_in (notes_of (all_vault hands)) = all_faults segments hands are.1 in
      let one : left_in hand ≡ total faults_in (notes_of (vault_in hand)) = hand_faults segment hand are.0 in
      let left : total left_in (hand ∷ hands) ≡ left_in hand + total left_in hands = total-cons left_in hand hands in
      let both : total faults_in (notes_of (vault_in hand ++ all_vault hands)) ≡ total faults_in (notes_of (vault_in hand)) + total faults_in (notes_of (all_vault hands)) =
      ap (total faults_in) (notes-append (vault_in hand) (all_vault hands)) ∙ total-append faults_in (notes_of (vault_in hand)) (notes_of (all_vault hands)) in omega arith

  pub left_is_faults : (left : ℕ) (turns : List (Turned Note)) (stores : List (Turned VaultNote)) → IsHandoff channel nodes by keeps line left turns stores → left ≡ total faults_in (notes_of stores)
  left_is_faults left turns stores is =
      is.left_is ∙ all_faults (waiting_numbers channel is.look.before) is.hands is.each ∙ ap (λ (l : List (Turned VaultNote)). total faults_in (notes_of l)) (sym is.vault)
