-- Whose the notes of a store are.
use Rattle.std.proofs.Common.{◌≡◌, ℕ, ◌==◌, inl, inr, Bool, true, false, cond, List, [], ◌∷◌, ◌++◌, All, Ok, Err, refl, ap, sym, ◌∙◌, subst, arith, ne_eqb, append-nil, true≢false}
use Rattle.std.specs.Prelude.{Result, ◌+◌, is_some}
use Rattle.std.proofs.lemmas.List.Elements.{All-nil, All-cons, All-head, All-tail, All-append, All-weaker}
use Rattle.row_types.specs.declared.allocation.Memory.{Memory as NoMemory}
use Rattle.turn_facts.specs.Counts.{total}
use Rattle.turn_facts.specs.Notes.{IsOwn}
use Rattle.vault.specs.declared.notes.KeeperCall.{KeeperCall}
use Rattle.vault.specs.declared.notes.KeeperCall.TheVariants.{Put, Get}
use Rattle.vault.specs.declared.notes.Outcome.{Outcome}
use Rattle.vault.specs.declared.notes.Outcome.TheVariants.{Done, Memory, Failed}
use Rattle.vault.specs.declared.notes.VaultNote.{VaultNote}
use Rattle.vault.specs.declared.storing.Stored.{Stored}
use Rattle.vault.specs.declared.storing.Stored.TheVariants as stored
use Rattle.vault.specs.Notes.{by_of, time_of, note_of, alike_notes, notes_up_to, faults_as}
use Rattle.vault.specs.Stores.{Stores}
use Rattle.vault.proofs.Sums.{total-nil, total-cons, total-append}
use Rattle.handoff_calls.specs.Facts.{faults_at, AreOfLine}

-- the note is of this seat and this line
pub record IsMade (by line : ℕ) (note : VaultNote) : Type 0 where
  pub own : IsOwn by_of time_of by [] note
  pub of_line : note.line ≡ line

module _ (by line : ℕ) where
  made_one : (call : KeeperCall) (object : ℕ) (outcome : Outcome) → IsMade by line (note_of by line call object outcome)
  made_one call object outcome = record { own = record { by = refl; at = λ t q. absurd (true≢false (sym (ap is_some q))) }; of_line = refl }

  made_alike : (call : KeeperCall) (outcome : Outcome) (objects : List ℕ) → All (IsMade by line) (alike_notes by line call outcome objects)
  made_alike call outcome [] = All-nil (IsMade by line)
  made_alike call outcome (x ∷ xs) = All-cons (IsMade by line) (note_of by line call x outcome) (alike_notes by line call outcome xs) (made_one call x outcome) (made_alike call outcome xs)

  made_up_to : (call : KeeperCall) (last : ℕ) (outcome : Outcome) (objects : List ℕ) → All (IsMade by line) (notes_up_to by line call last outcome objects)
  made_up_to call last outcome [] = All-nil (IsMade by line)
  made_up_to call last outcome (x ∷ xs) =
      elim (x == last) as (λ (b : Bool). All (IsMade by line) (cond b (note_of by line call x outcome ∷ []) (note_of by line call x Done ∷ notes_up_to by line call last outcome xs))) [
        | true ↦ All-cons (IsMade by line) (note_of by line call x outcome) [] (made_one call x outcome) (All-nil (IsMade by line))
        | false ↦ All-cons (IsMade by line) (note_of by line call x Done) (notes_up_to by line call last outcome xs) (made_one call x Done) (made_up_to call last outcome xs)
      ]

  made_both : (xs ys : List VaultNote) → All (IsMade by line) xs → All (IsMade by line) ys → All (IsMade by line) (xs ++ ys)
  made_both xs ys = All-append (IsMade by line) xs ys

  made_as : (xs ys : List VaultNote) → ys ≡ xs → All (IsMade by line) xs → All (IsMade by line) ys
  made_as xs ys e a = subst (All (IsMade by line)) (sym e) a

  -- all notes of a store are
  pub stores_made : (objects : List ℕ) (answer : Result Stored NoMemory) (notes : List VaultNote) → Stores by line objects answer notes → All (IsMade by line) notes
  stores_made objects (Ok (stored.Kept part)) notes h =
      made_as (alike_notes by line Put Done objects ++ alike_notes by line Get Done objects) notes h (made_both (alike_notes by line Put Done objects) (alike_notes by line Get Done objects) (made_alike Put Done objects) (made_alike Get Done objects))
  stores_made objects (Ok stored.Failed) notes h =
      elim h.noted as (λ _. All (IsMade by line) notes) [
        | inl e ↦ made_as (notes_up_to by line Put h.object Failed objects) notes e (made_up_to Put h.object Failed objects)
        | inr b ↦ made_as (alike_notes by line Put Done objects ++ notes_up_to by line Get h.object b.outcome objects) notes b.noted (made_both (alike_notes by line Put Done objects) (notes_up_to by line Get h.object b.outcome objects) (made_alike Put Done objects) (made_up_to Get h.object b.outcome objects))
      ]
  stores_made objects (Err error) notes (inl e) = made_as [] notes e (All-nil (IsMade by line))
  stores_made objects (Err error) notes (inr (inl e)) = made_as (alike_notes by line Put Memory objects) notes e (made_alike Put Memory objects)
  stores_made objects (Err error) notes (inr (inr e)) =
      made_as (alike_notes by line Put Done objects ++ alike_notes by line Get Memory objects) notes e (made_both (alike_notes by line Put Done objects) (alike_notes by line Get Memory objects) (made_alike Put Done objects) (made_alike Get Memory objects))

  pub made_own : (notes : List VaultNote) → All (IsMade by line) notes → All (IsOwn by_of time_of by []) notes
  made_own notes a = All-weaker (IsMade by line) (IsOwn by_of time_of by []) (λ x m. m.own) notes a

  pub made_of_line : (notes : List VaultNote) → All (IsMade by line) notes → AreOfLine line notes
  made_of_line [] a other differ = total-nil (faults_at other)
  made_of_line (x ∷ xs) a other differ =
      let one : IsMade by line x = All-head (IsMade by line) x xs a in
      let rest : total (faults_at other) xs ≡ 0 = made_of_line xs (All-tail (IsMade by line) x xs a) other differ in
      let none : faults_at other x ≡ 0 = ap (λ (b : Bool). cond b (faults_as x.outcome) 0) (ne_eqb x.line other (λ e. differ (sym one.of_line ∙ e))) in
      let all : total (faults_at other) (x ∷ xs) ≡ faults_at other x + total (faults_at other) xs = total-cons (faults_at other) x xs in omega arith

-- ---- lines

pub of_line_none : (line : ℕ) → AreOfLine line []
of_line_none line other differ = total-nil (faults_at other)

pub of_line_both : (line : ℕ) (xs ys : List VaultNote) → AreOfLine line xs → AreOfLine line ys → AreOfLine line (xs ++ ys)
of_line_both line xs ys a b other differ =
    let one : total (faults_at other) xs ≡ 0 = a other differ in
    let two : total (faults_at other) ys ≡ 0 = b other differ in
    let both : total (faults_at other) (xs ++ ys) ≡ total (faults_at other) xs + total (faults_at other) ys = total-append (faults_at other) xs ys in omega arith

-- of a store that answered so
pub stores_of_line : (by line : ℕ) (objects : List ℕ) (answer : Result Stored NoMemory) (notes : List VaultNote) → Stores by line objects answer notes → AreOfLine line (notes ++ [])
stores_of_line by line objects answer notes h = subst (AreOfLine line) (sym (append-nil notes)) (made_of_line by line notes (stores_made by line objects answer notes h))
