-- Sums over the notes of a store.
use Rattle.std.proofs.Common.{◌≡◌, ℕ, ◌+◌, ◌<◌, ◌≤◌, ◌⊎◌, inl, inr, Bool, cond, List, [], ◌∷◌, ◌++◌, length, take, get_or, Ok, Err, refl, ap, ◌∙◌, arith, eq-eqb, ne_eqb}
use Rattle.std.specs.Prelude.{Result}
use Rattle.std.proofs.lemmas.List.{take_more}
use Rattle.row_types.specs.declared.allocation.Memory.{Memory as NoMemory}
use Rattle.turn_facts.specs.Counts.{count, Among, total}
use Rattle.turn_facts.proofs.Counts.{count-nil, count-else}
use Rattle.turn_facts.proofs.Places.{same_or}
use Rattle.turn_facts.proofs.Totals.{total_more}
use Rattle.vault.specs.declared.notes.KeeperCall.{KeeperCall}
use Rattle.vault.specs.declared.notes.KeeperCall.TheVariants.{Put, Get}
use Rattle.vault.specs.declared.notes.Outcome.{Outcome}
use Rattle.vault.specs.declared.notes.Outcome.TheVariants.{Done, Memory, Failed, Lost, Damaged}
use Rattle.vault.specs.declared.notes.VaultNote.{VaultNote}
use Rattle.vault.specs.declared.storing.Stored.{Stored}
use Rattle.vault.specs.declared.storing.Stored.TheVariants as stored
use Rattle.vault.specs.Notes.{note_of, alike_notes, notes_up_to, faults_in, faults_as}
use Rattle.data_index_node.specs.declared.refusals.FlushError.{FlushError}
use Rattle.data_index_node.specs.declared.refusals.FlushError.TheVariants.{KeepFault, Memory as NoRoom}
use Rattle.vault.specs.Under.{put_notes, NamesPut}
use Rattle.vault.specs.Stores.{Stores, faults_of}

module _ {C : Type 0} (f : C → ℕ) where
  pub total-nil : total f [] ≡ 0
  unfolding total
  total-nil = refl

  pub total-cons : (x : C) (xs : List C) → total f (x ∷ xs) ≡ f x + total f xs
  unfolding total
  total-cons x xs = refl

  pub total-append : (xs ys : List C) → total f (xs ++ ys) ≡ total f xs + total f ys
  unfolding total
  total-append [] ys = omega arith
  total-append (x ∷ xs) ys = let r : total f (xs ++ ys) ≡ total f xs + total f ys = total-append xs ys in omega arith

-- a measure of notes that is one of their outcomes, and 0 of a call that was done
module _ (f : VaultNote → ℕ) (g : Outcome → ℕ) (is : (note : VaultNote) → f note ≡ g note.outcome) (done : g Done ≡ 0) where
  pub alike_none : (by line : ℕ) (call : KeeperCall) (outcome : Outcome) (objects : List ℕ) → g outcome ≡ 0 → total f (alike_notes by line call outcome objects) ≡ 0
  alike_none by line call outcome [] zero = total-nil f
  alike_none by line call outcome (x ∷ xs) zero =
      let r : total f (alike_notes by line call outcome xs) ≡ 0 = alike_none by line call outcome xs zero in
      let c : total f (alike_notes by line call outcome (x ∷ xs)) ≡ f (note_of by line call x outcome) + total f (alike_notes by line call outcome xs) = total-cons f (note_of by line call x outcome) (alike_notes by line call outcome xs) in
      let o : f (note_of by line call x outcome) ≡ g outcome = is (note_of by line call x outcome) in omega arith

  one_note : (by line : ℕ) (call : KeeperCall) (outcome : Outcome) (x : ℕ) → total f (note_of by line call x outcome ∷ []) ≡ g outcome
  one_note by line call outcome x =
      let c : total f (note_of by line call x outcome ∷ []) ≡ f (note_of by line call x outcome) + total f [] = total-cons f (note_of by line call x outcome) [] in
      let n : total f [] ≡ 0 = total-nil f in
      let o : f (note_of by line call x outcome) ≡ g outcome = is (note_of by line call x outcome) in omega arith

  done_first : (by line : ℕ) (call : KeeperCall) (x : ℕ) (notes : List VaultNote) → total f (note_of by line call x Done ∷ notes) ≡ total f notes
  done_first by line call x notes =
      let c : total f (note_of by line call x Done ∷ notes) ≡ f (note_of by line call x Done) + total f notes = total-cons f (note_of by line call x Done) notes in
      let o : f (note_of by line call x Done) ≡ g Done = is (note_of by line call x Done) in omega arith

  step_up : (by line : ℕ) (call : KeeperCall) (last : ℕ) (outcome : Outcome) (x : ℕ) (xs : List ℕ) → (x ≡ last) ⊎ (x ≡ last → ⊥)
      → ((x ≡ last) × (total f (notes_up_to by line call last outcome (x ∷ xs)) ≡ g outcome)) ⊎ ((x ≡ last → ⊥) × (total f (notes_up_to by line call last outcome (x ∷ xs)) ≡ total f (notes_up_to by line call last outcome xs)))
  step_up by line call last outcome x xs (inl e) =
      inl (e, ap (λ (b : Bool). total f (cond b (note_of by line call x outcome ∷ []) (note_of by line call x Done ∷ notes_up_to by line call last outcome xs))) (eq-eqb x last e) ∙ one_note by line call outcome x)
  step_up by line call last outcome x xs (inr n) =
      inr (n, ap (λ (b : Bool). total f (cond b (note_of by line call x outcome ∷ []) (note_of by line call x Done ∷ notes_up_to by line call last outcome xs))) (ne_eqb x last n) ∙ done_first by line call x (notes_up_to by line call last outcome xs))

  -- the last call's, at most
  most_step : (by line : ℕ) (call : KeeperCall) (last : ℕ) (outcome : Outcome) (x : ℕ) (xs : List ℕ) → total f (notes_up_to by line call last outcome xs) ≤ g outcome
      → ((x ≡ last) × (total f (notes_up_to by line call last outcome (x ∷ xs)) ≡ g outcome)) ⊎ ((x ≡ last → ⊥) × (total f (notes_up_to by line call last outcome (x ∷ xs)) ≡ total f (notes_up_to by line call last outcome xs)))
      → total f (notes_up_to by line call last outcome (x ∷ xs)) ≤ g outcome
  most_step by line call last outcome x xs r (inl h) = let e : total f (notes_up_to by line call last outcome (x ∷ xs)) ≡ g outcome = h.1 in omega arith
  most_step by line call last outcome x xs r (inr h) = let e : total f (notes_up_to by line call last outcome (x ∷ xs)) ≡ total f (notes_up_to by line call last outcome xs) = h.1 in omega arith

  pub up_to_most : (by line : ℕ) (call : KeeperCall) (last : ℕ) (outcome : Outcome) (objects : List ℕ) → total f (notes_up_to by line call last outcome objects) ≤ g outcome
  up_to_most by line call last outcome [] = let n : total f [] ≡ 0 = total-nil f in omega arith
  up_to_most by line call last outcome (x ∷ xs) = most_step by line call last outcome x xs (up_to_most by line call last outcome xs) (step_up by line call last outcome x xs (same_or x last))

  -- and just that, where it was made
  among_step : (by line : ℕ) (call : KeeperCall) (last : ℕ) (outcome : Outcome) (x : ℕ) (xs : List ℕ) → Among last (x ∷ xs) → (Among last xs → total f (notes_up_to by line call last outcome xs) ≡ g outcome)
      → ((x ≡ last) × (total f (notes_up_to by line call last outcome (x ∷ xs)) ≡ g outcome)) ⊎ ((x ≡ last → ⊥) × (total f (notes_up_to by line call last outcome (x ∷ xs)) ≡ total f (notes_up_to by line call last outcome xs)))
      → total f (notes_up_to by line call last outcome (x ∷ xs)) ≡ g outcome
  among_step by line call last outcome x xs a r (inl h) = h.1
  among_step by line call last outcome x xs a r (inr h) =
      let c : count last (x ∷ xs) ≡ count last xs = count-else last x xs h.0 in h.1 ∙ r (omega arith)

  pub up_to_is : (by line : ℕ) (call : KeeperCall) (last : ℕ) (outcome : Outcome) (objects : List ℕ) → Among last objects → total f (notes_up_to by line call last outcome objects) ≡ g outcome
  up_to_is by line call last outcome [] a = let n : count last [] ≡ 0 = count-nil last in absurd (omega arith)
  up_to_is by line call last outcome (x ∷ xs) a = among_step by line call last outcome x xs a (up_to_is by line call last outcome xs) (step_up by line call last outcome x xs (same_or x last))

-- ---- a store

module _ (by line : ℕ) where
  alike_sound : (call : KeeperCall) (outcome : Outcome) (objects : List ℕ) → faults_as outcome ≡ 0 → total faults_in (alike_notes by line call outcome objects) ≡ 0
  alike_sound call outcome objects zero = alike_none faults_in faults_as (λ note. refl) refl by line call outcome objects zero

  two_sound : (first second : Outcome) (objects : List ℕ) → faults_as first ≡ 0 → faults_as second ≡ 0 → total faults_in (alike_notes by line Put first objects ++ alike_notes by line Get second objects) ≡ 0
  two_sound first second objects p q =
      let a : total faults_in (alike_notes by line Put first objects ++ alike_notes by line Get second objects) ≡ total faults_in (alike_notes by line Put first objects) + total faults_in (alike_notes by line Get second objects) = total-append faults_in (alike_notes by line Put first objects) (alike_notes by line Get second objects) in
      let b : total faults_in (alike_notes by line Put first objects) ≡ 0 = alike_sound Put first objects p in
      let c : total faults_in (alike_notes by line Get second objects) ≡ 0 = alike_sound Get second objects q in omega arith

  up_to_bad : (call : KeeperCall) (last : ℕ) (outcome : Outcome) (objects : List ℕ) → Among last objects → faults_as outcome ≡ 1 → total faults_in (notes_up_to by line call last outcome objects) ≡ 1
  up_to_bad call last outcome objects a bad = up_to_is faults_in faults_as (λ note. refl) refl by line call last outcome objects a ∙ bad

  then_bad : (last : ℕ) (outcome : Outcome) (objects : List ℕ) → Among last objects → faults_as outcome ≡ 1 → total faults_in (alike_notes by line Put Done objects ++ notes_up_to by line Get last outcome objects) ≡ 1
  then_bad last outcome objects a bad =
      let s : total faults_in (alike_notes by line Put Done objects ++ notes_up_to by line Get last outcome objects) ≡ total faults_in (alike_notes by line Put Done objects) + total faults_in (notes_up_to by line Get last outcome objects) = total-append faults_in (alike_notes by line Put Done objects) (notes_up_to by line Get last outcome objects) in
      let b : total faults_in (alike_notes by line Put Done objects) ≡ 0 = alike_sound Put Done objects refl in
      let c : total faults_in (notes_up_to by line Get last outcome objects) ≡ 1 = up_to_bad Get last outcome objects a bad in omega arith

  -- the failures, losses and damages of a store are as many as its answer says
  pub faults_stored : (objects : List ℕ) (answer : Result Stored NoMemory) (notes : List VaultNote) → Stores by line objects answer notes → total faults_in notes ≡ faults_of answer
  faults_stored objects (Ok (stored.Kept part)) notes h = ap (total faults_in) h ∙ two_sound Done Done objects refl refl
  faults_stored objects (Ok stored.Failed) notes h =
      elim h.noted as (λ _. total faults_in notes ≡ 1) [ inl e ↦ ap (total faults_in) e ∙ up_to_bad Put h.object Failed objects h.among refl | inr b ↦ ap (total faults_in) b.noted ∙ then_bad h.object b.outcome objects h.among b.bad ]
  faults_stored objects (Err error) notes (inl e) = ap (total faults_in) e ∙ total-nil faults_in
  faults_stored objects (Err error) notes (inr (inl e)) = ap (total faults_in) e ∙ alike_sound Put Memory objects refl
  faults_stored objects (Err error) notes (inr (inr e)) = ap (total faults_in) e ∙ two_sound Done Memory objects refl refl

  pub faults_more : (objects : List ℕ) (answer : Result Stored NoMemory) (old new notes : List VaultNote) → new ≡ old ++ notes → Stores by line objects answer notes
      → total faults_in new ≡ total faults_in old + faults_of answer
  faults_more objects answer old new notes e h =
      let a : total faults_in new ≡ total faults_in old + total faults_in notes = ap (total faults_in) e ∙ total-append faults_in old notes in
      let b : total faults_in notes ≡ faults_of answer = faults_stored objects answer notes h in omega arith

-- ---- one after another

one_fault : (outcome : Outcome) → faults_as outcome ≤ 1
one_fault Done = omega arith
one_fault Memory = omega arith
one_fault Failed = omega arith
one_fault Lost = omega arith
one_fault (Damaged at want got) = omega arith

pub faults_step : (notes : List VaultNote) (k : ℕ) (d : VaultNote) (failed later : ℕ) → k < length notes → failed ≡ total faults_in (take k notes) → later ≡ failed + faults_as (get_or notes k d).outcome → later ≡ total faults_in (take (k + 1) notes)
faults_step notes k d failed later lt old new =
    let more : total faults_in (take (k + 1) notes) ≡ total faults_in (take k notes) + faults_in (get_or notes k d) = ap (total faults_in) (take_more notes k d lt) ∙ total_more faults_in (take k notes) (get_or notes k d) in omega arith

pub faults_few : (notes : List VaultNote) (k : ℕ) (d : VaultNote) (failed later : ℕ) → failed ≤ k → later ≡ failed + faults_as (get_or notes k d).outcome → later ≤ k + 1
faults_few notes k d failed later few new = let one : faults_as (get_or notes k d).outcome ≤ 1 = one_fault (get_or notes k d).outcome in omega arith

-- ---- puts that ended a store

pub put_failed : (by line : ℕ) (objects : List ℕ) (error : FlushError) (object : ℕ) (old new : List VaultNote) → error ≡ KeepFault object → NamesPut objects (Err error) → new ≡ old ++ put_notes by line objects (Err error)
    → total faults_in new ≡ total faults_in old + 1
put_failed by line objects (KeepFault name) object old new e named is =
    faults_more by line objects (Ok stored.Failed) old new (notes_up_to by line Put name Failed objects) is record { object = name; among = named; noted = inl refl }
put_failed by line objects NoRoom object old new e named is = let no : ⊥ = cc in absurd no

pub put_wanted : (by line : ℕ) (objects : List ℕ) (error : FlushError) (old new : List VaultNote) → error ≡ NoRoom → new ≡ old ++ put_notes by line objects (Err error) → total faults_in new ≡ total faults_in old + 0
put_wanted by line objects (KeepFault name) old new e is = let no : ⊥ = cc in absurd no
put_wanted by line objects NoRoom old new e is =
    let a : total faults_in new ≡ total faults_in old + total faults_in (alike_notes by line Put Memory objects) = ap (total faults_in) is ∙ total-append faults_in old (alike_notes by line Put Memory objects) in
    let b : total faults_in (alike_notes by line Put Memory objects) ≡ 0 = alike_none faults_in faults_as (λ note. refl) refl by line Put Memory objects refl in omega arith
