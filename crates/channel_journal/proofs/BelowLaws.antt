-- Timestamps that stay below a clock, as notes are appended.
use Rattle.std.proofs.Common.{◌≡◌, ℕ, ◌+◌, ◌<◌, true, List, [], ◌∷◌, ◌++◌, Option, Some, None, refl, arith, ltb-true, lt-ltb}
use Rattle.journal_model.specs.declared.notes.Note.{Note}
use Rattle.journal_model.specs.Notes.{ts_of}
use Rattle.journal_model.specs.Journals.{is_below, UpTo, AreBelow}
use Rattle.channel_journal.proofs.ListLaws.{all_append}

is_below_next : (ts : ℕ) (o : Option ℕ) → is_below o (Some ts) ≡ true → is_below o (Some (ts + 1)) ≡ true
is_below_next ts None h = refl
is_below_next ts (Some s) h = let lt : s < ts = ltb-true s ts h in lt-ltb s (ts + 1) (omega arith)

up_to_below : (ts : ℕ) (o : Option ℕ) → UpTo ts o → is_below o (Some (ts + 1)) ≡ true
up_to_below ts None h = refl
up_to_below ts (Some s) h = lt-ltb s (ts + 1) (omega arith)

pub below_later : (ts : ℕ) (notes : List Note) → AreBelow ts notes → AreBelow (ts + 1) notes
below_later ts [] a = tt
below_later ts (n ∷ notes) a = (is_below_next ts (ts_of n.kind) a.0, below_later ts notes a.1)

-- a note at a clock's timestamp, or without one, stays below the clock's next
pub below_next : (ts : ℕ) (notes : List Note) (note : Note) → UpTo ts (ts_of note.kind) → AreBelow ts notes → AreBelow (ts + 1) (notes ++ note ∷ [])
below_next ts notes note up a = all_append (λ n. is_below (ts_of n.kind) (Some (ts + 1)) ≡ true) notes (note ∷ []) (below_later ts notes a) (up_to_below ts (ts_of note.kind) up, tt)
