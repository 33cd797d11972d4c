-- A look writes nothing into the log.
use Rattle.std.proofs.Common.{◌≡◌, ℕ, Bool, List, [], ◌++◌, inl, inr, ap, ◌∙◌, append-nil}
use Rattle.log_model.specs.declared.logs.Entry.{Entry}
use Rattle.journal_model.specs.declared.notes.Note.{Note}
use Rattle.journal_model.specs.Notes.{log_of}
use Rattle.journal_model.proofs.NoteLaws.{log_of-append}
use Rattle.call_model.specs.Turns.{Looks}

pub look_log : (by line guarantee : ℕ) (wait : Bool) (before notes : List Note) (numbers : List ℕ) → Looks by line guarantee wait before notes numbers → log_of notes ≡ []
look_log by line guarantee wait before notes numbers (inl c) = ap log_of c.noted
look_log by line guarantee wait before notes numbers (inr c) = ap log_of c.noted

-- the log that a look left is the one that it found
pub left_log : (by line guarantee : ℕ) (wait : Bool) (before notes : List Note) (numbers : List ℕ) → Looks by line guarantee wait before notes numbers → log_of (before ++ notes) ≡ log_of before
left_log by line guarantee wait before notes numbers l =
    log_of-append before notes ∙ ap (λ (log : List Entry). log_of before ++ log) (look_log by line guarantee wait before notes numbers l) ∙ append-nil (log_of before)
