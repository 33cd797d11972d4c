-- What happens to the tail of a channel, note by note.
use Rattle.std.specs.Prelude.{ℕ, List, [], ◌∷◌, ◌++◌, Option, Some, None}
use Rattle.log_model.specs.Places.{Placed}
use Rattle.legal_output.specs.Printed.{Event, Adds, Seals}
use Rattle.journal_model.specs.declared.notes.Kind.{Kind}
use Rattle.journal_model.specs.declared.notes.Kind.TheVariants.{Put, Remove, Seal}
use Rattle.journal_model.specs.declared.notes.Note.{Note}
use Rattle.journal_model.specs.Puts.{effective_put}

abbrev pub rows_in : Option Placed → ℕ
rows_in None = 0
rows_in (Some x) = 1

-- a put adds its row, where it is effective; a remove adds none; a seal ends the tail
abbrev pub events_at : List Note → Kind → List Event
events_at before (Put ts how row) = record { ts = ts.0; deed = Adds (rows_in (effective_put before ts.0 how row)) } ∷ []
events_at before (Remove ts key) = record { ts = ts.0; deed = Adds 0 } ∷ []
events_at before (Seal ts) = record { ts = ts.0; deed = Seals } ∷ []
events_at before kind = []

-- the events of notes that stand behind others
abbrev pub events_from : List Note → List Note → List Event
events_from before [] = []
events_from before (note ∷ notes) = events_at before note.kind ++ events_from (before ++ note ∷ []) notes

abbrev pub events_in : List Note → List Event
events_in notes = events_from [] notes
