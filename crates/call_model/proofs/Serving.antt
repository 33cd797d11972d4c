-- One line more of a caller.
use Rattle.std.proofs.Common.{ℕ, List, [], ◌∷◌, ◌++◌, refl, subst}
use Rattle.coarse_lists.specs.declared.collections.Collection.{Collection}
use Rattle.legal_output.specs.Lines.{Line, written_of}
use Rattle.legal_output.specs.Printed.{write_or, write_behind}
use Rattle.journal_model.specs.declared.notes.Note.{Note}
use Rattle.turn_table.specs.Seats.{SeatView}
use Rattle.call_model.specs.Walks.{Serves, IsServed}

-- where the lines so far are served and the caller's last write is at `write_behind mine lines`, one more is served
pub served_more : {B : Type 0} (collection : Collection) (least mine : ℕ) (s m e : SeatView Note B) (lines : List Line) (line : Line) → IsServed collection least mine s lines m
    → Serves collection least (write_behind mine lines) m line e → IsServed collection least mine s (lines ++ line ∷ []) e
served_more {B = B} collection least mine s m e [] line served next = (e, subst (λ (u : SeatView Note B). Serves collection least mine u line e) served next, refl)
served_more {B = B} collection least mine s m e (first ∷ lines) line served next =
    (served.0, served.1, served_more {B = B} collection least (write_or mine (written_of first.answer)) served.0 m e lines line served.2 next)
