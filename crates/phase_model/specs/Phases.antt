-- What callers who run beside each other owe.
use Rattle.std.specs.Prelude.{◌≡◌, ◌⊎◌, ℕ, List, [], length, Option, Some, None}
use Rattle.std.specs.List.{AllByRecursion as Each}
use Rattle.coarse_lists.specs.declared.collections.Collection.{Collection}
use Rattle.answer_lines.specs.declared.answers.Answer.{Answer}
use Rattle.answer_lines.specs.declared.answers.Answer.TheVariants as answers
use Rattle.legal_output.specs.Lines.{Asked, Bad, Line, caller_of}
use Rattle.legal_output.specs.Printed.{lines_of, write_behind}
use Rattle.journal_model.specs.declared.notes.Kind.{Kind}
use Rattle.journal_model.specs.declared.notes.Kind.TheVariants.{Put, Remove, Seal}
use Rattle.journal_model.specs.declared.notes.Note.{Note}
use Rattle.journal_model.specs.Lists.{IsIn}
use Rattle.turn_facts.specs.Prefixes.{IsAt}
use Rattle.turn_table.specs.Seats.{SeatView}
use Rattle.seat_walks.specs.Walks.{Step, all_notes}
use Rattle.seat_walks.specs.Closes.{Closed}
use Rattle.call_model.specs.Turns.{by_of, time_of}
use Rattle.call_model.specs.Walks.{Did, Ran}
use Rattle.phase_model.specs.Rests.{Rest, AreKept}

-- a note that neither changes a row nor ends a tail
abbrev pub IsQuiet : Kind → Type 0
IsQuiet (Put ts how row) = ⊥
IsQuiet (Remove ts key) = ⊥
IsQuiet (Seal ts) = ⊥
IsQuiet kind = Unit {0}

-- a note of the background: it is quiet, and of no line
pub record IsBackground (note : Note) : Type 0 where
  pub quiet : IsQuiet note.kind
  pub line : note.line ≡ 0

-- a line that is refused is answered so, and nothing is done for it
abbrev pub IsRefused : Asked → Answer → Type 0
IsRefused (Bad reason) answer = answer ≡ answers.Refused reason
IsRefused asked answer = ⊥

-- a caller that has a seat, among `whose`
abbrev pub HasSeat : List (Option ℕ) → Option ℕ → Type 0
HasSeat whose None = ⊥
HasSeat whose (Some caller) = IsIn (Some caller) whose

abbrev pub IsLineOf : List (Option ℕ) → Line → Type 0
IsLineOf whose line = IsRefused line.asked line.answer ⊎ HasSeat whose (caller_of line.asked)

module _ {B : Type 0} where
  -- a seat that works in the background
  pub record Minds (a p : SeatView Note B) : Type 0 where
    pub steps : List (Step Note)
    pub did : Did a steps p
    pub background : (k : ℕ) → Each IsBackground (all_notes k steps)

  -- what a seat did that began as a and ended as p: its caller's lines, or work in the background
  abbrev pub Worked : Collection → ℕ → (ℕ → ℕ) → List Line → Option ℕ → SeatView Note B → SeatView Note B → Type 0
  Worked collection least mine block None a p = Minds a p
  Worked collection least mine block (Some caller) a p = Ran collection least (mine caller) a (lines_of (Some caller) block) [] p

-- a phase from `old` to `new`, whose lines in the order of their numbers are `block`: each seat did its work, the table
-- of turns ended as it does, and no number that was drawn is below `least`
pub record IsPhase (B : Type 0) (collection : Collection) (least : ℕ) (old new : Rest) (block : List Line) : Type 0 where
  -- the caller of each seat, if it is a caller's, and the seats at the beginning and at the end
  pub whose : List (Option ℕ)
  pub starts : List (SeatView Note B)
  pub ends : List (SeatView Note B)
  pub closed : Closed by_of time_of old.clock new.clock old.journals new.journals starts ends
  pub seats : (length whose ≡ length ends) × (length starts ≡ length ends)
  pub worked : (i : ℕ) (who : Option ℕ) (a p : SeatView Note B) → IsAt whose i who → IsAt starts i a → IsAt ends i p
      → Worked collection least old.mine block who a p
  pub lines : Each (IsLineOf whose) block
  -- what the caller's last write was, and what stays
  pub mine : (caller : ℕ) → new.mine caller ≡ write_behind (old.mine caller) (lines_of (Some caller) block)
  pub met : new.met ≡ old.met
  pub floor : new.floor ≡ old.floor
  -- what the type of a shard keeps
  pub kept : AreKept collection new
