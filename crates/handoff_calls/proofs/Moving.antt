-- A move in its turns: where it was begun, and where its load is noted.
use Rattle.std.proofs.Common.{◌≡◌, ℕ, List, [], ◌∷◌, All, ◌⊎◌, inl, inr, Some, Ok, Err, sym, ap, subst, true≢false}
use Rattle.std.specs.Prelude.{Result, IfOk, IfErr, is_some}
use Rattle.std.proofs.lemmas.List.Elements.{All-nil, All-cons, All-same}
use Rattle.row_types.specs.declared.allocation.Memory.{Memory as NoMemory}
use Rattle.turn_facts.specs.Notes.{IsOwn}
use Rattle.turn_facts.specs.Prefixes.{StartsWith}
use Rattle.journal_model.specs.declared.notes.Home.TheVariants.{Leader}
use Rattle.journal_model.specs.declared.notes.Kind.TheVariants.{Load}
use Rattle.journal_model.specs.declared.notes.Note.{Note}
use Rattle.journal_model.specs.declared.refusals.MoveError.{MoveError}
use Rattle.journal_model.specs.declared.refusals.MoveError.TheVariants as error
use Rattle.journal_model.specs.Notes.{note_of}
use Rattle.journal_model.specs.Layouts.{Channel, layout_of}
use Rattle.journal_model.specs.Refusals.{move_refusal}
use Rattle.shard_core.specs.Moves.{BegunMove, IsMoveOf}
use Rattle.shard_core.proofs.MovedLaws.{begun_later}
use Rattle.call_model.specs.Turns.{by_of, time_of}
use Rattle.handoff_calls.specs.Turns.{BeginsOr, LoadsOrNone}

module _ (channel : Channel) (segment : ℕ) (before : List Note) where
  -- the turn in which a move is begun
  pub begins_or : (result : Result BegunMove MoveError) → IfOk result (IsMoveOf channel before) → IfOk result (λ m. m.part.sealed.number ≡ segment) → IfOk result (λ m. m.home ≡ Leader)
      → IfErr result (λ why. (why ≡ error.Memory) ⊎ (move_refusal (layout_of channel before) segment Leader ≡ Some why)) → BeginsOr channel segment before result
  begins_or (Ok m) lent number home cause = record { lent = lent; segment_is = number; home = home }
  begins_or (Err why) lent number home cause = cause

-- whoever finds a longer journal finds one that the move was begun on
pub lent_later : (channel : Channel) (seen journal : List Note) (m : BegunMove) → StartsWith journal seen → IsMoveOf channel seen m → IsMoveOf channel journal m
lent_later channel seen journal m more h = subst (λ (l : List Note). IsMoveOf channel l m) (sym more.is) (begun_later channel seen more.rest m h)

-- a load is a note of its seat, and has no timestamp
load_own : (by line segment node n : ℕ) → by ≡ n → IsOwn by_of time_of n [] (note_of by line (Load segment node))
load_own by line segment node n named = record { by = named; at = λ t q. absurd (true≢false (sym (ap is_some q))) }

module _ (channel : Channel) (nodes by line segment n : ℕ) (named : by ≡ n) (before : List Note) where
  pub loads_own : (result : Result (Unit {0}) NoMemory) (notes : List Note) → LoadsOrNone channel nodes by line segment result before notes → All (IsOwn by_of time_of n []) notes
  loads_own (Ok done) notes (inl l) =
      All-same (IsOwn by_of time_of n []) notes (note_of by line (Load segment l.node) ∷ []) l.noted
      (All-cons (IsOwn by_of time_of n []) (note_of by line (Load segment l.node)) [] (load_own by line segment l.node n named) (All-nil (IsOwn by_of time_of n [])))
  loads_own (Ok done) notes (inr none) = All-same (IsOwn by_of time_of n []) notes [] none.none (All-nil (IsOwn by_of time_of n []))
  loads_own (Err error) notes none = All-same (IsOwn by_of time_of n []) notes [] none (All-nil (IsOwn by_of time_of n []))
