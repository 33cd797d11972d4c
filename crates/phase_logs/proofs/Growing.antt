-- The events of journals that go on.
use Rattle.std.proofs.Common.{◌≡◌, ℕ, Some, List, [], ◌∷◌, ◌++◌, refl, sym, ap, ◌∙◌, append_assoc, append-nil}
use Rattle.std.specs.List.{AllByRecursion as Each}
use Rattle.log_model.proofs.LogLaws.{each-append}
use Rattle.legal_output.specs.Printed.{Event, Tail, after_deed, after_events}
use Rattle.journal_model.specs.declared.notes.Kind.{Kind}
use Rattle.journal_model.specs.declared.notes.Kind.TheVariants.{Put, Remove, Seal}
use Rattle.journal_model.specs.declared.notes.Note.{Note}
use Rattle.journal_model.specs.Notes.{ts_of}
use Rattle.phase_logs.specs.Events.{events_at, events_from}

pub events_from-append : (before xs ys : List Note) → events_from before (xs ++ ys) ≡ events_from before xs ++ events_from (before ++ xs) ys
events_from-append before [] ys = ap (λ (l : List Note). events_from l ys) (sym (append-nil before))
events_from-append before (x ∷ xs) ys =
    ap (λ (l : List Event). events_at before x.kind ++ l)
    (events_from-append (before ++ x ∷ []) xs ys ∙ ap (λ (l : List Note). events_from (before ++ x ∷ []) xs ++ events_from l ys) (append_assoc before (x ∷ []) xs))
    ∙ sym (append_assoc (events_at before x.kind) (events_from (before ++ x ∷ []) xs) (events_from (before ++ x ∷ xs) ys))

pub after_events-append : (seal_rows : ℕ) (tail : Tail) (xs ys : List Event) → after_events seal_rows tail (xs ++ ys) ≡ after_events seal_rows (after_events seal_rows tail xs) ys
after_events-append seal_rows tail [] ys = refl
after_events-append seal_rows tail (x ∷ xs) ys = after_events-append seal_rows (after_deed seal_rows tail x.deed) xs ys

-- ---- their timestamps

pub events_dated : (P : ℕ → Type 0) (before : List Note) (kind : Kind) → ((t : ℕ) → ts_of kind ≡ Some t → P t) → Each (λ e. P e.ts) (events_at before kind)
events_dated P before (Put ts how row) f = (f ts.0 refl, tt)
events_dated P before (Remove ts key) f = (f ts.0 refl, tt)
events_dated P before (Seal ts) f = (f ts.0 refl, tt)
events_dated P before kind f = tt

pub events_all : (P : ℕ → Type 0) (before notes : List Note) → Each (λ note. (t : ℕ) → ts_of note.kind ≡ Some t → P t) notes → Each (λ e. P e.ts) (events_from before notes)
events_all P before [] all = tt
events_all P before (note ∷ notes) all =
    each-append (λ e. P e.ts) (events_at before note.kind) (events_from (before ++ note ∷ []) notes) (events_dated P before note.kind all.0) (events_all P (before ++ note ∷ []) notes all.1)
