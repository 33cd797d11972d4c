-- Puts and deaths in a journal with more notes.
use Rattle.std.proofs.Common.{◌≡◌, ℕ, ℤ, zero, suc, ◌+◌, ◌<◌, ◌≤◌, List, [], ◌∷◌, ◌++◌, length, take, drop, Option, Some, None, refl, ap, ◌∙◌, arith}
use Rattle.std.specs.Prelude.{slice_get}
use Rattle.std.specs.Option.{option_and_then, option_or}
use Rattle.std.proofs.lemmas.List.{take-append-le, drop-append-le, drop_all, take_all, length_push}
use Rattle.std.proofs.lemmas.Option.{slice_get_past, slice_get_within}
use Rattle.journal_model.specs.declared.notes.Note.{Note}
use Rattle.log_model.specs.Places.{Placed}
use Rattle.journal_model.specs.Puts.{effective, put_at, ended, first_end, dead_at}

module _ {X : Type 0} where
  pub slice_get-append : (xs ys : List X) (i : ℕ) → i < length xs → slice_get (xs ++ ys) i ≡ slice_get xs i
  slice_get-append [] ys i h = absurd (omega arith)
  slice_get-append (x ∷ xs) ys zero h = refl
  slice_get-append (x ∷ xs) ys (suc i) h = slice_get-append xs ys i (omega arith)

  pub slice_get-new : (xs : List X) (x : X) → slice_get (xs ++ x ∷ []) (length xs) ≡ Some x
  slice_get-new [] x = refl
  slice_get-new (y ∷ ys) x = slice_get-new ys x

pub put_at-append : (xs ys : List Note) (p : ℕ) → p < length xs → put_at (xs ++ ys) p ≡ put_at xs p
put_at-append xs ys p h =
    ap (λ o. option_and_then (λ note. effective (take p (xs ++ ys)) note.kind) o) (slice_get-append xs ys p h)
    ∙ ap (λ before. option_and_then (λ note. effective before note.kind) (slice_get xs p)) (take-append-le p xs ys (omega arith))

pub put_at-new : (xs : List Note) (note : Note) → put_at (xs ++ note ∷ []) (length xs) ≡ effective xs note.kind
put_at-new xs note =
    ap (λ o. option_and_then (λ n. effective (take (length xs) (xs ++ note ∷ [])) n.kind) o) (slice_get-new xs note)
    ∙ ap (λ before. effective before note.kind) (take-append-le (length xs) xs (note ∷ []) (omega arith) ∙ take_all (length xs) xs (omega arith))

pub put_at_past : (notes : List Note) (p : ℕ) → length notes ≤ p → put_at notes p ≡ None
put_at_past notes p h = ap (λ o. option_and_then (λ note. effective (take p notes) note.kind) o) (slice_get_past notes p h)

pub first_end-append : (key : ℤ) (xs ys : List Note) → first_end key (xs ++ ys) ≡ option_or (first_end key xs) (first_end key ys)
first_end-append key [] ys = refl
first_end-append key (x ∷ xs) ys = elim (ended key x.kind) as (λ o. option_or o (first_end key (xs ++ ys)) ≡ option_or (option_or o (first_end key xs)) (first_end key ys)) [
  | None ↦ first_end-append key xs ys
  | Some ts ↦ refl
]

pub dead_at-append : (xs ys : List Note) (p : ℕ) (key : ℤ) → p < length xs → dead_at (xs ++ ys) p key ≡ option_or (dead_at xs p key) (first_end key ys)
dead_at-append xs ys p key h = ap (first_end key) (drop-append-le (p + 1) xs ys (omega arith)) ∙ first_end-append key (drop (p + 1) xs) ys

pub dead_at-new : (xs : List Note) (note : Note) (key : ℤ) → dead_at (xs ++ note ∷ []) (length xs) key ≡ None
dead_at-new xs note key = ap (first_end key) (drop_all (length xs + 1) (xs ++ note ∷ []) (omega (arith, length_push xs note)))

pub option_or-none : {X : Type 0} (o : Option X) → option_or o None ≡ o
option_or-none None = refl
option_or-none (Some x) = refl

pub first_end-one : (key : ℤ) (note : Note) → first_end key (note ∷ []) ≡ ended key note.kind
first_end-one key note = option_or-none (ended key note.kind)

-- where a put stands
pub put_within : (notes : List Note) (x : Placed) (p : ℕ) → put_at notes p ≡ Some x → p < length notes
put_within notes x p h = elim (slice_get notes p) as (λ o. slice_get notes p ≡ o → option_and_then (λ note. effective (take p notes) note.kind) o ≡ Some x → p < length notes) [
  | None ↦ λ e g. absurd (cc)
  | Some note ↦ λ e g. slice_get_within notes p note e
] refl h

pub dead_at_past : (notes : List Note) (p : ℕ) (key : ℤ) → length notes ≤ p → dead_at notes p key ≡ None
dead_at_past notes p key h = ap (first_end key) (drop_all (p + 1) notes (omega arith))
