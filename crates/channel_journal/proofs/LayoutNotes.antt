-- What each note changes of the layout, and of the counters that are kept of it.
use Rattle.std.proofs.Common.{◌≡◌, ℕ, ◌+◌, true, false, cond, List, [], ◌∷◌, ◌++◌, length, Option, Some, None, refl, sym, ap, ◌∙◌, arith, lt-ltb, le-ltb, eqb-true}
use Rattle.std.specs.Prelude.{nat_eq, nat_lt}
use Rattle.std.proofs.lemmas.List.{length_push}
use Rattle.row_types.specs.declared.rows.Row.{Row}
use Rattle.hybrid_time.specs.declared.times.Timestamp.{Timestamp}
use Rattle.log_model.specs.Places.{Placed}
use Rattle.journal_model.specs.declared.notes.PutKind.{PutKind}
use Rattle.journal_model.specs.declared.notes.Kind.TheVariants.{Put, Seal}
use Rattle.journal_model.specs.declared.notes.Note.{Note}
use Rattle.journal_model.specs.Notes.{note_of}
use Rattle.journal_model.specs.Puts.{effective}
use Rattle.journal_model.specs.Layouts.{Channel, Layout, number_at, with_tail, after_boundary, with_row, after_seal, layout_of}
use Rattle.journal_model.proofs.LayoutLaws.{layout-snoc}
use Rattle.channel_journal.specs.Notes.{number_taken}
use Rattle.channel_journal.specs.Kept.{tail_after_put, taken_after_put, number_after_put, taken_after_seal, number_after_seal}

-- ---- numbers

-- a layout that has taken no number more has none
pub none_taken : (channel : Channel) (before after : Layout) → after.taken ≡ before.taken → number_taken channel before after ≡ None
none_taken channel before after same = ap (λ b. cond b (Some (number_at channel before.taken)) None) (le-ltb before.taken after.taken (omega (arith, same)))

pub one_taken : (channel : Channel) (before after : Layout) → after.taken ≡ before.taken + 1 → number_taken channel before after ≡ Some (number_at channel before.taken)
one_taken channel before after more = ap (λ b. cond b (Some (number_at channel before.taken)) None) (lt-ltb before.taken after.taken (omega (arith, more)))

none_not_some : {X : Type 0} (x : X) (o : Option X) → o ≡ None → o ≡ Some x → ⊥
none_not_some x o n s = let bad : None ≡ Some x = sym n ∙ s in cc

pub is_number : (channel : Channel) (before after : Layout) (number : ℕ) → number_taken channel before after ≡ Some number → number ≡ number_at channel before.taken
is_number channel before after number e = elim (nat_lt before.taken after.taken) as (λ b. cond b (Some (number_at channel before.taken)) None ≡ Some number → number ≡ number_at channel before.taken) [
  | true ↦ λ h. cc
  | false ↦ λ h. cc
] e

-- ---- a row more

row_cases : (channel : Channel) (layout : Layout) (x : Placed) → nat_eq (length layout.tail + 1) channel.seal_rows ≡ nat_eq (length (layout.tail ++ x ∷ [])) channel.seal_rows
row_cases channel layout x = ap (λ n. nat_eq n channel.seal_rows) (sym (length_push layout.tail x))

pub tail-row : (channel : Channel) (layout : Layout) (x : Placed) → tail_after_put channel.seal_rows (length layout.tail) ≡ length (with_row channel layout (Some x)).tail
tail-row channel layout x =
    ap (λ b. cond b 0 (length layout.tail + 1)) (row_cases channel layout x)
    ∙ elim (nat_eq (length (layout.tail ++ x ∷ [])) channel.seal_rows) as (λ b. cond b 0 (length layout.tail + 1)
    ≡ length (cond b (after_boundary channel layout (layout.tail ++ x ∷ [])) (with_tail layout (layout.tail ++ x ∷ []))).tail) [
      | true ↦ refl
      | false ↦ sym (length_push layout.tail x)
    ]

pub taken-row : (channel : Channel) (layout : Layout) (x : Placed) → taken_after_put channel.seal_rows (length layout.tail) layout.taken ≡ (with_row channel layout (Some x)).taken
taken-row channel layout x =
    ap (λ b. cond b (layout.taken + 1) layout.taken) (row_cases channel layout x)
    ∙ elim (nat_eq (length (layout.tail ++ x ∷ [])) channel.seal_rows) as (λ b. cond b (layout.taken + 1) layout.taken
    ≡ (cond b (after_boundary channel layout (layout.tail ++ x ∷ [])) (with_tail layout (layout.tail ++ x ∷ []))).taken) [
      | true ↦ refl
      | false ↦ refl
    ]

pub number-row : (channel : Channel) (layout : Layout) (x : Placed) → number_taken channel layout (with_row channel layout (Some x)) ≡ number_after_put channel (length layout.tail) layout.taken
number-row channel layout x =
    elim (nat_eq (length (layout.tail ++ x ∷ [])) channel.seal_rows) as (λ b.
    number_taken channel layout (cond b (after_boundary channel layout (layout.tail ++ x ∷ [])) (with_tail layout (layout.tail ++ x ∷ []))) ≡ cond b (Some (number_at channel layout.taken)) None) [
      | true ↦ one_taken channel layout (after_boundary channel layout (layout.tail ++ x ∷ [])) refl
      | false ↦ none_taken channel layout (with_tail layout (layout.tail ++ x ∷ [])) refl
    ]
    ∙ ap (λ b. cond b (Some (number_at channel layout.taken)) None) (sym (row_cases channel layout x))

pub row_stays : (channel : Channel) (layout : Layout) (x : Placed) → number_taken channel layout (with_row channel layout (Some x)) ≡ None → with_row channel layout (Some x) ≡ with_tail layout (layout.tail ++ x ∷ [])
row_stays channel layout x = elim (nat_eq (length (layout.tail ++ x ∷ [])) channel.seal_rows) as (λ b. number_taken channel layout (cond b (after_boundary channel layout (layout.tail ++ x ∷ [])) (with_tail layout (layout.tail ++ x ∷ []))) ≡ None → cond b (after_boundary channel layout (layout.tail ++ x ∷ [])) (with_tail layout (layout.tail ++ x ∷ [])) ≡ with_tail layout (layout.tail ++ x ∷ [])) [
  | true ↦ λ h. absurd (none_not_some (number_at channel layout.taken) (number_taken channel layout (after_boundary channel layout (layout.tail ++ x ∷ []))) h (one_taken channel layout (after_boundary channel layout (layout.tail ++ x ∷ [])) refl))
  | false ↦ λ h. refl
]

pub row_fills : (channel : Channel) (layout : Layout) (x : Placed) (number : ℕ) → number_taken channel layout (with_row channel layout (Some x)) ≡ Some number
    → with_row channel layout (Some x) ≡ after_boundary channel layout (layout.tail ++ x ∷ [])
row_fills channel layout x number = elim (nat_eq (length (layout.tail ++ x ∷ [])) channel.seal_rows) as (λ b. number_taken channel layout (cond b (after_boundary channel layout (layout.tail ++ x ∷ [])) (with_tail layout (layout.tail ++ x ∷ []))) ≡ Some number → cond b (after_boundary channel layout (layout.tail ++ x ∷ [])) (with_tail layout (layout.tail ++ x ∷ [])) ≡ after_boundary channel layout (layout.tail ++ x ∷ [])) [
  | true ↦ λ h. refl
  | false ↦ λ h. absurd (none_not_some number (number_taken channel layout (with_tail layout (layout.tail ++ x ∷ []))) (none_taken channel layout (with_tail layout (layout.tail ++ x ∷ [])) refl) h)
]

-- ---- a seal

pub tail-seal : (channel : Channel) (layout : Layout) → 0 ≡ length (after_seal channel layout).tail
tail-seal channel layout = elim (nat_eq (length layout.tail) 0) as (λ b. nat_eq (length layout.tail) 0 ≡ b → 0 ≡ length (cond b layout (after_boundary channel layout layout.tail)).tail) [
  | true ↦ λ e. sym (eqb-true (length layout.tail) 0 e)
  | false ↦ λ e. refl
] refl

pub taken-seal : (channel : Channel) (layout : Layout) → taken_after_seal (length layout.tail) layout.taken ≡ (after_seal channel layout).taken
taken-seal channel layout = elim (nat_eq (length layout.tail) 0) as (λ b. cond b layout.taken (layout.taken + 1) ≡ (cond b layout (after_boundary channel layout layout.tail)).taken) [
  | true ↦ refl
  | false ↦ refl
]

pub number-seal : (channel : Channel) (layout : Layout) → number_taken channel layout (after_seal channel layout) ≡ number_after_seal channel (length layout.tail) layout.taken
number-seal channel layout = elim (nat_eq (length layout.tail) 0) as (λ b. number_taken channel layout (cond b layout (after_boundary channel layout layout.tail)) ≡ cond b None (Some (number_at channel layout.taken))) [
  | true ↦ none_taken channel layout layout refl
  | false ↦ one_taken channel layout (after_boundary channel layout layout.tail) refl
]

pub seal_stays : (channel : Channel) (layout : Layout) → number_taken channel layout (after_seal channel layout) ≡ None → after_seal channel layout ≡ layout
seal_stays channel layout = elim (nat_eq (length layout.tail) 0) as (λ b. number_taken channel layout (cond b layout (after_boundary channel layout layout.tail)) ≡ None → cond b layout (after_boundary channel layout layout.tail) ≡ layout) [
  | true ↦ λ h. refl
  | false ↦ λ h. absurd (none_not_some (number_at channel layout.taken) (number_taken channel layout (after_boundary channel layout layout.tail)) h (one_taken channel layout (after_boundary channel layout layout.tail) refl))
]

pub seal_fills : (channel : Channel) (layout : Layout) (number : ℕ) → number_taken channel layout (after_seal channel layout) ≡ Some number → after_seal channel layout ≡ after_boundary channel layout layout.tail
seal_fills channel layout number = elim (nat_eq (length layout.tail) 0) as (λ b. number_taken channel layout (cond b layout (after_boundary channel layout layout.tail)) ≡ Some number → cond b layout (after_boundary channel layout layout.tail) ≡ after_boundary channel layout layout.tail) [
  | true ↦ λ h. absurd (none_not_some number (number_taken channel layout layout) (none_taken channel layout layout refl) h)
  | false ↦ λ h. refl
]

-- ---- the layout of a journal with one note more

module _ (channel : Channel) (notes : List Note) (by line : ℕ) where
  pub after_put : (ts : Timestamp) (how : PutKind) (row : Row) (o : Option Placed) → effective notes (Put ts how row) ≡ o → layout_of channel (notes ++ note_of by line (Put ts how row) ∷ []) ≡ with_row channel (layout_of channel notes) o
  after_put ts how row o e = layout-snoc channel notes (note_of by line (Put ts how row)) ∙ ap (with_row channel (layout_of channel notes)) e

  pub put_stays : (ts : Timestamp) (how : PutKind) (row : Row) (x : Placed) → effective notes (Put ts how row) ≡ Some x
      → number_taken channel (layout_of channel notes) (layout_of channel (notes ++ note_of by line (Put ts how row) ∷ [])) ≡ None
      → layout_of channel (notes ++ note_of by line (Put ts how row) ∷ []) ≡ with_tail (layout_of channel notes) ((layout_of channel notes).tail ++ x ∷ [])
  put_stays ts how row x e none =
      let is = after_put ts how row (Some x) e in
      is ∙ row_stays channel (layout_of channel notes) x (ap (number_taken channel (layout_of channel notes)) (sym is) ∙ none)

  pub put_fills : (ts : Timestamp) (how : PutKind) (row : Row) (x : Placed) (number : ℕ) → effective notes (Put ts how row) ≡ Some x
      → number_taken channel (layout_of channel notes) (layout_of channel (notes ++ note_of by line (Put ts how row) ∷ [])) ≡ Some number
      → layout_of channel (notes ++ note_of by line (Put ts how row) ∷ []) ≡ after_boundary channel (layout_of channel notes) ((layout_of channel notes).tail ++ x ∷ [])
  put_fills ts how row x number e some =
      let is = after_put ts how row (Some x) e in
      is ∙ row_fills channel (layout_of channel notes) x number (ap (number_taken channel (layout_of channel notes)) (sym is) ∙ some)

  pub sealed_stays : (ts : Timestamp) → number_taken channel (layout_of channel notes) (layout_of channel (notes ++ note_of by line (Seal ts) ∷ [])) ≡ None → layout_of channel (notes ++ note_of by line (Seal ts) ∷ []) ≡ layout_of channel notes
  sealed_stays ts none =
      let is = layout-snoc channel notes (note_of by line (Seal ts)) in
      is ∙ seal_stays channel (layout_of channel notes) (ap (number_taken channel (layout_of channel notes)) (sym is) ∙ none)

  pub sealed_fills : (ts : Timestamp) (number : ℕ) → number_taken channel (layout_of channel notes) (layout_of channel (notes ++ note_of by line (Seal ts) ∷ [])) ≡ Some number
      → layout_of channel (notes ++ note_of by line (Seal ts) ∷ []) ≡ after_boundary channel (layout_of channel notes) (layout_of channel notes).tail
  sealed_fills ts number some =
      let is = layout-snoc channel notes (note_of by line (Seal ts)) in
      is ∙ seal_fills channel (layout_of channel notes) number (ap (number_taken channel (layout_of channel notes)) (sym is) ∙ some)
