-- One more note changes the index at one key, and one mark.
use Rattle.std.proofs.Common.{◌≡◌, ◌≢◌, ℕ, ℤ, true, false, cond, List, [], ◌∷◌, ◌++◌, Option, Some, None, refl, sym, ap, subst, ◌∙◌, eq-eqb, ne_eqb}
use Rattle.std.specs.Option.{option_or}
use Rattle.std.specs.Ordering.{int_eq}
use Rattle.std.proofs.lemmas.Bool.{false≢true}
use Rattle.std.proofs.lemmas.Bool.Decides.{Decides-int_eq}
use Rattle.journal_model.specs.declared.notes.PutKind.TheVariants.{Insert, Upsert}
use Rattle.journal_model.specs.declared.notes.Kind.{Kind}
use Rattle.journal_model.specs.declared.notes.Kind.TheVariants.{Put, Remove}
use Rattle.journal_model.specs.declared.notes.Note.{Note}
use Rattle.log_model.specs.Places.{Placed}
use Rattle.journal_model.specs.Puts.{put_at, ended, dead_at, death}
use Rattle.journal_model.specs.Tables.{index_of, end_at, ends, marked}
use Rattle.journal_model.proofs.PutLaws.{put_within, dead_at-append, first_end-one}
use Rattle.journal_model.proofs.IndexLaws.{index_stands}

module _ (notes : List Note) (x : Placed) (put : put_at notes x.position ≡ Some x) where
  -- where the row's key is changed: the row is ended exactly where it is alive
  at_key : (ts : ℕ) (key : ℤ) → int_eq x.row.key.0 key ≡ true → option_or (death notes x) (Some ts) ≡ marked (end_at ts (index_of notes key)) x.position (death notes x)
  at_key ts key e =
      let same : x.row.key.0 ≡ key = (Decides-int_eq x.row.key.0 key).0 e in
      subst (λ k. option_or (death notes x) (Some ts) ≡ marked (end_at ts (index_of notes k)) x.position (death notes x)) same (own (death notes x) refl)
    where
      own : (o : Option ℕ) → death notes x ≡ o → option_or o (Some ts) ≡ marked (end_at ts (index_of notes x.row.key.0)) x.position o
      own None d =
          let found : index_of notes x.row.key.0 ≡ Some x = (index_stands x.row.key.0 notes).alive x.position x put refl d in
          sym (ap (λ i. marked (end_at ts i) x.position None) found ∙ ap (λ b. cond b (Some ts) None) (eq-eqb x.position x.position refl))
      own (Some t) d = stays (index_of notes x.row.key.0) refl
        where
          stays : (i : Option Placed) → index_of notes x.row.key.0 ≡ i → Some t ≡ marked (end_at ts i) x.position (Some t)
          stays None e = refl
          stays (Some y) e =
              let here = (index_stands x.row.key.0 notes).here y e in
              let ne : y.position ≢ x.position = λ at. absurd (let none : Some t ≡ None = sym d ∙ ap (λ p. dead_at notes p x.row.key.0) (sym at) ∙ here.2 in cc) in
              ap (λ b. cond b (Some ts) (Some t)) (sym (ne_eqb y.position x.position ne))

  -- where another key is changed nothing becomes of it
  other_key : (ts : ℕ) (key : ℤ) → int_eq x.row.key.0 key ≡ false → death notes x ≡ marked (end_at ts (index_of notes key)) x.position (death notes x)
  other_key ts key e = stays (index_of notes key) refl
    where
      stays : (i : Option Placed) → index_of notes key ≡ i → death notes x ≡ marked (end_at ts i) x.position (death notes x)
      stays None f = refl
      stays (Some y) f =
          let here = (index_stands key notes).here y f in
          let ne : y.position ≢ x.position = λ at.
          let one : Some y ≡ Some x = sym here.0 ∙ ap (put_at notes) at ∙ put in
          let is : y ≡ x = cc in
          let yes : int_eq x.row.key.0 key ≡ true = (Decides-int_eq x.row.key.0 key).1 (ap (λ z. z.row.key.0) (sym is) ∙ here.1) in
          false≢true (sym e ∙ yes) in
          ap (λ b. cond b (Some ts) (death notes x)) (sym (ne_eqb y.position x.position ne))

  ends_kind : (kind : Kind) → option_or (death notes x) (ended x.row.key.0 kind) ≡ marked (ends notes kind) x.position (death notes x)
  ends_kind (Put ts Insert row) = elim (int_eq x.row.key.0 row.key.0) as (λ b. option_or (death notes x) (cond b None None) ≡ death notes x) [
    | true ↦ or_none (death notes x)
    | false ↦ or_none (death notes x)
  ]
    where
      or_none : (o : Option ℕ) → option_or o None ≡ o
      or_none None = refl
      or_none (Some t) = refl
  ends_kind (Put ts Upsert row) = elim (int_eq x.row.key.0 row.key.0) as (λ b. int_eq x.row.key.0 row.key.0 ≡ b → option_or (death notes x) (cond b (Some ts.0) None) ≡ marked (end_at ts.0 (index_of notes row.key.0)) x.position (death notes x)) [
    | true ↦ λ e. at_key ts.0 row.key.0 e
    | false ↦ λ e. or_none (death notes x) ∙ other_key ts.0 row.key.0 e
  ] refl
    where
      or_none : (o : Option ℕ) → option_or o None ≡ o
      or_none None = refl
      or_none (Some t) = refl
  ends_kind (Remove ts key) = elim (int_eq x.row.key.0 key.0) as (λ b. int_eq x.row.key.0 key.0 ≡ b → option_or (death notes x) (cond b (Some ts.0) None) ≡ marked (end_at ts.0 (index_of notes key.0)) x.position (death notes x)) [
    | true ↦ λ e. at_key ts.0 key.0 e
    | false ↦ λ e. or_none (death notes x) ∙ other_key ts.0 key.0 e
  ] refl
    where
      or_none : (o : Option ℕ) → option_or o None ≡ o
      or_none None = refl
      or_none (Some t) = refl
  ends_kind _ = or_none (death notes x)
    where
      or_none : (o : Option ℕ) → option_or o None ≡ o
      or_none None = refl
      or_none (Some t) = refl

  -- a note more marks one row, the one that the index finds at its key
  pub death-snoc : (note : Note) → death (notes ++ note ∷ []) x ≡ marked (ends notes note.kind) x.position (death notes x)
  death-snoc note =
      dead_at-append notes (note ∷ []) x.position x.row.key.0 (put_within notes x x.position put)
      ∙ ap (option_or (death notes x)) (first_end-one x.row.key.0 note)
      ∙ ends_kind note.kind
