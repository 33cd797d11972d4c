-- Rows that are correct, cover and stand apart, as a journal goes on and as rows are left out.
use Rattle.std.proofs.Common.{◌≡◌, ℕ, ◌+◌, ◌<◌, ◌≤◌, Bool, true, false, cond, List, [], ◌∷◌, ◌++◌, length, Option, Some, None, refl, sym, ap, subst, ◌∙◌, inl, inr, ⊎_elim, arith, append-nil, ne_eqb}
use Rattle.std.specs.Prelude.{nat_eq, option_to_list}
use Rattle.std.specs.Option.{option_or}
use Rattle.std.specs.List.{count_by}
use Rattle.std.proofs.lemmas.Bool.{cases_lt, cases_eq}
use Rattle.journal_model.specs.declared.notes.Note.{Note}
use Rattle.log_model.specs.Places.{Placed}
use Rattle.journal_model.specs.Puts.{effective, put_at, first_end, death, is_dead_by}
use Rattle.journal_model.specs.Lists.{IsIn}
use Rattle.journal_model.specs.Runs.{IsConsistent}
use Rattle.journal_model.proofs.PutLaws.{put_at-append, put_at-new, put_within, dead_at-append, dead_at_past}
use Rattle.journal_model.proofs.IndexLaws.{put_cases, effective_position}
use Rattle.journal_model.proofs.ListLaws.{in_left, in_right, in_cases, count-push, count_none}

-- dead in a journal is dead in a longer one
pub dead_longer : (t : ℕ) (xs ys : List Note) (x : Placed) → is_dead_by t (death xs x) ≡ true → is_dead_by t (death (xs ++ ys) x) ≡ true
dead_longer t xs ys x h = ⊎_elim
    (λ lt. ap (is_dead_by t) (dead_at-append xs ys x.position x.row.key.0 lt) ∙ stays (death xs x) h)
    (λ ge. let none : death xs x ≡ None = dead_at_past xs x.position x.row.key.0 ge in let no : false ≡ true = ap (is_dead_by t) (sym none) ∙ h in cc)
    (cases_lt x.position (length xs))
  where
    stays : (o : Option ℕ) → is_dead_by t o ≡ true → is_dead_by t (option_or o (first_end x.row.key.0 ys)) ≡ true
    stays None e = cc
    stays (Some d) e = e

-- not dead in a longer journal is not dead before
pub alive_shorter : (t : ℕ) (xs ys : List Note) (x : Placed) → is_dead_by t (death (xs ++ ys) x) ≡ false → is_dead_by t (death xs x) ≡ false
alive_shorter t xs ys x h = elim (is_dead_by t (death xs x)) as (λ b. is_dead_by t (death xs x) ≡ b → b ≡ false) [
  | true ↦ λ e. let no : true ≡ false = sym (dead_longer t xs ys x e) ∙ h in no
  | false ↦ λ e. refl
] refl

one_position : (x : Placed) (rows : List Placed) (p : ℕ) → ((y : Placed) → IsIn y rows → y.position < x.position) → count_by (λ y. nat_eq y.position p) rows ≤ 1 → count_by (λ y. nat_eq y.position p) (rows ++ x ∷ []) ≤ 1
one_position x rows p low one = ⊎_elim
    (λ same.
    let none : count_by (λ y. nat_eq y.position p) rows ≡ 0 = count_none (λ y. nat_eq y.position p) rows (λ y h. let lt = low y h in ne_eqb y.position p (λ e. absurd (omega arith))) in
    let sum : count_by (λ y. nat_eq y.position p) (rows ++ x ∷ []) ≡ count_by (λ y. nat_eq y.position p) rows + cond (nat_eq x.position p) 1 0 = count-push (λ y. nat_eq y.position p) rows x in
    let few : cond (nat_eq x.position p) 1 0 ≤ 1 = at_most (nat_eq x.position p) in
    omega arith)
    (λ other.
    let sum : count_by (λ y. nat_eq y.position p) (rows ++ x ∷ []) ≡ count_by (λ y. nat_eq y.position p) rows + cond (nat_eq x.position p) 1 0 = count-push (λ y. nat_eq y.position p) rows x in
    let no : cond (nat_eq x.position p) 1 0 ≡ 0 = ap (λ (b : Bool). cond {A = ℕ} b 1 0) (ne_eqb x.position p other) in
    omega arith)
    (cases_eq x.position p)
  where
    at_most : (b : Bool) → cond b 1 0 ≤ 1
    at_most true = omega arith
    at_most false = omega arith

module _ (notes : List Note) (floor : ℕ) where
  -- a note more, and the row that it adds, if any
  pub rows_added : (note : Note) (rows : List Placed) → IsConsistent notes floor rows → IsConsistent (notes ++ note ∷ []) floor (rows ++ option_to_list (effective notes note.kind))
  rows_added note rows s = record {
    correct = λ x h. ⊎_elim
        (λ old. put_at-append notes (note ∷ []) x.position (put_within notes x x.position (s.correct x old)) ∙ s.correct x old)
        (λ new. let is = in_option (effective notes note.kind) x new in
        ap (put_at (notes ++ note ∷ [])) (effective_position notes note.kind x is) ∙ put_at-new notes note ∙ is)
        (in_cases x rows (option_to_list (effective notes note.kind)) h);
    cover = λ x put alive. ⊎_elim
        (λ old. in_left x rows (option_to_list (effective notes note.kind)) (s.cover x old.1 (alive_shorter floor notes (note ∷ []) x alive)))
        (λ new. in_right x rows (option_to_list (effective notes note.kind)) (subst (λ o. IsIn x (option_to_list o)) (sym new.1) (inl refl)))
        (put_cases notes note x.position x put);
    apart = λ p. add (effective notes note.kind) refl p;
  }
    where
      in_option : (o : Option Placed) (x : Placed) → IsIn x (option_to_list o) → o ≡ Some x
      in_option None x h = absurd h
      in_option (Some y) x (inl e) = ap Some (sym e)
      in_option (Some y) x (inr h) = absurd h

      add : (o : Option Placed) → effective notes note.kind ≡ o → (p : ℕ) → count_by (λ y. nat_eq y.position p) (rows ++ option_to_list o) ≤ 1
      add None e p = subst (λ l. count_by (λ y. nat_eq y.position p) l ≤ 1) (sym (append-nil rows)) (s.apart p)
      add (Some x) e p = one_position x rows p (λ y h. let at = effective_position notes note.kind x e in let lt = put_within notes y y.position (s.correct y h) in omega arith) (s.apart p)

  -- other rows: each of them among the old ones, each old one that is not dead at the floor among them, and none more often
  pub rows_from : (rows fewer : List Placed) → ((x : Placed) → IsIn x fewer → IsIn x rows) → ((x : Placed) → IsIn x rows → is_dead_by floor (death notes x) ≡ false → IsIn x fewer)
      → ((p : ℕ) → count_by (λ x. nat_eq x.position p) fewer ≤ count_by (λ x. nat_eq x.position p) rows)
      → IsConsistent notes floor rows → IsConsistent notes floor fewer
  rows_from rows fewer among there counts s = record {
    correct = λ x h. s.correct x (among x h);
    cover = λ x put alive. there x (s.cover x put alive) alive;
    apart = λ p. let old = s.apart p in let fewer = counts p in omega arith;
  }
