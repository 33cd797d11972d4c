-- The grammar's rules, by the steps that the code takes.
use Rattle.std.proofs.Common.{◌≡◌, ℕ, zero, suc, true, false, Bool, cond, [], ◌∷◌, ◌++◌, List, drop, Result, Ok, Err, refl}
use Rattle.row_types.specs.declared.rows.Kind.{Kind}
use Rattle.row_types.specs.declared.rows.Field.{Field}
use Rattle.row_types.specs.Schemas.{Columns}
use Rattle.filter_expr.specs.declared.refusals.FilterError.{FilterError}
use Rattle.filter_expr.specs.declared.refusals.FilterError.TheVariants.{Expected}
use Rattle.filter_expr.specs.declared.tokens.Sign.TheVariants.{Comma, ListClose}
use Rattle.filter_expr.specs.Grammar.{Tokens, Outcome, and_then, is_sign, sees, place, expect, literal_of, literal, choices_from, choices_after, one, one_by, negation_at, bracket_at}

pub one_is : (end : ℕ) (columns : Columns) (depth : ℕ) → one end columns depth ≡ one_by end columns (negation_at end columns depth) (bracket_at end columns depth)
unfolding one negation_at bracket_at
one_is end columns zero = refl
one_is end columns (suc depth) = refl

through : {A B : Type 0} (r : Result A FilterError) (ts : Tokens) (next : A → Tokens → Outcome B) → and_then r (λ a. next a ts) ≡ and_then {A = A × Tokens} (and_then r (λ a. Ok (a, ts))) (λ p. next p.0 p.1)
through (Ok a) ts next = refl
through (Err e) ts next = refl

-- a literal, and what follows it
pub choices_literal : (end : ℕ) (k : Kind) (found : List Field) (ts : Tokens) → choices_from end k found ts ≡ and_then (literal end k ts) (λ r. choices_after end k (found ++ r.0 ∷ []) r.1)
unfolding literal
choices_literal end k found [] = refl
choices_literal end k found (t ∷ ts) = through (literal_of end k t.at t.token) ts (λ f. choices_after end k (found ++ f ∷ []))

pub choices_comma : (end : ℕ) (k : Kind) (found : List Field) (ts : Tokens) → sees Comma ts ≡ true → choices_after end k found ts ≡ choices_from end k found (drop 1 ts)
unfolding sees
choices_comma end k found [] h = cc
choices_comma end k found (t ∷ ts) h = rw h refl

pub choices_end : (end : ℕ) (k : Kind) (found : List Field) (ts : Tokens) → sees Comma ts ≡ false → choices_after end k found ts ≡ and_then (expect end ListClose ts) (λ r. Ok (found, r.1))
unfolding sees expect place
choices_end end k found [] h = refl
choices_end end k found (t ∷ ts) h = rw h (by (is_sign ListClose t.token))
  where
    by : (b : Bool) → cond {A = Outcome (List Field)} b (Ok (found, ts)) (Err (Expected t.at)) ≡ and_then {A = Unit {0} × Tokens} (cond {A = Outcome (Unit {0})} b (Ok (tt, ts)) (Err (Expected t.at))) (λ r. Ok (found, r.1))
    by true = refl
    by false = refl
