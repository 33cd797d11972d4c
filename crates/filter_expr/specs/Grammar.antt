-- The grammar of filters: its tokens are read from left to right without going back, and the first failure is answered.
use Rattle.std.specs.Prelude.{◌≡◌, ℕ, zero, suc, ◌^◌, nat_lt, Bool, true, false, if◌then◌else◌, List, [], ◌∷◌, ◌++◌, length, drop, position, slice_get, codes, Option, Some, None, Result, Ok, Err, ◌⊎◌}
use Rattle.std.specs.Option.{option_map}
use Rattle.std.specs.Str.{bytes_eq}
use denote.Enum.Bare.{sameb}
use Rattle.row_types.specs.declared.rows.Kind.{Kind}
use Rattle.row_types.specs.declared.rows.Kind.TheVariants as kind
use Rattle.row_types.specs.declared.rows.Field.{Field}
use Rattle.row_types.specs.declared.rows.Field.TheVariants as field
use Rattle.row_types.specs.declared.filters.Operand.{Operand}
use Rattle.row_types.specs.declared.filters.Operand.TheVariants.{Key, Column}
use Rattle.row_types.specs.declared.filters.CompareOp.{CompareOp}
use Rattle.row_types.specs.declared.filters.Filter.{Filter}
use Rattle.row_types.specs.declared.filters.Filter.TheVariants as e
use Rattle.row_types.specs.Schemas.{Columns, is_kind, takes}
use Rattle.filter_expr.specs.contracts.tokens.Sign.{the_type}
use Rattle.filter_expr.specs.declared.tokens.Sign.{Sign}
use Rattle.filter_expr.specs.declared.tokens.Sign.TheVariants.{Open, Close, ListOpen, ListClose, Comma, Or, And, Not, In}
use Rattle.filter_expr.specs.declared.tokens.Token.{Token}
use Rattle.filter_expr.specs.declared.tokens.Token.TheVariants as token
use Rattle.filter_expr.specs.declared.tokens.Placed.{Placed}
use Rattle.filter_expr.specs.declared.refusals.FilterError.{FilterError}
use Rattle.filter_expr.specs.declared.refusals.FilterError.TheVariants.{Expected, UnknownField, KindMismatch, TooDeep, Memory}
use Rattle.filter_expr.specs.Tokens.{tokens_of}

-- ---- reading

abbrev pub Tokens : Type 0
Tokens = List Placed

-- what was read, and the tokens after it
abbrev pub Outcome : Type 0 → Type 0
Outcome A = Result (A × Tokens) FilterError

abbrev pub Reader : Type 0 → Type 0
Reader A = Tokens → Outcome A

abbrev pub and_then : {A B : Type 0} → Result A FilterError → (A → Result B FilterError) → Result B FilterError
and_then (Ok a) next = next a
and_then (Err e) next = Err e

infixl 10 ◌>>=◌
abbrev pub ◌>>=◌ : {A B : Type 0} → Reader A → (A → Reader B) → Reader B
read >>= next = λ ts. and_then (read ts) (λ r. next r.0 r.1)

abbrev pub pure : {A : Type 0} → A → Reader A
pure a = λ ts. Ok (a, ts)

-- What the code that reads ensures: it answers the outcome, unless memory ran out.
abbrev pub Reads : {A : Type 0} → Outcome A → Result A FilterError → Tokens → Type 0
Reads outcome (Ok a) rest = outcome ≡ Ok (a, rest)
Reads outcome (Err e) rest = (e ≡ Memory) ⊎ (outcome ≡ Err e)

-- ---- signs

unfoldable pub same_sign : Sign → Sign → Bool
same_sign = sameb the_type

abbrev pub is_sign : Sign → Token → Bool
is_sign sign (token.Sign s) = same_sign sign s
is_sign sign (token.Name name) = false
is_sign sign (token.Literal f) = false
is_sign sign (token.Compare op) = false

unfoldable pub sees : Sign → Tokens → Bool
sees sign [] = false
sees sign (t ∷ ts) = is_sign sign t.token

-- the name that a token is
abbrev pub name_in : Token → Option (List ℕ)
name_in (token.Name name) = Some name
name_in (token.Literal f) = None
name_in (token.Compare op) = None
name_in (token.Sign s) = None

-- the operator that comes next, and its place
abbrev pub operator_in : ℕ → Token → Option (CompareOp × ℕ)
operator_in at (token.Compare op) = Some (op, at)
operator_in at (token.Name name) = None
operator_in at (token.Literal f) = None
operator_in at (token.Sign s) = None

unfoldable pub operator_ahead : Tokens → Option (CompareOp × ℕ)
operator_ahead [] = None
operator_ahead (t ∷ ts) = operator_in t.at t.token

-- ---- names

-- a column by its number, which fits 32 bits
abbrev pub column_at : Columns → Option ℕ → Option (Operand × Kind)
column_at columns None = None
column_at columns (Some at) = if nat_lt at (2 ^ 32) then option_map (λ column. (Column at, column.1)) (slice_get columns at) else None

-- what a name stands for, and its kind
unfoldable pub operand_of : Columns → List ℕ → Option (Operand × Kind)
operand_of columns name =
    if bytes_eq name (codes "key") then Some (Key, kind.Int)
    else column_at columns (position (λ column. bytes_eq column.0 name) columns)

-- several members of one level, or the only one
unfoldable pub any_of : List Filter → Filter
any_of [] = e.Any []
any_of (only ∷ []) = only
any_of (first ∷ second ∷ more) = e.Any (first ∷ second ∷ more)

unfoldable pub all_of : List Filter → Filter
all_of [] = e.All []
all_of (only ∷ []) = only
all_of (first ∷ second ∷ more) = e.All (first ∷ second ∷ more)

-- At most this many `(` and `!` are open at once.
abbrev pub most_open : ℕ
most_open = 32

-- `end` is the length of the text, where the tokens end.
module _ (end : ℕ) where
  -- the place of the next token
  unfoldable pub place : Tokens → ℕ
  place [] = end
  place (t ∷ ts) = t.at

  unfoldable pub expect : Sign → Reader (Unit {0})
  expect sign = λ ts. if sees sign ts then Ok (tt, drop 1 ts) else Err (Expected (place ts))

  -- a literal of a kind
  abbrev pub literal_of : Kind → ℕ → Token → Result Field FilterError
  literal_of k at (token.Literal f) = if is_kind k f then Ok f else Err (KindMismatch at)
  literal_of k at (token.Name name) = Err (Expected at)
  literal_of k at (token.Compare op) = Err (Expected at)
  literal_of k at (token.Sign s) = Err (Expected at)

  unfoldable pub literal : Kind → Reader Field
  literal k [] = Err (Expected end)
  literal k (t ∷ ts) = and_then (literal_of k t.at t.token) (λ f. Ok (f, ts))

  abbrev mutual
    -- the literals of a list from a place where one must stand, after those found so far, and its `]`
    pub choices_from : Kind → List Field → Reader (List Field)
    choices_from k found [] = Err (Expected end)
    choices_from k found (t ∷ ts) = and_then (literal_of k t.at t.token) (λ f. choices_after k (found ++ f ∷ []) ts)

    -- the same behind a literal
    pub choices_after : Kind → List Field → Reader (List Field)
    choices_after k found [] = Err (Expected end)
    choices_after k found (t ∷ ts) =
        if is_sign Comma t.token then choices_from k found ts
        else (if is_sign ListClose t.token then Ok (found, ts) else Err (Expected t.at))

  -- behind the `[`
  unfoldable pub choices : Kind → Reader (List Field)
  choices k = λ ts. if sees ListClose ts then Ok ([], drop 1 ts) else choices_from k [] ts

  unfoldable pub one_of : Operand × Kind → Reader Filter
  one_of o = expect ListOpen >>= λ opened. choices o.1 >>= λ found. pure (e.OneOf o.0 found)

  unfoldable pub compared : Operand × Kind → CompareOp × ℕ → Reader Filter
  compared o p = λ ts. if takes p.0 o.1 then (literal o.1 >>= λ right. pure (e.Compare o.0 p.0 right)) ts else Err (KindMismatch p.1)

  -- a name at a place, with nothing behind it
  unfoldable pub alone : ℕ → Operand × Kind → Reader Filter
  alone at o = λ ts. if is_kind o.1 (field.Bool true) then Ok (e.Truth o.0, ts) else Err (KindMismatch at)

  abbrev pub named_by : ℕ → Operand × Kind → Option (CompareOp × ℕ) → Reader Filter
  named_by at o (Some p) = λ ts. compared o p (drop 1 ts)
  named_by at o None = λ ts. if sees In ts then one_of o (drop 1 ts) else alone at o ts

  abbrev pub named_at : ℕ → Option (Operand × Kind) → Reader Filter
  named_at at None = λ ts. Err (UnknownField at)
  named_at at (Some o) = λ ts. named_by at o (operator_ahead ts) ts

  unfoldable pub named : Columns → List ℕ → ℕ → Reader Filter
  named columns name at = named_at at (operand_of columns name)

  -- Members behind the first ones, each after its sign. The number bounds the turns; each turn takes a token, so the count of tokens is enough.
  unfoldable pub more : Sign → Reader Filter → ℕ → List Filter → Reader (List Filter)
  more sign member zero found = pure found
  more sign member (suc n) found = λ ts. if sees sign ts then and_then (member (drop 1 ts)) (λ r. more sign member n (found ++ r.0 ∷ []) r.1) else Ok (found, ts)

  -- one member or more with a sign between
  unfoldable pub joined : Sign → Reader Filter → Reader (List Filter)
  joined sign member = member >>= λ first. λ ts. more sign member (length ts) (first ∷ []) ts

  -- `all := one ("&&" one)*` and `any := all ("||" all)*`, by what reads a `one`
  unfoldable pub all : Reader Filter → Reader Filter
  all one = joined And one >>= λ members. pure (all_of members)

  unfoldable pub any : Reader Filter → Reader Filter
  any one = joined Or (all one) >>= λ members. pure (any_of members)

  -- behind a `!` and behind a `(` at a place, by what reads a `one` in there
  unfoldable pub negated : Reader Filter → ℕ → Reader Filter
  negated one at = one >>= λ inner. pure (e.Not inner)

  unfoldable pub bracketed : Reader Filter → ℕ → Reader Filter
  bracketed one at = any one >>= λ inner. expect Close >>= λ closed. pure inner

  abbrev pub too_deep : ℕ → Reader Filter
  too_deep at = λ ts. Err (TooDeep at)

  -- a `one` that begins with a name, or else with a sign
  abbrev pub begun_by : Columns → (ℕ → Reader Filter) → (ℕ → Reader Filter) → ℕ → Token → Option (List ℕ) → Reader Filter
  begun_by columns negation bracket at t (Some name) = named columns name at
  begun_by columns negation bracket at t None =
      if is_sign Not t then negation at else (if is_sign Open t then bracket at else (λ ts. Err (Expected at)))

  unfoldable pub one_by : Columns → (ℕ → Reader Filter) → (ℕ → Reader Filter) → Reader Filter
  one_by columns negation bracket [] = Err (Expected end)
  one_by columns negation bracket (t ∷ ts) = begun_by columns negation bracket t.at t.token (name_in t.token) ts

  -- `one := "!" one | "(" any ")" | name ..`, where so many `!` and `(` may still be opened
  unfoldable pub one : Columns → ℕ → Reader Filter
  one columns zero = one_by columns too_deep too_deep
  one columns (suc depth) = one_by columns (negated (one columns depth)) (bracketed (one columns depth))

  -- what stands behind a `!` and behind a `(`, where so many of them may still be opened
  unfoldable pub negation_at : Columns → ℕ → ℕ → Reader Filter
  negation_at columns zero = too_deep
  negation_at columns (suc depth) = negated (one columns depth)

  unfoldable pub bracket_at : Columns → ℕ → ℕ → Reader Filter
  bracket_at columns zero = too_deep
  bracket_at columns (suc depth) = bracketed (one columns depth)

-- all tokens are read
abbrev pub whole : Filter → Tokens → Result Filter FilterError
whole filter [] = Ok filter
whole filter (t ∷ ts) = Err (Expected t.at)

-- the filter that a text spells, or the first failure
unfoldable pub filter_of : Columns → List ℕ → Result Filter FilterError
filter_of columns text = and_then (tokens_of text) (λ ts. and_then (any (length text) (one (length text) columns most_open) ts) (λ r. whole r.0 r.1))
