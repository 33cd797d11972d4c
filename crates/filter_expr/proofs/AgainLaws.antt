-- The text of a filter is read as that filter, whatever follows it: names, literals, lists and members.
use Rattle.std.proofs.Common.{◌≡◌, ℕ, suc, ◌+◌, ◌^◌, ◌<◌, ◌≤◌, ◌==◌, nat_lt, Bool, true, false, not, cond, pos, negsuc, List, [], ◌∷◌, ◌++◌, length, map, slice_index, slice_get, position, codes, Option, Some, None, Result, Ok, Err, refl, sym, ◌∙◌, ap, subst, arith, append_assoc, append-nil, ltb-true}
use Rattle.std.proofs.lemmas.Bool.Decides.{nat_tests}
use Rattle.std.proofs.lemmas.Fmt.{decimal_is_IsNumeral}
use Rattle.std.proofs.lemmas.List.{length-append}
use Rattle.std.proofs.lemmas.Slice.Eq.{bytes_eq-Decides}
use Rattle.std.specs.Char.{is_ascii_digit}
use Rattle.std.specs.Fmt.{decimal}
use Rattle.std.specs.List.{prefix_len}
use Rattle.std.specs.Option.{option_map}
use Rattle.std.specs.Str.{bytes_eq}
use Rattle.std.specs.Str.Parse.{IsNumeral}
use Rattle.row_types.specs.declared.rows.Kind.{Kind}
use Rattle.row_types.specs.declared.rows.Kind.TheVariants as kind
use Rattle.row_types.specs.declared.rows.Field.{Field}
use Rattle.row_types.specs.declared.rows.Field.TheVariants as field
use Rattle.row_types.specs.declared.filters.Operand.{Operand}
use Rattle.row_types.specs.declared.filters.Operand.TheVariants.{Key, Column}
use Rattle.row_types.specs.declared.filters.CompareOp.{CompareOp}
use Rattle.row_types.specs.declared.filters.CompareOp.TheVariants.{Equal, NotEqual, Less, LessEqual, Greater, GreaterEqual}
use Rattle.row_types.specs.Schemas.{Columns, is_kind}
use Rattle.filter_expr.specs.declared.refusals.FilterError.{FilterError}
use Rattle.filter_expr.specs.declared.refusals.FilterError.TheVariants.{KindMismatch}
use Rattle.filter_expr.specs.declared.tokens.Sign.TheVariants.{Or, And, Not, Open, Comma, ListClose, ListOpen, Close}
use Rattle.filter_expr.specs.declared.tokens.Token.{Token}
use Rattle.filter_expr.specs.declared.tokens.Token.TheVariants as token
use Rattle.filter_expr.specs.declared.tokens.Placed.{Placed}
use Rattle.filter_expr.specs.Grammar.{Tokens, Outcome, and_then, same_sign, sees, column_at, operand_of, literal_of, choices_from, choices_after, choices}
use Rattle.filter_expr.specs.Printing.{literal_text, operand_text, name_of, op_text, each_behind, separated}
use Rattle.filter_expr.specs.Tokens.{is_letter, token_at}
use Rattle.filter_expr.proofs.Lexing.{digit_first}
use Rattle.filter_expr.proofs.Pieces.{IsName, IsSpelled, Breaks, Lexes, name_piece, literal_piece, piece_lexes, space_lexes}
use Rattle.filter_expr.proofs.GoodTokens.{IsGood}

abbrev pub placed : Token → ℕ → Placed
placed t at = record { token = t; at = at }

-- ---- signs and operators

pub sign_pieces : (y : List ℕ) →
    (token_at (40 ∷ y) ≡ Some (token.Sign Open, 1)) × (token_at (41 ∷ y) ≡ Some (token.Sign Close, 1)) × (token_at (91 ∷ y) ≡ Some (token.Sign ListOpen, 1))
    × (token_at (93 ∷ y) ≡ Some (token.Sign ListClose, 1)) × (token_at (44 ∷ y) ≡ Some (token.Sign Comma, 1))
    × (token_at (38 ∷ 38 ∷ y) ≡ Some (token.Sign And, 2)) × (token_at (124 ∷ 124 ∷ y) ≡ Some (token.Sign Or, 2))
unfolding token_at
sign_pieces y = (refl, refl, refl, refl, refl, refl, refl)

pub not_piece : (y : List ℕ) → (slice_index y 0 == 61) ≡ false → token_at (33 ∷ y) ≡ Some (token.Sign Not, 1)
unfolding token_at
not_piece y h = rw h refl

op_piece : (op : CompareOp) (y : List ℕ) → token_at (op_text op ++ 32 ∷ y) ≡ Some (token.Compare op, length (op_text op))
unfolding token_at
op_piece Equal y = refl
op_piece NotEqual y = refl
op_piece Less y = refl
op_piece LessEqual y = refl
op_piece Greater y = refl
op_piece GreaterEqual y = refl

op_begins : (op : CompareOp) → (0 < length (op_text op)) × ((slice_index (op_text op) 0 == 32) ≡ false)
op_begins Equal = (omega arith, refl)
op_begins NotEqual = (omega arith, refl)
op_begins Less = (omega arith, refl)
op_begins LessEqual = (omega arith, refl)
op_begins Greater = (omega arith, refl)
op_begins GreaterEqual = (omega arith, refl)

-- ---- names

letter_begins : (b : ℕ) → is_letter b ≡ true → ((b == 32) ≡ false) × ((b == 61) ≡ false)
letter_begins b h = (grind (arith, nat_tests), grind (arith, nat_tests))

some_name : (name : List ℕ) → is_letter (slice_index name 0) ≡ true → 0 < length name
some_name [] h = let bad : ⊥ = cc in absurd bad
some_name (x ∷ xs) h = omega arith

pub name_begins : (name : List ℕ) → IsName name → (0 < length name) × ((slice_index name 0 == 32) ≡ false) × ((slice_index name 0 == 61) ≡ false)
name_begins name h = let l = letter_begins (slice_index name 0) h.1 in (some_name name h.1, l.0, l.1)

pub name_lexes : (at : ℕ) (name z : List ℕ) (rest : Tokens) → IsGood (token.Name name) → Breaks z → Lexes (at + length name) z rest → Lexes at (name ++ z) (placed (token.Name name) at ∷ rest)
name_lexes at name z rest good b l =
    let begins = name_begins name good.0 in
    piece_lexes at name z (token.Name name) rest begins.0 begins.1 (name_piece name z good.0 b ∙ ap (λ t. Some (t, length name)) good.1) l

at_position : (p : List ℕ × Kind → Bool) (xs : Columns) (c : List ℕ × Kind) → slice_get xs (prefix_len (λ x. not (p x)) xs) ≡ Some c → p c ≡ true
at_position p [] c h = let bad : ⊥ = cc in absurd bad
at_position p (x ∷ xs) c h = by (p x) refl (at_position p xs c) h
  where
    by : (b : Bool) → p x ≡ b → (slice_get xs (prefix_len (λ x. not (p x)) xs) ≡ Some c → p c ≡ true) → slice_get (x ∷ xs) (cond (not b) (1 + prefix_len (λ x. not (p x)) xs) 0) ≡ Some c → p c ≡ true
    by true e go h = let same : x ≡ c = cc in subst (λ y. p y ≡ true) same e
    by false e go h =
        let one : 1 + prefix_len (λ x. not (p x)) xs ≡ suc (prefix_len (λ x. not (p x)) xs) = omega arith in
        go (subst (λ n. slice_get (x ∷ xs) n ≡ Some c) one h)

named_text : (columns : Columns) (name : List ℕ) (at : ℕ) (o : Operand × Kind) (x : Option (List ℕ × Kind)) → slice_get columns at ≡ x → ((c : List ℕ × Kind) → x ≡ Some c → c.0 ≡ name)
    → option_map (λ column. (Column at, column.1)) x ≡ Some o → operand_text columns o.0 ≡ name
named_text columns name at o None is found h = let bad : ⊥ = cc in absurd bad
named_text columns name at o (Some c) is found h =
    let same : (Column at, c.1) ≡ o = cc in
    subst (λ (q : Operand × Kind). operand_text columns q.0 ≡ name) same (ap name_of is ∙ found c refl)

small_text : (b : Bool) (columns : Columns) (name : List ℕ) (at : ℕ) (o : Operand × Kind) → ((c : List ℕ × Kind) → slice_get columns at ≡ Some c → c.0 ≡ name)
    → cond {A = Option (Operand × Kind)} b (option_map (λ column. (Column at, column.1)) (slice_get columns at)) None ≡ Some o → operand_text columns o.0 ≡ name
small_text true columns name at o found h = named_text columns name at o (slice_get columns at) refl found h
small_text false columns name at o found h = let bad : ⊥ = cc in absurd bad

column_text : (b : Bool) (columns : Columns) (name : List ℕ) (at : ℕ) (o : Operand × Kind) → ((c : List ℕ × Kind) → slice_get columns at ≡ Some c → c.0 ≡ name)
    → column_at columns (cond b (Some at) None) ≡ Some o → operand_text columns o.0 ≡ name
column_text true columns name at o found h = small_text (nat_lt at (2 ^ 32)) columns name at o found h
column_text false columns name at o found h = let bad : ⊥ = cc in absurd bad

key_text : (b : Bool) (columns : Columns) (name : List ℕ) (o : Operand × Kind) → bytes_eq name (codes "key") ≡ b
    → cond {A = Option (Operand × Kind)} b (Some (Key, kind.Int)) (column_at columns (position (λ column. bytes_eq column.0 name) columns)) ≡ Some o → operand_text columns o.0 ≡ name
key_text true columns name o e h =
    let same : (Key, kind.Int) ≡ o = cc in
    subst (λ (q : Operand × Kind). operand_text columns q.0 ≡ name) same (sym ((bytes_eq-Decides name (codes "key")).0 e))
key_text false columns name o e h =
    let p : List ℕ × Kind → Bool = λ column. bytes_eq column.0 name in
    column_text (nat_lt (prefix_len (λ x. not (p x)) columns) (length columns)) columns name (prefix_len (λ x. not (p x)) columns) o (λ c is. (bytes_eq-Decides c.0 name).0 (at_position p columns c is)) h

-- an operand is written as the name that it was read from
pub operand_named : (columns : Columns) (name : List ℕ) (o : Operand × Kind) → operand_of columns name ≡ Some o → operand_text columns o.0 ≡ name
unfolding operand_of
operand_named columns name o h = key_text (bytes_eq name (codes "key")) columns name o refl h

-- ---- literals

digit_begins : (b : ℕ) → is_ascii_digit b ≡ true → (b == 32) ≡ false
digit_begins b h = grind (arith, nat_tests)

numeral_begins : (ds : List ℕ) → IsNumeral 10 ds → (0 < length ds) × ((slice_index ds 0 == 32) ≡ false)
numeral_begins [] h = absurd (omega (arith, h.0))
numeral_begins (d ∷ ds) h = (h.0, digit_begins d (digit_first d h.1.0))

small : (n : ℕ) → nat_lt n (2 ^ 63) ≡ true → n < 2 ^ 64
small n h = omega (arith, ltb-true n (2 ^ 63) h)

literal_begins : (f : Field) → IsSpelled f → (0 < length (literal_text f)) × ((slice_index (literal_text f) 0 == 32) ≡ false)
literal_begins (field.Int (pos n)) h = numeral_begins (decimal n) (decimal_is_IsNumeral n (small n h)).0
literal_begins (field.Int (negsuc n)) h = (omega arith, refl)
literal_begins (field.Bool true) h = (omega arith, refl)
literal_begins (field.Bool false) h = (omega arith, refl)
literal_begins (field.Text t) h = (omega arith, refl)

pub literal_lexes : (at : ℕ) (f : Field) (z : List ℕ) (rest : Tokens) → IsSpelled f → Breaks z → Lexes (at + length (literal_text f)) z rest → Lexes at (literal_text f ++ z) (placed (token.Literal f) at ∷ rest)
literal_lexes at f z rest h b l = let begins = literal_begins f h in piece_lexes at (literal_text f) z (token.Literal f) rest begins.0 begins.1 (literal_piece f z h b) l

-- a name, an operator and a literal
pub compare_lexes : (at : ℕ) (name : List ℕ) (op : CompareOp) (f : Field) (z : List ℕ) (rest : Tokens) → IsGood (token.Name name) → IsSpelled f → Breaks z
    → Lexes (at + length name + 1 + length (op_text op) + 1 + length (literal_text f)) z rest
    → Lexes at (name ++ 32 ∷ (op_text op ++ 32 ∷ (literal_text f ++ z))) (placed (token.Name name) at ∷ placed (token.Compare op) (at + length name + 1) ∷ placed (token.Literal f) (at + length name + 1 + length (op_text op) + 1) ∷ rest)
compare_lexes at name op f z rest good spelled b l =
    let begins = op_begins op in
    let right = literal_lexes (at + length name + 1 + length (op_text op) + 1) f z rest spelled b l in
    let ts = placed (token.Literal f) (at + length name + 1 + length (op_text op) + 1) ∷ rest in
    let middle = piece_lexes (at + length name + 1) (op_text op) (32 ∷ (literal_text f ++ z)) (token.Compare op) ts begins.0 begins.1 (op_piece op (literal_text f ++ z)) (space_lexes (at + length name + 1 + length (op_text op)) (literal_text f ++ z) ts right) in
    let us = placed (token.Compare op) (at + length name + 1) ∷ ts in
    name_lexes at name (32 ∷ (op_text op ++ 32 ∷ (literal_text f ++ z))) us good refl (space_lexes (at + length name) (op_text op ++ 32 ∷ (literal_text f ++ z)) us middle)

-- ---- lists of literals

abbrev pub AllChoices : Kind → List Field → Type 0
AllChoices k [] = Unit {0}
AllChoices k (f ∷ fs) = (IsSpelled f × (is_kind k f ≡ true)) × AllChoices k fs

abbrev tail_text : List Field → List ℕ
tail_text fs = each_behind (44 ∷ 32 ∷ []) (map literal_text fs)

literal_read : (end : ℕ) (k : Kind) (f : Field) (at : ℕ) → is_kind k f ≡ true → literal_of end k at (token.Literal f) ≡ Ok f
literal_read end k f at h = ap (λ b. cond {A = Result Field FilterError} b (Ok f) (Err (KindMismatch at))) h

from_literal : (end : ℕ) (k : Kind) (found : List Field) (f : Field) (at : ℕ) (ts : Tokens) (o : Outcome (List Field)) → is_kind k f ≡ true → choices_after end k (found ++ f ∷ []) ts ≡ o → choices_from end k found (placed (token.Literal f) at ∷ ts) ≡ o
from_literal end k found f at ts o h e = ap (λ r. and_then {B = List Field × Tokens} r (λ g. choices_after end k (found ++ g ∷ []) ts)) (literal_read end k f at h) ∙ e

after_comma : (end : ℕ) (k : Kind) (found : List Field) (at : ℕ) (ts : Tokens) → choices_after end k found (placed (token.Sign Comma) at ∷ ts) ≡ choices_from end k found ts
unfolding same_sign
after_comma end k found at ts = refl

after_close : (end : ℕ) (k : Kind) (found : List Field) (at : ℕ) (ts : Tokens) → choices_after end k found (placed (token.Sign ListClose) at ∷ ts) ≡ Ok (found, ts)
unfolding same_sign
after_close end k found at ts = refl

choices_none : (end : ℕ) (k : Kind) (at : ℕ) (ts : Tokens) → choices end k (placed (token.Sign ListClose) at ∷ ts) ≡ Ok ([], ts)
unfolding choices sees same_sign
choices_none end k at ts = refl

choices_some : (end : ℕ) (k : Kind) (f : Field) (at : ℕ) (ts : Tokens) → choices end k (placed (token.Literal f) at ∷ ts) ≡ choices_from end k [] (placed (token.Literal f) at ∷ ts)
unfolding choices sees same_sign
choices_some end k f at ts = refl

longer : (m n : ℕ) → m ≤ n → m ≤ suc n
longer m n h = omega arith

longer_by_two : (m n : ℕ) → m ≤ n → m ≤ suc (suc n)
longer_by_two m n h = omega arith

abbrev TailAgain : ℕ → Kind → List Field → List Field → ℕ → List ℕ → Tokens → Type 0
TailAgain end k found fs at z rest =
    (ts : Tokens) × Lexes at (tail_text fs ++ 93 ∷ z) ts × (choices_after end k found ts ≡ Ok (found ++ fs, rest)) × Breaks (tail_text fs ++ 93 ∷ z) × (length rest ≤ length ts)

tail_again : (end : ℕ) (k : Kind) (fs found : List Field) (at : ℕ) (z : List ℕ) (rest : Tokens) → AllChoices k fs → Lexes (at + length (tail_text fs) + 1) z rest → TailAgain end k found fs at z rest
tail_again end k [] found at z rest h l =
    let e : at + 0 + 1 ≡ at + 1 = omega arith in (
      placed (token.Sign ListClose) at ∷ rest,
      piece_lexes at (93 ∷ []) z (token.Sign ListClose) rest (omega arith) refl (sign_pieces z).3 (subst (λ n. Lexes n z rest) e l),
      after_close end k found at rest ∙ ap (λ fs. Ok (fs, rest)) (sym (append-nil found)),
      refl,
      longer (length rest) (length rest) (omega arith),
    )
tail_again end k (f ∷ fs) found at z rest h l =
    let t = literal_text f in
    let e : at + suc (suc (length (t ++ tail_text fs))) + 1 ≡ at + 1 + 1 + length t + length (tail_text fs) + 1 = omega (arith, length-append t (tail_text fs)) in
    let i = tail_again end k fs (found ++ f ∷ []) (at + 1 + 1 + length t) z rest h.1 (subst (λ n. Lexes n z rest) e l) in
    let lit = literal_lexes (at + 1 + 1) f (tail_text fs ++ 93 ∷ z) i.0 h.0.0 i.3 i.1 in
    let all = piece_lexes at (44 ∷ []) (32 ∷ (t ++ (tail_text fs ++ 93 ∷ z))) (token.Sign Comma) (placed (token.Literal f) (at + 1 + 1) ∷ i.0) (omega arith) refl (sign_pieces (32 ∷ (t ++ (tail_text fs ++ 93 ∷ z)))).4 (space_lexes (at + 1) (t ++ (tail_text fs ++ 93 ∷ z)) (placed (token.Literal f) (at + 1 + 1) ∷ i.0) lit) in (
      placed (token.Sign Comma) at ∷ placed (token.Literal f) (at + 1 + 1) ∷ i.0,
      subst (λ y. Lexes at (44 ∷ 32 ∷ y) (placed (token.Sign Comma) at ∷ placed (token.Literal f) (at + 1 + 1) ∷ i.0)) (sym (append_assoc t (tail_text fs) (93 ∷ z))) all,
      after_comma end k found at (placed (token.Literal f) (at + 1 + 1) ∷ i.0) ∙ from_literal end k found f (at + 1 + 1) i.0 (Ok ((found ++ f ∷ []) ++ fs, rest)) h.0.1 i.2 ∙ ap (λ fs. Ok (fs, rest)) (append_assoc found (f ∷ []) fs),
      refl,
      longer_by_two (length rest) (length i.0) i.4,
    )

-- a list behind its `[`
pub choices_again : (end : ℕ) (k : Kind) (fs : List Field) (at : ℕ) (z : List ℕ) (rest : Tokens) → AllChoices k fs → Lexes (at + length (separated (44 ∷ 32 ∷ []) (map literal_text fs)) + 1) z rest
    → (ts : Tokens) × Lexes at (separated (44 ∷ 32 ∷ []) (map literal_text fs) ++ 93 ∷ z) ts × (choices end k ts ≡ Ok (fs, rest)) × (length rest ≤ length ts)
choices_again end k [] at z rest h l =
    let e : at + 0 + 1 ≡ at + 1 = omega arith in (
      placed (token.Sign ListClose) at ∷ rest,
      piece_lexes at (93 ∷ []) z (token.Sign ListClose) rest (omega arith) refl (sign_pieces z).3 (subst (λ n. Lexes n z rest) e l),
      choices_none end k at rest,
      longer (length rest) (length rest) (omega arith),
    )
choices_again end k (f ∷ fs) at z rest h l =
    let t = literal_text f in
    let e : at + length (t ++ tail_text fs) + 1 ≡ at + length t + length (tail_text fs) + 1 = omega (arith, length-append t (tail_text fs)) in
    let i = tail_again end k fs (f ∷ []) (at + length t) z rest h.1 (subst (λ n. Lexes n z rest) e l) in
    let lit = literal_lexes at f (tail_text fs ++ 93 ∷ z) i.0 h.0.0 i.3 i.1 in (
      placed (token.Literal f) at ∷ i.0,
      subst (λ y. Lexes at y (placed (token.Literal f) at ∷ i.0)) (sym (append_assoc t (tail_text fs) (93 ∷ z))) lit,
      choices_some end k f at i.0 ∙ from_literal end k [] f at i.0 (Ok (f ∷ fs, rest)) h.0.1 i.2,
      longer (length rest) (length i.0) i.4,
    )
