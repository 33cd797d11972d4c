-- The tokens of a filter's text: the longest that begins at each place, with spaces between.
use Rattle.std.specs.Prelude.{ℕ, zero, suc, ◌+◌, ◌-◌, ◌^◌, ◌==◌, nat_lt, Bool, true, false, ◌&&◌, ◌||◌, if◌then◌else◌, List, [], ◌∷◌, ◌++◌, take, drop, slice_index, codes, Option, Some, None, Result, Ok, Err, ℤ, pos, negsuc}
use Rattle.std.specs.Char.{is_ascii_digit, is_ascii_alphabetic, is_ascii_alphanumeric}
use Rattle.std.specs.List.{prefix_len}
use Rattle.std.specs.Str.{bytes_eq, is_utf8}
use Rattle.std.specs.Str.Parse.{signed_digits_value}
use Rattle.row_types.specs.declared.rows.Field.TheVariants as field
use Rattle.row_types.specs.declared.filters.CompareOp.TheVariants.{Equal, NotEqual, Less, LessEqual, Greater, GreaterEqual}
use Rattle.filter_expr.specs.declared.tokens.Sign.TheVariants.{Open, Close, ListOpen, ListClose, Comma, Or, And, Not, In}
use Rattle.filter_expr.specs.declared.tokens.Token.{Token}
use Rattle.filter_expr.specs.declared.tokens.Token.TheVariants.{Name, Literal, Compare, Sign}
use Rattle.filter_expr.specs.declared.tokens.Placed.{Placed}
use Rattle.filter_expr.specs.declared.refusals.FilterError.{FilterError}
use Rattle.filter_expr.specs.declared.refusals.FilterError.TheVariants.{BadToken}

-- a token that begins a text, and its length in bytes
abbrev pub Front : Type 0
Front = Option (Token × ℕ)

-- ---- names and words

abbrev pub is_letter : ℕ → Bool
is_letter b = is_ascii_alphabetic b || b == 95

abbrev pub is_name_byte : ℕ → Bool
is_name_byte b = is_ascii_alphanumeric b || b == 95

abbrev pub name_len : List ℕ → ℕ
name_len z = prefix_len is_name_byte z

-- some names are words of the language
abbrev pub word_of : List ℕ → Token
word_of name =
    if bytes_eq name (codes "and") then Sign And
    else (if bytes_eq name (codes "or") then Sign Or
    else (if bytes_eq name (codes "not") then Sign Not
    else (if bytes_eq name (codes "in") then Sign In
    else (if bytes_eq name (codes "true") then Literal (field.Bool true)
    else (if bytes_eq name (codes "false") then Literal (field.Bool false)
    else Name name)))))

abbrev pub word_at : List ℕ → Front
word_at z = Some (word_of (take (name_len z) z), name_len z)

-- ---- integers

abbrev pub fits_64_bits : ℤ → Bool
fits_64_bits (pos n) = nat_lt n (2 ^ 63)
fits_64_bits (negsuc n) = nat_lt n (2 ^ 63)

-- the integer that a sign and digits write
abbrev pub int_of : List ℕ → Option ℤ
int_of text = let n = signed_digits_value 10 text in if fits_64_bits n then Some n else None

abbrev pub int_token : ℕ → Option ℤ → Front
int_token len None = None
int_token len (Some n) = Some (Literal (field.Int n), len)

-- a minus sign takes a byte, and digits follow it
abbrev pub sign_len : List ℕ → ℕ
sign_len z = if slice_index z 0 == 45 then 1 else 0

abbrev pub digits_len : List ℕ → ℕ
digits_len z = prefix_len is_ascii_digit (drop (sign_len z) z)

abbrev pub number_at : List ℕ → Front
number_at z =
    let len = sign_len z + digits_len z in
    if digits_len z == 0 then None else int_token len (int_of (take len z))

-- ---- texts in quotes

-- The text up to the closing quote, after what was read of it and of `len` bytes. A backslash stands before a quote or a backslash.
abbrev pub quoted_from : Bool → List ℕ → ℕ → List ℕ → Option (List ℕ × ℕ)
quoted_from is_escaped text len [] = None
quoted_from true text len (b ∷ z) = if b == 34 || b == 92 then quoted_from false (text ++ b ∷ []) (len + 1) z else None
quoted_from false text len (b ∷ z) =
    if b == 34 then Some (text, len + 1)
    else (if b == 92 then quoted_from true text (len + 1) z else quoted_from false (text ++ b ∷ []) (len + 1) z)

-- what is no text has bytes that are no characters
abbrev pub text_token : Option (List ℕ × ℕ) → Front
text_token None = None
text_token (Some q) = if is_utf8 q.0 then Some (Literal (field.Text q.0), q.1) else None

abbrev pub text_at : List ℕ → Front
text_at z = text_token (quoted_from false [] 1 (drop 1 z))

-- ---- signs

abbrev pub sign_at : ℕ → ℕ → Front
sign_at b next =
    if b == 40 then Some (Sign Open, 1) else (if b == 41 then Some (Sign Close, 1)
    else (if b == 91 then Some (Sign ListOpen, 1) else (if b == 93 then Some (Sign ListClose, 1)
    else (if b == 44 then Some (Sign Comma, 1)
    else (if b == 61 && next == 61 then Some (Compare Equal, 2)
    else (if b == 33 then (if next == 61 then Some (Compare NotEqual, 2) else Some (Sign Not, 1))
    else (if b == 60 then (if next == 61 then Some (Compare LessEqual, 2) else Some (Compare Less, 1))
    else (if b == 62 then (if next == 61 then Some (Compare GreaterEqual, 2) else Some (Compare Greater, 1))
    else (if b == 38 && next == 38 then Some (Sign And, 2)
    else (if b == 124 && next == 124 then Some (Sign Or, 2) else None))))))))))

-- ---- all tokens

-- the longest token that begins a text
unfoldable pub token_at : List ℕ → Front
token_at z =
    let b = slice_index z 0 in
    if is_letter b then word_at z
    else (if is_ascii_digit b || b == 45 then number_at z
    else (if b == 34 then text_at z else sign_at b (slice_index z 1)))

-- reading goes on after a token, or stops where none begins
abbrev pub after_token : ℕ → Front → (Token → ℕ → Result (List Placed) FilterError) → Result (List Placed) FilterError
after_token at None next = Err (BadToken at)
after_token at (Some t) next = next t.0 t.1

-- The tokens found so far and those of the rest of a text, which begins at the place `at`. The last token still has `left` bytes of it.
abbrev pub tokens_from : List Placed → ℕ → ℕ → List ℕ → Result (List Placed) FilterError
tokens_from found at left [] = Ok found
tokens_from found at (suc left) (b ∷ z) = tokens_from found (at + 1) left z
tokens_from found at zero (b ∷ z) =
    if b == 32 then tokens_from found (at + 1) 0 z
    else after_token at (token_at (b ∷ z)) (λ token len. tokens_from (found ++ record { token = token; at = at } ∷ []) (at + 1) (len - 1) z)

-- the tokens of a text, or where the first of them fails to begin
unfoldable pub tokens_of : List ℕ → Result (List Placed) FilterError
tokens_of = tokens_from [] 0 0
