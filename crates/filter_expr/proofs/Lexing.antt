-- Names and numbers are ASCII, and a number's digits are a numeral; tokens follow one another.
use Rattle.std.proofs.Common.{◌≡◌, ℕ, zero, suc, ◌+◌, ◌-◌, ◌<◌, ◌≤◌, ◌==◌, Bool, true, false, cond, List, [], ◌∷◌, ◌++◌, length, take, drop, slice_index, Some, None, Err, refl, sym, ◌∙◌, ap, subst, arith}
use Rattle.std.proofs.lemmas.Bool.Decides.{nat_tests}
use Rattle.std.proofs.lemmas.Str.{IsUtf8-from_ascii, IsUtf8-from_is_utf8, is_utf8-from_IsUtf8}
use Rattle.std.proofs.lemmas.List.Folds.{length-prefix_len}
use Rattle.std.proofs.lemmas.List.{drop-drop, length-drop}
use Rattle.std.specs.Char.{is_ascii_digit, digit_value}
use Rattle.std.specs.List.{prefix_len}
use Rattle.std.specs.Str.{IsUtf8, is_utf8}
use Rattle.std.specs.Str.Parse.{IsNumeral, AllDigits, without_leading_sign}
use Rattle.filter_expr.specs.Tokens.{is_name_byte, name_len, sign_len, digits_len, tokens_from, token_at, text_token}
use Rattle.row_types.specs.declared.rows.Field.TheVariants as field
use Rattle.filter_expr.specs.declared.tokens.Placed.{Placed}
use Rattle.filter_expr.specs.declared.tokens.Token.{Token}
use Rattle.filter_expr.specs.declared.tokens.Token.TheVariants.{Literal}
use Rattle.filter_expr.specs.declared.refusals.FilterError.TheVariants.{BadToken}

-- each byte is below 128
abbrev pub AllLow : List ℕ → Type 0
AllLow [] = Unit {0}
AllLow (b ∷ bs) = (b < 128) × AllLow bs

low_at : (bs : List ℕ) → AllLow bs → (i : ℕ) → slice_index bs i < 128
low_at [] h i = omega arith
low_at (b ∷ bs) h zero = h.0
low_at (b ∷ bs) h (suc i) = low_at bs h.1 i

pub utf8_of_low : (bs : List ℕ) → AllLow bs → IsUtf8 bs
utf8_of_low bs h = IsUtf8-from_ascii bs (low_at bs h)

low_name_byte : (b : ℕ) → is_name_byte b ≡ true → b < 128
low_name_byte b h = grind (arith, nat_tests)

low_digit : (b : ℕ) → is_ascii_digit b ≡ true → b < 128
low_digit b h = grind (arith, nat_tests)

digit_below_ten : (b : ℕ) → is_ascii_digit b ≡ true → digit_value b < 10
digit_below_ten b h = grind (arith, nat_tests)

pub digit_first : (c : ℕ) → digit_value c < 10 → is_ascii_digit c ≡ true
digit_first c h = grind (arith, nat_tests)

one_more : (n : ℕ) → suc n ≡ 1 + n
one_more n = omega arith

-- the bytes at the front that pass a test are low, if each that passes is
low_front : (p : ℕ → Bool) → ((b : ℕ) → p b ≡ true → b < 128) → (z : List ℕ) → AllLow (take (prefix_len p z) z)
low_front p low [] = tt
low_front p low (b ∷ z) = by (low_front p low z) (p b) refl
  where
    by : AllLow (take (prefix_len p z) z) → (t : Bool) → p b ≡ t → AllLow (take (cond t (1 + prefix_len p z) 0) (b ∷ z))
    by rest true e =
        let P : ℕ → Type 0 = λ n. AllLow (take n (b ∷ z)) in
        subst P (one_more (prefix_len p z)) (low b e, rest)
    by rest false e = tt

digits_front : (z : List ℕ) → AllDigits 10 (take (prefix_len is_ascii_digit z) z)
digits_front [] = tt
digits_front (b ∷ z) = by (digits_front z) (is_ascii_digit b) refl
  where
    by : AllDigits 10 (take (prefix_len is_ascii_digit z) z) → (t : Bool) → is_ascii_digit b ≡ t → AllDigits 10 (take (cond t (1 + prefix_len is_ascii_digit z) 0) (b ∷ z))
    by rest true e =
        let P : ℕ → Type 0 = λ n. AllDigits 10 (take n (b ∷ z)) in
        subst P (one_more (prefix_len is_ascii_digit z)) (digit_below_ten b e, rest)
    by rest false e = tt

numeral_front : (z : List ℕ) → 0 < prefix_len is_ascii_digit z → IsNumeral 10 (take (prefix_len is_ascii_digit z) z)
numeral_front z h = (omega (arith, length-prefix_len is_ascii_digit z), digits_front z)

is_minus : (b : ℕ) → (b == 45) ≡ true → b < 128
is_minus b h = grind (arith, nat_tests)

pub not_minus : (b : ℕ) → is_ascii_digit b ≡ true → (b == 45) ≡ false
not_minus b h = grind (arith, nat_tests)

pub not_plus : (b : ℕ) → is_ascii_digit b ≡ true → (b == 43) ≡ false
not_plus b h = grind (arith, nat_tests)

signed_numeral : (b : ℕ) (ds : List ℕ) → (b == 45) ≡ true → IsNumeral 10 ds → IsNumeral 10 (without_leading_sign (b ∷ ds))
signed_numeral b ds e h = rw e h

unsigned_numeral : (b : ℕ) (ds : List ℕ) → is_ascii_digit b ≡ true → IsNumeral 10 (b ∷ ds) → IsNumeral 10 (without_leading_sign (b ∷ ds))
unsigned_numeral b ds e h = rw (not_minus b e, not_plus b e) h

-- a sign and digits, as `parse` reads them
abbrev IsNumber : List ℕ → Type 0
IsNumber text = IsNumeral 10 (without_leading_sign text) × AllLow text

unsigned_number : (b : ℕ) (z : List ℕ) → 0 < prefix_len is_ascii_digit (b ∷ z) → IsNumber (take (prefix_len is_ascii_digit (b ∷ z)) (b ∷ z))
unsigned_number b z h = by (is_ascii_digit b) refl h (numeral_front (b ∷ z)) (low_front is_ascii_digit low_digit (b ∷ z))
  where
    by : (t : Bool) → is_ascii_digit b ≡ t
        → 0 < cond t (1 + prefix_len is_ascii_digit z) 0
        → (0 < cond t (1 + prefix_len is_ascii_digit z) 0 → IsNumeral 10 (take (cond t (1 + prefix_len is_ascii_digit z) 0) (b ∷ z)))
        → AllLow (take (cond t (1 + prefix_len is_ascii_digit z) 0) (b ∷ z))
        → IsNumber (take (cond t (1 + prefix_len is_ascii_digit z) 0) (b ∷ z))
    by false e h f g = absurd (omega arith)
    by true e h f g =
        let n = prefix_len is_ascii_digit z in
        let N : ℕ → Type 0 = λ n. IsNumeral 10 (take n (b ∷ z)) in
        let S : ℕ → Type 0 = λ n. IsNumeral 10 (without_leading_sign (take n (b ∷ z))) in
        (subst S (one_more n) (unsigned_numeral b (take n z) e (subst N (sym (one_more n)) (f h))), g)

pub number_text : (z : List ℕ) → 0 < digits_len z → IsNumber (take (sign_len z + digits_len z) z)
number_text [] h = absurd (omega arith)
number_text (b ∷ z) h = by (b == 45) refl h
  where
    by : (t : Bool) → (b == 45) ≡ t
        → 0 < prefix_len is_ascii_digit (drop (cond t 1 0) (b ∷ z))
        → IsNumber (take (cond t 1 0 + prefix_len is_ascii_digit (drop (cond t 1 0) (b ∷ z))) (b ∷ z))
    by true e h =
        let n = prefix_len is_ascii_digit z in
        let P : ℕ → Type 0 = λ n. IsNumber (take n (b ∷ z)) in
        subst P (one_more n) (signed_numeral b (take n z) e (numeral_front z h), (is_minus b e, low_front is_ascii_digit low_digit z))
    by false e h =
        let P : ℕ → Type 0 = λ n. IsNumber (take n (b ∷ z)) in
        let same : prefix_len is_ascii_digit (b ∷ z) ≡ 0 + prefix_len is_ascii_digit (b ∷ z) = omega arith in
        subst P same (unsigned_number b z h)

-- the bytes of a sign and of digits behind it are a number, and UTF-8
abbrev pub IsSpelling : List ℕ → Type 0
IsSpelling text = IsNumeral 10 (without_leading_sign text) × IsUtf8 text

pub spells : (z : List ℕ) (s n : ℕ) → s ≡ sign_len z → n ≡ prefix_len is_ascii_digit (drop s z) → (n ≡ 0 → ⊥) → IsSpelling (take (s + n) z)
spells z s n e d some =
    let all : n ≡ digits_len z = d ∙ ap (λ k. prefix_len is_ascii_digit (drop k z)) e in
    let text : IsNumber (take (s + n) z) = rw (e, all) (number_text z (by n all some)) in
    (text.0, utf8_of_low _ text.1)
  where
    by : (n : ℕ) → n ≡ digits_len z → (n ≡ 0 → ⊥) → 0 < digits_len z
    by n all some = omega (arith, all, some)

pub utf8_name : (z : List ℕ) → IsUtf8 (take (name_len z) z)
utf8_name z = utf8_of_low _ (low_front is_name_byte low_name_byte z)

-- ---- texts

pub text_kept : (text bytes : List ℕ) (len : ℕ) → IsUtf8 bytes → text ≡ bytes → Some (Literal (field.Text text), len) ≡ text_token (Some (bytes, len))
text_kept text bytes len h e = rw (is_utf8-from_IsUtf8 bytes h, e)

no_text_test : (bytes : List ℕ) → (IsUtf8 bytes → false ≡ true) → (t : Bool) → is_utf8 bytes ≡ t → t ≡ false
no_text_test bytes none true e = sym (none (IsUtf8-from_is_utf8 bytes e))
no_text_test bytes none false e = refl

pub no_text : (bytes : List ℕ) (len : ℕ) → (IsUtf8 bytes → false ≡ true) → None ≡ text_token (Some (bytes, len))
no_text bytes len none = rw (no_text_test bytes none (is_utf8 bytes) refl)

-- ---- one token after another

-- the bytes that the last token has left are passed over
passed : (found : List Placed) (at left : ℕ) (z : List ℕ) → tokens_from found at left z ≡ tokens_from found (at + left) 0 (drop left z)
passed found at zero z = let e : at ≡ at + 0 = omega arith in ap (λ n. tokens_from found n 0 z) e
passed found at (suc left) [] = refl
passed found at (suc left) (b ∷ z) =
    let e : at + 1 + left ≡ at + suc left = omega arith in
    passed found (at + 1) left z ∙ ap (λ n. tokens_from found n 0 (drop left z)) e

pub token_goes : (found : List Placed) (at : ℕ) (z : List ℕ) (token : Token) (len : ℕ) → 0 < length z → (slice_index z 0 == 32) ≡ false → token_at z ≡ Some (token, len) → 1 ≤ len
    → tokens_from (found ++ record { token = token; at = at } ∷ []) (at + len) 0 (drop len z) ≡ tokens_from found at 0 z
token_goes found at [] token len some no_space is long = absurd (omega arith)
token_goes found at (b ∷ z) token zero some no_space is long = absurd (omega arith)
token_goes found at (b ∷ z) token (suc n) some no_space is long =
    let now = found ++ record { token = token; at = at } ∷ [] in
    let e : at + suc n ≡ at + 1 + n = omega arith in
    let d : n ≡ suc n - 1 = omega arith in
    rw (no_space, is) (ap (λ m. tokens_from now m 0 (drop n z)) e ∙ sym (passed now (at + 1) n z) ∙ ap (λ m. tokens_from now (at + 1) m z) d)

pub no_token : (found : List Placed) (at : ℕ) (z : List ℕ) → 0 < length z → (slice_index z 0 == 32) ≡ false → token_at z ≡ None → tokens_from found at 0 z ≡ Err (BadToken at)
no_token found at [] some no_space is = absurd (omega arith)
no_token found at (b ∷ z) some no_space is = rw (no_space, is)

first_after : (at : ℕ) (z : List ℕ) → slice_index (drop at z) 0 ≡ slice_index z at
first_after zero z = refl
first_after (suc at) [] = refl
first_after (suc at) (b ∷ z) = first_after at z

some_after : (at : ℕ) (z : List ℕ) → at < length z → 0 < length (drop at z)
some_after at z h = omega (arith, length-drop at z)

unequal : (a b : ℕ) → (a ≡ b → ⊥) → (a == b) ≡ false
unequal a b h = grind (arith, nat_tests)

no_space_after : (at : ℕ) (z : List ℕ) → (slice_index z at ≡ 32 → ⊥) → (slice_index (drop at z) 0 == 32) ≡ false
no_space_after at z h = rw (first_after at z) (unequal (slice_index z at) 32 h)

-- past a token at a place
pub goes_on : (found longer : List Placed) (at len : ℕ) (z : List ℕ) (token : Token) → at < length z → (slice_index z at ≡ 32 → ⊥) → token_at (drop at z) ≡ Some (token, len) → 1 ≤ len
    → longer ≡ found ++ record { token = token; at = at } ∷ []
    → tokens_from longer (at + len) 0 (drop (at + len) z) ≡ tokens_from found at 0 (drop at z)
goes_on found longer at len z token within no_space is long e =
    rw (e, ← drop-drop len at z) (token_goes found at (drop at z) token len (some_after at z within) (no_space_after at z no_space) is long)
