-- Which token a piece of a printed text is, whatever follows it, and how pieces follow one another.
use Rattle.std.proofs.Common.{◌≡◌, ℕ, zero, suc, ◌+◌, ◌-◌, ◌^◌, ◌<◌, ◌==◌, nat_lt, Bool, true, false, cond, ◌||◌, ℤ, pos, negsuc, neg_ℤ, List, [], ◌∷◌, ◌++◌, length, take, drop, slice_index, codes, Some, None, Result, Ok, Err, refl, sym, ◌∙◌, ap, ap₂, arith, append_assoc, append-nil, ltb-true}
use Rattle.std.proofs.Math.Seq.{take-append_seam, drop-append_seam}
use Rattle.std.proofs.lemmas.Bool.Decides.{nat_tests}
use Rattle.std.proofs.lemmas.Fmt.{decimal_is_IsNumeral}
use Rattle.std.proofs.lemmas.List.{length-append}
use Rattle.std.specs.Char.{is_ascii_digit, digit_value}
use Rattle.std.specs.Fmt.{decimal, signed_decimal}
use Rattle.std.specs.List.{prefix_len}
use Rattle.std.specs.Str.{is_utf8}
use Rattle.std.specs.Str.Parse.{AllDigits, IsNumeral, digits_value, signed_digits_value}
use Rattle.row_types.specs.declared.rows.Field.{Field}
use Rattle.row_types.specs.declared.rows.Field.TheVariants as field
use Rattle.filter_expr.specs.declared.tokens.Token.{Token}
use Rattle.filter_expr.specs.declared.tokens.Token.TheVariants.{Literal}
use Rattle.filter_expr.specs.declared.tokens.Placed.{Placed}
use Rattle.filter_expr.specs.declared.refusals.FilterError.{FilterError}
use Rattle.filter_expr.specs.Printing.{escaped, literal_text}
use Rattle.filter_expr.specs.Grammar.{Tokens, and_then}
use Rattle.filter_expr.specs.Tokens.{Front, is_letter, is_name_byte, word_of, word_at, fits_64_bits, int_of, int_token, sign_len, digits_len, number_at, quoted_from, text_token, token_at, after_token, tokens_from}
use Rattle.filter_expr.proofs.Lexing.{not_minus, not_plus, token_goes}

abbrev pub AllPass : (ℕ → Bool) → List ℕ → Type 0
AllPass p [] = Unit {0}
AllPass p (x ∷ xs) = (p x ≡ true) × AllPass p xs

-- a text that doesn't go on with a byte of a name
abbrev pub Breaks : List ℕ → Type 0
Breaks z = is_name_byte (slice_index z 0) ≡ false

prefix_all : (p : ℕ → Bool) (xs z : List ℕ) → AllPass p xs → p (slice_index z 0) ≡ false → prefix_len p (xs ++ z) ≡ length xs
prefix_all p [] [] h b = refl
prefix_all p [] (y ∷ z) h b = ap (λ t. cond t (1 + prefix_len p z) 0) b
prefix_all p (x ∷ xs) z h b =
    let e = prefix_all p xs z h.1 b in
    let long : 1 + prefix_len p (xs ++ z) ≡ suc (length xs) = omega (arith, e) in
    ap (λ t. cond t (1 + prefix_len p (xs ++ z)) 0) h.0 ∙ long

pub first_stays : (xs z : List ℕ) → 0 < length xs → slice_index (xs ++ z) 0 ≡ slice_index xs 0
first_stays [] z h = absurd (omega arith)
first_stays (x ∷ xs) z h = refl

-- ---- names

abbrev pub IsName : List ℕ → Type 0
IsName name = AllPass is_name_byte name × (is_letter (slice_index name 0) ≡ true)

token_word : (z : List ℕ) → is_letter (slice_index z 0) ≡ true → token_at z ≡ word_at z
unfolding token_at
token_word z h = rw h refl

pub name_piece : (name z : List ℕ) → IsName name → Breaks z → token_at (name ++ z) ≡ Some (word_of name, length name)
name_piece [] z h b = let none = h.1 in cc
name_piece (x ∷ xs) z h b =
    token_word (x ∷ (xs ++ z)) h.1
    ∙ ap (λ n. Some (word_of (take n (x ∷ (xs ++ z))), n)) (prefix_all is_name_byte (x ∷ xs) z h.0 b)
    ∙ ap (λ t. Some (word_of t, length (x ∷ xs))) (take-append_seam (x ∷ xs) z)

-- ---- integers

digit_is : (c : ℕ) → digit_value c < 10 → is_ascii_digit c ≡ true
digit_is c h = grind (arith, nat_tests)

digits_pass : (ds : List ℕ) → AllDigits 10 ds → AllPass is_ascii_digit ds
digits_pass [] h = tt
digits_pass (d ∷ ds) h = (digit_is d h.0, digits_pass ds h.1)

no_digit : (b : ℕ) → is_name_byte b ≡ false → is_ascii_digit b ≡ false
no_digit b h = grind (arith, nat_tests)

digit_no_letter : (b : ℕ) → is_ascii_digit b ≡ true → is_letter b ≡ false
digit_no_letter b h = grind (arith, nat_tests)

token_digits : (z : List ℕ) → is_letter (slice_index z 0) ≡ false → is_ascii_digit (slice_index z 0) ≡ true → token_at z ≡ number_at z
unfolding token_at
token_digits z a b = rw (a, b) refl

token_minus : (z : List ℕ) → token_at (45 ∷ z) ≡ number_at (45 ∷ z)
unfolding token_at
token_minus z = refl

not_none : (n : ℕ) → 0 < n → (n == 0) ≡ false
not_none n h = grind (arith, nat_tests)

int_is : (text : List ℕ) (v : ℤ) → signed_digits_value 10 text ≡ v → fits_64_bits v ≡ true → int_of text ≡ Some v
int_is text v e h = ap (λ n. cond (fits_64_bits n) (Some n) None) e ∙ ap (λ b. cond b (Some v) None) h

abbrev number_by : List ℕ → ℕ → ℕ → Front
number_by z s n = cond (n == 0) None (int_token (s + n) (int_of (take (s + n) z)))

number_is : (z : List ℕ) (s n : ℕ) (text : List ℕ) (v : ℤ) → sign_len z ≡ s → prefix_len is_ascii_digit (drop s z) ≡ n → 0 < n → take (s + n) z ≡ text → signed_digits_value 10 text ≡ v → fits_64_bits v ≡ true
    → number_at z ≡ Some (Literal (field.Int v), s + n)
number_is z s n text v se ne some te ve fits =
    let d : digits_len z ≡ n = ap (λ k. prefix_len is_ascii_digit (drop k z)) se ∙ ne in
    ap₂ (number_by z) se d
    ∙ ap (λ b. cond b None (int_token (s + n) (int_of (take (s + n) z)))) (not_none n some)
    ∙ ap (λ t. int_token (s + n) (int_of t)) te
    ∙ ap (int_token (s + n)) (int_is text v ve fits)

unsigned_value : (x : ℕ) (xs : List ℕ) → is_ascii_digit x ≡ true → signed_digits_value 10 (x ∷ xs) ≡ pos (digits_value 10 (x ∷ xs))
unsigned_value x xs h = rw (not_minus x h, not_plus x h) refl

unsigned_piece : (ds z : List ℕ) (n : ℕ) → IsNumeral 10 ds → digits_value 10 ds ≡ n → fits_64_bits (pos n) ≡ true → Breaks z → token_at (ds ++ z) ≡ Some (Literal (field.Int (pos n)), length ds)
unsigned_piece [] z n h e fits b = absurd (omega (arith, h.0))
unsigned_piece (x ∷ xs) z n h e fits b =
    let digit = digit_is x h.1.0 in
    let none : 0 + length (x ∷ xs) ≡ length (x ∷ xs) = omega arith in
    let found = number_is (x ∷ (xs ++ z)) 0 (length (x ∷ xs)) (x ∷ xs) (pos n)
    (ap (λ t. cond t 1 0) (not_minus x digit))
    (prefix_all is_ascii_digit (x ∷ xs) z (digits_pass (x ∷ xs) h.1) (no_digit (slice_index z 0) b))
    (omega arith)
    (ap (λ k. take k (x ∷ (xs ++ z))) none ∙ take-append_seam (x ∷ xs) z)
    (unsigned_value x xs digit ∙ ap pos e)
    fits in
    token_digits (x ∷ (xs ++ z)) (digit_no_letter x digit) digit ∙ found ∙ ap (λ k. Some (Literal (field.Int (pos n)), k)) none

signed_piece : (ds z : List ℕ) (n : ℕ) → IsNumeral 10 ds → digits_value 10 ds ≡ suc n → fits_64_bits (negsuc n) ≡ true → Breaks z → token_at (45 ∷ (ds ++ z)) ≡ Some (Literal (field.Int (negsuc n)), suc (length ds))
signed_piece ds z n h e fits b =
    let one : 1 + length ds ≡ suc (length ds) = omega arith in
    let found = number_is (45 ∷ (ds ++ z)) 1 (length ds) (45 ∷ ds) (negsuc n)
    refl
    (prefix_all is_ascii_digit ds z (digits_pass ds h.1) (no_digit (slice_index z 0) b))
    h.0
    (ap (λ k. take k (45 ∷ (ds ++ z))) one ∙ ap (λ t. 45 ∷ t) (take-append_seam ds z))
    (ap (λ k. neg_ℤ (pos k)) e)
    fits in
    token_minus (ds ++ z) ∙ found ∙ ap (λ k. Some (Literal (field.Int (negsuc n)), k)) one

within : (n : ℕ) → nat_lt n (2 ^ 63) ≡ true → suc n < 2 ^ 64
within n h = omega (arith, ltb-true n (2 ^ 63) h)

int_piece : (n : ℤ) (z : List ℕ) → fits_64_bits n ≡ true → Breaks z → token_at (signed_decimal n ++ z) ≡ Some (Literal (field.Int n), length (signed_decimal n))
int_piece (pos n) z fits b = let d = decimal_is_IsNumeral n (omega (arith, within n fits)) in unsigned_piece (decimal n) z n d.0 d.1 fits b
int_piece (negsuc n) z fits b = let d = decimal_is_IsNumeral (suc n) (within n fits) in signed_piece (decimal (suc n)) z n d.0 d.1 fits b

-- ---- texts in quotes

or_left : (a b : Bool) → (a || b) ≡ false → a ≡ false
or_left false b h = refl
or_left true b h = h

or_right : (a b : Bool) → (a || b) ≡ false → b ≡ false
or_right false b h = h
or_right true false h = refl
or_right true true h = h

quoted_rest : (t z found : List ℕ) (len : ℕ) → quoted_from false found len (escaped t ++ 34 ∷ z) ≡ Some (found ++ t, len + length (escaped t) + 1)
quoted_rest [] z found len =
    let e : len + 1 ≡ len + 0 + 1 = omega arith in
    ap₂ (λ (f : List ℕ) (n : ℕ). Some (f, n)) (sym (append-nil found)) e
quoted_rest (x ∷ t) z found len = by (x == 34 || x == 92) refl (quoted_rest t z (found ++ x ∷ []))
  where
    by : (b : Bool) → (x == 34 || x == 92) ≡ b → ((n : ℕ) → quoted_from false (found ++ x ∷ []) n (escaped t ++ 34 ∷ z) ≡ Some ((found ++ x ∷ []) ++ t, n + length (escaped t) + 1))
        → quoted_from false found len (cond {A = List ℕ} b (92 ∷ x ∷ escaped t) (x ∷ escaped t) ++ 34 ∷ z) ≡ Some (found ++ x ∷ t, len + length (cond {A = List ℕ} b (92 ∷ x ∷ escaped t) (x ∷ escaped t)) + 1)
    by true e go =
        let n : len + 1 + 1 + length (escaped t) + 1 ≡ len + suc (suc (length (escaped t))) + 1 = omega arith in
        ap (λ b. cond b (quoted_from false (found ++ x ∷ []) (len + 1 + 1) (escaped t ++ 34 ∷ z)) None) e
        ∙ go (len + 1 + 1)
        ∙ ap₂ (λ (f : List ℕ) (n : ℕ). Some (f, n)) (append_assoc found (x ∷ []) t) n
    by false e go =
        let n : len + 1 + length (escaped t) + 1 ≡ len + suc (length (escaped t)) + 1 = omega arith in
        rw (or_left (x == 34) (x == 92) e, or_right (x == 34) (x == 92) e)
        (go (len + 1) ∙ ap₂ (λ (f : List ℕ) (n : ℕ). Some (f, n)) (append_assoc found (x ∷ []) t) n)

token_quote : (z : List ℕ) → token_at (34 ∷ z) ≡ text_token (quoted_from false [] 1 z)
unfolding token_at
token_quote z = refl

text_piece : (t z : List ℕ) → is_utf8 t ≡ true → token_at (34 ∷ (escaped t ++ 34 ∷ z)) ≡ Some (Literal (field.Text t), 1 + length (escaped t) + 1)
text_piece t z h =
    token_quote (escaped t ++ 34 ∷ z) ∙ ap text_token (quoted_rest t z [] 1)
    ∙ ap (λ b. cond b (Some (Literal (field.Text t), 1 + length (escaped t) + 1)) None) h

-- ---- literals

-- a literal that a text can spell
abbrev pub IsSpelled : Field → Type 0
IsSpelled (field.Int n) = fits_64_bits n ≡ true
IsSpelled (field.Bool b) = Unit {0}
IsSpelled (field.Text t) = is_utf8 t ≡ true

pub literal_piece : (f : Field) (z : List ℕ) → IsSpelled f → Breaks z → token_at (literal_text f ++ z) ≡ Some (Literal f, length (literal_text f))
literal_piece (field.Int n) z h b = int_piece n z h b
literal_piece (field.Bool true) z h b = name_piece (codes "true") z ((refl, (refl, (refl, (refl, tt)))), refl) b
literal_piece (field.Bool false) z h b = name_piece (codes "false") z ((refl, (refl, (refl, (refl, (refl, tt))))), refl) b
literal_piece (field.Text t) z h b =
    let long : 1 + length (escaped t) + 1 ≡ suc (length (escaped t ++ 34 ∷ [])) = omega (arith, length-append (escaped t) (34 ∷ [])) in
    ap (λ y. token_at (34 ∷ y)) (append_assoc (escaped t) (34 ∷ []) z) ∙ text_piece t z h ∙ ap (λ k. Some (Literal (field.Text t), k)) long

-- ---- one piece after another

-- the tokens of a text from a place on
abbrev pub Lexes : ℕ → List ℕ → Tokens → Type 0
Lexes at z ts = tokens_from [] at 0 z ≡ Ok ts

rejoin : (found : Tokens) (p : Placed) (o : Result Tokens FilterError) → and_then o (λ ts. Ok ((found ++ p ∷ []) ++ ts)) ≡ and_then {A = Tokens} (and_then o (λ ts. Ok ((p ∷ []) ++ ts))) (λ ts. Ok (found ++ ts))
rejoin found p (Ok ts) = ap Ok (append_assoc found (p ∷ []) ts)
rejoin found p (Err e) = refl

with_found : (found : Tokens) (at left : ℕ) (z : List ℕ) → tokens_from found at left z ≡ and_then (tokens_from [] at left z) (λ ts. Ok (found ++ ts))
with_found found at left [] = ap Ok (sym (append-nil found))
with_found found at (suc left) (b ∷ z) = with_found found (at + 1) left z
with_found found at zero (b ∷ z) = by (b == 32) (token_at (b ∷ z)) (with_found found (at + 1) 0 z) (λ p left. with_found (found ++ p ∷ []) (at + 1) left z) (λ p left. with_found (p ∷ []) (at + 1) left z)
  where
    by : (s : Bool) (front : Front)
        → tokens_from found (at + 1) 0 z ≡ and_then (tokens_from [] (at + 1) 0 z) (λ ts. Ok (found ++ ts))
        → ((p : Placed) (left : ℕ) → tokens_from (found ++ p ∷ []) (at + 1) left z ≡ and_then (tokens_from [] (at + 1) left z) (λ ts. Ok ((found ++ p ∷ []) ++ ts)))
        → ((p : Placed) (left : ℕ) → tokens_from (p ∷ []) (at + 1) left z ≡ and_then (tokens_from [] (at + 1) left z) (λ ts. Ok ((p ∷ []) ++ ts)))
        → cond s (tokens_from found (at + 1) 0 z) (after_token at front (λ token len. tokens_from (found ++ record { token = token; at = at } ∷ []) (at + 1) (len - 1) z))
        ≡ and_then {A = Tokens} (cond s (tokens_from [] (at + 1) 0 z) (after_token at front (λ token len. tokens_from ([] ++ record { token = token; at = at } ∷ []) (at + 1) (len - 1) z))) (λ ts. Ok (found ++ ts))
    by true front e f g = e
    by false None e f g = refl
    by false (Some t) e f g =
        let p : Placed = record { token = t.0; at = at } in
        f p (t.1 - 1) ∙ rejoin found p (tokens_from [] (at + 1) (t.1 - 1) z) ∙ ap (λ o. and_then {A = Tokens} o (λ ts. Ok (found ++ ts))) (sym (g p (t.1 - 1)))

pub piece_lexes : (at : ℕ) (text z : List ℕ) (token : Token) (ts : Tokens) → 0 < length text → (slice_index text 0 == 32) ≡ false → token_at (text ++ z) ≡ Some (token, length text) → Lexes (at + length text) z ts
    → Lexes at (text ++ z) (record { token = token; at = at } ∷ ts)
piece_lexes at text z token ts some no_space is rest =
    let p : Placed = record { token = token; at = at } in
    let long : 0 < length (text ++ z) = omega (arith, length-append text z) in
    let goes = token_goes [] at (text ++ z) token (length text) long (ap (λ b. b == 32) (first_stays text z some) ∙ no_space) is (omega arith) in
    sym goes ∙ ap (λ y. tokens_from (p ∷ []) (at + length text) 0 y) (drop-append_seam text z) ∙ with_found (p ∷ []) (at + length text) 0 z ∙ ap (λ o. and_then {A = Tokens} o (λ ts. Ok ((p ∷ []) ++ ts))) rest

pub space_lexes : (at : ℕ) (z : List ℕ) (ts : Tokens) → Lexes (at + 1) z ts → Lexes at (32 ∷ z) ts
space_lexes at z ts h = h
