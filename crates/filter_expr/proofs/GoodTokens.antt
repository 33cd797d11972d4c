-- What a token of a text is made of, so that it can be written again.
use Rattle.std.proofs.Common.{◌≡◌, ℕ, zero, suc, ◌+◌, ◌-◌, ◌==◌, Bool, true, false, cond, ◌&&◌, ℤ, List, [], ◌∷◌, ◌++◌, take, drop, slice_index, codes, Option, Some, None, Ok, refl, subst, arith}
use Rattle.std.proofs.lemmas.Bool.Decides.{nat_tests}
use Rattle.std.specs.List.{prefix_len}
use Rattle.std.specs.Str.{bytes_eq, is_utf8}
use Rattle.std.specs.Str.Parse.{signed_digits_value}
use Rattle.row_types.specs.declared.rows.Field.TheVariants as field
use Rattle.filter_expr.specs.declared.tokens.Sign.TheVariants.{Or, And, Not, In}
use Rattle.filter_expr.specs.declared.tokens.Token.{Token}
use Rattle.filter_expr.specs.declared.tokens.Token.TheVariants as token
use Rattle.filter_expr.specs.declared.tokens.Placed.{Placed}
use Rattle.filter_expr.specs.Grammar.{Tokens}
use Rattle.filter_expr.specs.Tokens.{Front, is_letter, is_name_byte, name_len, word_of, word_at, fits_64_bits, int_token, sign_len, digits_len, number_at, quoted_from, text_token, text_at, sign_at, token_at, after_token, tokens_from, tokens_of}
use Rattle.filter_expr.proofs.Pieces.{AllPass, IsName, IsSpelled}

-- a name is no word of the language, and a literal can be spelled
abbrev pub IsGood : Token → Type 0
IsGood (token.Name name) = IsName name × (word_of name ≡ token.Name name)
IsGood (token.Literal f) = IsSpelled f
IsGood (token.Compare op) = Unit {0}
IsGood (token.Sign s) = Unit {0}

abbrev pub AllGood : Tokens → Type 0
AllGood [] = Unit {0}
AllGood (t ∷ ts) = IsGood t.token × AllGood ts

abbrev GoodFront : Front → Type 0
GoodFront None = Unit {0}
GoodFront (Some t) = IsGood t.0

either_good : (b : Bool) (x y : Front) → (b ≡ true → GoodFront x) → GoodFront y → GoodFront (cond b x y)
either_good true x y h k = h refl
either_good false x y h k = k

good_words : (b1 b2 b3 b4 b5 b6 : Bool) (name : List ℕ) → IsName name
    → word_of name ≡ cond b1 (token.Sign And) (cond b2 (token.Sign Or) (cond b3 (token.Sign Not) (cond b4 (token.Sign In) (cond b5 (token.Literal (field.Bool true)) (cond b6 (token.Literal (field.Bool false)) (token.Name name))))))
    → IsGood (cond b1 (token.Sign And) (cond b2 (token.Sign Or) (cond b3 (token.Sign Not) (cond b4 (token.Sign In) (cond b5 (token.Literal (field.Bool true)) (cond b6 (token.Literal (field.Bool false)) (token.Name name)))))))
good_words true b2 b3 b4 b5 b6 name h e = tt
good_words false true b3 b4 b5 b6 name h e = tt
good_words false false true b4 b5 b6 name h e = tt
good_words false false false true b5 b6 name h e = tt
good_words false false false false true b6 name h e = tt
good_words false false false false false true name h e = tt
good_words false false false false false false name h e = (h, e)

good_word : (name : List ℕ) → IsName name → IsGood (word_of name)
good_word name h = good_words (bytes_eq name (codes "and")) (bytes_eq name (codes "or")) (bytes_eq name (codes "not")) (bytes_eq name (codes "in")) (bytes_eq name (codes "true")) (bytes_eq name (codes "false")) name h refl

one_more : (n : ℕ) → suc n ≡ 1 + n
one_more n = omega arith

front_passes : (p : ℕ → Bool) (z : List ℕ) → AllPass p (take (prefix_len p z) z)
front_passes p [] = tt
front_passes p (x ∷ z) = by (p x) refl (front_passes p z)
  where
    by : (b : Bool) → p x ≡ b → AllPass p (take (prefix_len p z) z) → AllPass p (take (cond b (1 + prefix_len p z) 0) (x ∷ z))
    by true e rest = subst (λ n. AllPass p (take n (x ∷ z))) (one_more (prefix_len p z)) (e, rest)
    by false e rest = tt

letter_in_name : (b : ℕ) → is_letter b ≡ true → is_name_byte b ≡ true
letter_in_name b h = grind (arith, nat_tests)

first_kept : (x : ℕ) (z : List ℕ) (b : Bool) (n : ℕ) → b ≡ true → is_letter x ≡ true → is_letter (slice_index (take (cond b (1 + n) 0) (x ∷ z)) 0) ≡ true
first_kept x z true n e h = subst (λ k. is_letter (slice_index (take k (x ∷ z)) 0) ≡ true) (one_more n) h
first_kept x z false n e h = let bad : ⊥ = cc in absurd bad

name_of_front : (z : List ℕ) → is_letter (slice_index z 0) ≡ true → IsName (take (name_len z) z)
name_of_front [] h = let bad : ⊥ = cc in absurd bad
name_of_front (x ∷ z) h = (front_passes is_name_byte (x ∷ z), first_kept x z (is_name_byte x) (name_len z) (letter_in_name x h) h)

good_int : (len : ℕ) (v : ℤ) (b : Bool) → fits_64_bits v ≡ b → GoodFront (int_token len (cond b (Some v) None))
good_int len v true e = e
good_int len v false e = tt

good_number : (z : List ℕ) → GoodFront (number_at z)
good_number z =
    let text = take (sign_len z + digits_len z) z in
    let v = signed_digits_value 10 text in
    either_good (digits_len z == 0) None _ (λ h. tt) (good_int (sign_len z + digits_len z) v (fits_64_bits v) refl)

good_utf8 : (text : List ℕ) (len : ℕ) (b : Bool) → is_utf8 text ≡ b → GoodFront (cond b (Some (token.Literal (field.Text text), len)) None)
good_utf8 text len true e = e
good_utf8 text len false e = tt

good_text : (q : Option (List ℕ × ℕ)) → GoodFront (text_token q)
good_text None = tt
good_text (Some q) = good_utf8 q.0 q.1 (is_utf8 q.0) refl

good_sign : (b next : ℕ) → GoodFront (sign_at b next)
good_sign b next =
    either_good (b == 40) _ _ (λ h. tt) (either_good (b == 41) _ _ (λ h. tt) (either_good (b == 91) _ _ (λ h. tt) (either_good (b == 93) _ _ (λ h. tt)
    (either_good (b == 44) _ _ (λ h. tt) (either_good (b == 61 && next == 61) _ _ (λ h. tt)
    (either_good (b == 33) _ _ (λ h. either_good (next == 61) _ _ (λ k. tt) tt)
    (either_good (b == 60) _ _ (λ h. either_good (next == 61) _ _ (λ k. tt) tt)
    (either_good (b == 62) _ _ (λ h. either_good (next == 61) _ _ (λ k. tt) tt)
    (either_good (b == 38 && next == 38) _ _ (λ h. tt) (either_good (b == 124 && next == 124) _ _ (λ h. tt) tt))))))))))

good_token : (z : List ℕ) → GoodFront (token_at z)
unfolding token_at
good_token z =
    either_good (is_letter (slice_index z 0)) (word_at z) _ (λ h. good_word (take (name_len z) z) (name_of_front z h))
    (either_good _ (number_at z) _ (λ h. good_number z) (either_good (slice_index z 0 == 34) (text_at z) _ (λ h. good_text (quoted_from false [] 1 (drop 1 z))) (good_sign (slice_index z 0) (slice_index z 1))))

good_append : (ts : Tokens) (t : Placed) → AllGood ts → IsGood t.token → AllGood (ts ++ t ∷ [])
good_append [] t h i = (i, tt)
good_append (x ∷ ts) t h i = (h.0, good_append ts t h.1 i)

good_from : (found : Tokens) (at left : ℕ) (z : List ℕ) (ts : Tokens) → AllGood found → tokens_from found at left z ≡ Ok ts → AllGood ts
good_from found at left [] ts h e = let same : found ≡ ts = cc in subst AllGood same h
good_from found at (suc left) (b ∷ z) ts h e = good_from found (at + 1) left z ts h e
good_from found at zero (b ∷ z) ts h e = by (b == 32) (token_at (b ∷ z)) (good_token (b ∷ z)) (λ is. good_from found (at + 1) 0 z ts h is) (λ p left i is. good_from (found ++ p ∷ []) (at + 1) left z ts (good_append found p h i) is) e
  where
    by : (s : Bool) (front : Front) → GoodFront front
        → (tokens_from found (at + 1) 0 z ≡ Ok ts → AllGood ts)
        → ((p : Placed) (left : ℕ) → IsGood p.token → tokens_from (found ++ p ∷ []) (at + 1) left z ≡ Ok ts → AllGood ts)
        → cond s (tokens_from found (at + 1) 0 z) (after_token at front (λ token len. tokens_from (found ++ record { token = token; at = at } ∷ []) (at + 1) (len - 1) z)) ≡ Ok ts
        → AllGood ts
    by true front g f k e = f e
    by false None g f k e = let bad : ⊥ = cc in absurd bad
    by false (Some t) g f k e = k (record { token = t.0; at = at }) (t.1 - 1) g e

pub good_tokens : (text : List ℕ) (ts : Tokens) → tokens_of text ≡ Ok ts → AllGood ts
unfolding tokens_of
good_tokens text ts e = good_from [] 0 0 text ts tt e
