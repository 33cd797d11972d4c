-- A text stays UTF-8 when its quotes and backslashes are escaped.
use Rattle.std.proofs.Common.{◌≡◌, ℕ, suc, ◌<◌, ◌≤◌, ◌==◌, Bool, true, false, cond, ◌||◌, List, [], ◌∷◌, ◌++◌, length, get_or, IsUtf8, inl, inr, refl, sym, ap, subst, arith, append-nil}
use Rattle.std.proofs.lemmas.Bool.{and_parts, cases_lt}
use Rattle.std.proofs.lemmas.Bool.Decides.{nat_tests}
use Rattle.std.proofs.lemmas.Str.{IsUtf8-append, IsUtf8-nil, IsUtf8-encode, encode_ascii, inside_one}
use lib.Utf8.{scalar, scalars, encode, encodes}
use Rattle.filter_expr.specs.Printing.{escaped}
use Rattle.filter_expr.proofs.Lexing.{AllLow, utf8_of_low}

escaped-append : (xs ys : List ℕ) → escaped (xs ++ ys) ≡ escaped xs ++ escaped ys
escaped-append [] ys = refl
escaped-append (x ∷ xs) ys = by (x == 34 || x == 92) (escaped-append xs ys)
  where
    by : (t : Bool) → escaped (xs ++ ys) ≡ escaped xs ++ escaped ys
        → cond {A = List ℕ} t (92 ∷ x ∷ escaped (xs ++ ys)) (x ∷ escaped (xs ++ ys)) ≡ cond t (92 ∷ x ∷ escaped xs) (x ∷ escaped xs) ++ escaped ys
    by true e = ap (λ l. 92 ∷ x ∷ l) e
    by false e = ap (λ l. x ∷ l) e

not_escaped : (x : ℕ) → 128 ≤ x → (x == 34 || x == 92) ≡ false
not_escaped x h = grind (arith, nat_tests)

escaped_high : (xs : List ℕ) → ((k : ℕ) → k < length xs → 128 ≤ get_or xs k 0) → escaped xs ≡ xs
escaped_high [] h = refl
escaped_high (x ∷ xs) h = rw (not_escaped x (h 0 (omega arith))) (ap (λ l. x ∷ l) (escaped_high xs (λ k below. h (suc k) (omega arith))))

escaped_low : (x : ℕ) → x < 128 → AllLow (escaped (x ∷ []))
escaped_low x h = by (x == 34 || x == 92)
  where
    by : (t : Bool) → AllLow (cond t (92 ∷ x ∷ []) (x ∷ []))
    by true = (omega arith, (h, tt))
    by false = (h, tt)

one_char : (c : ℕ) → scalar c ≡ true → IsUtf8 (escaped (encode c))
one_char c ok = elim (cases_lt c 128) [
  | inl small ↦ rw (encode_ascii c small) (utf8_of_low _ (escaped_low c small))
  | inr big ↦
      let high : (k : ℕ) → k < length (encode c) → 128 ≤ get_or (encode c) k 0 = λ k below. elim (cases_lt (get_or (encode c) k 0) 128) [
        | inl low ↦ absurd (omega (arith, inside_one c [] (encode c) k (sym (append-nil _)) below low))
        | inr h ↦ h
      ] in
      subst IsUtf8 (sym (escaped_high (encode c) high)) (IsUtf8-encode c ok)
]

all_chars : (cs : List ℕ) → scalars cs ≡ true → IsUtf8 (escaped (encodes cs))
all_chars [] e = IsUtf8-nil
all_chars (c ∷ cs) e =
    let p = and_parts _ _ e in
    subst IsUtf8 (sym (escaped-append (encode c) (encodes cs))) (IsUtf8-append _ _ (one_char c p.0) (all_chars cs p.1))

pub utf8_escaped : (text : List ℕ) → IsUtf8 text → IsUtf8 (escaped text)
utf8_escaped text u = subst (λ t. IsUtf8 (escaped t)) u.1.1 (all_chars u.0 u.1.0)
