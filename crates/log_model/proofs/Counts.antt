-- Counting the positions of two words, and of two rows of words, one after another.
use Rattle.std.proofs.Common.{◌≡◌, ℕ, zero, suc, ◌+◌, ◌-◌, ◌/◌, ◌%◌, ◌<◌, Bool, false, cond, List, [], ◌∷◌, ◌++◌, length, drop, replicate, get_or, refl, sym, ap, ◌∙◌, subst, add_assoc, add-one, add-zero, zero-add, drop-cons, arith, ◌*◌, ◌≤◌}
use Rattle.std.specs.Prelude.{◌==◌}
use Rattle.std.proofs.lemmas.List.{take-append-drop}
use Rattle.row_types.specs.Bits.{bits_of, bits_in, count_pairs, AreWordsOf}
use Rattle.log_model.specs.declared.distances.Question.{Question}
use Rattle.log_model.specs.declared.distances.Question.TheVariants.{Differ, Either, Both}
use Rattle.log_model.specs.Counts.{passes}

-- the lowest bits are taken off both words
pub count_bit : (f : Bool → Bool → Bool) (total one i x y all : ℕ) → i < 64 → one ≡ cond (f (x % 2 == 1) (y % 2 == 1)) 1 0
    → total + count_pairs f (bits_of (64 - i) x) (bits_of (64 - i) y) ≡ all
    → (total + one) + count_pairs f (bits_of (64 - (i + 1)) (x / 2)) (bits_of (64 - (i + 1)) (y / 2)) ≡ all
unfolding bits_of
count_bit f total one i x y all low is before =
    let e : 64 - i ≡ suc (64 - (i + 1)) = omega arith in
    let here : total + count_pairs f (bits_of (suc (64 - (i + 1))) x) (bits_of (suc (64 - (i + 1))) y) ≡ all =
    subst (λ k. total + count_pairs f (bits_of k x) (bits_of k y) ≡ all) e before in
    add_assoc total one _ ∙ ap (λ n. total + (n + count_pairs f (bits_of (64 - (i + 1)) (x / 2)) (bits_of (64 - (i + 1)) (y / 2)))) is ∙ here

pub count_none : (f : Bool → Bool → Bool) (total x y all : ℕ) → total + count_pairs f (bits_of (64 - 64) x) (bits_of (64 - 64) y) ≡ all → total ≡ all
unfolding bits_of
count_none f total x y all before = sym (add-zero total) ∙ before

pub pairs-append : (f : Bool → Bool → Bool) (xs ys us vs : List Bool) → length xs ≡ length ys
    → count_pairs f (xs ++ us) (ys ++ vs) ≡ count_pairs f xs ys + count_pairs f us vs
pairs-append f [] [] us vs same = sym (zero-add (count_pairs f us vs))
pairs-append f [] (y ∷ ys) us vs same = absurd (omega arith)
pairs-append f (x ∷ xs) [] us vs same = absurd (omega arith)
pairs-append f (x ∷ xs) (y ∷ ys) us vs same =
    ap (λ n. cond (f x y) 1 0 + n) (pairs-append f xs ys us vs (omega arith)) ∙ sym (add_assoc (cond (f x y) 1 0) (count_pairs f xs ys) (count_pairs f us vs))

pub length-bits_of : (k n : ℕ) → length (bits_of k n) ≡ k
unfolding bits_of
length-bits_of zero n = refl
length-bits_of (suc k) n = ap suc (length-bits_of k (n / 2))

-- a word is taken off both rows
pub count_row : (f : Bool → Bool → Bool) (total part i all : ℕ) (xs ys : List ℕ) → i < length xs → length xs ≡ length ys
    → part ≡ count_pairs f (bits_of 64 (get_or xs i 0)) (bits_of 64 (get_or ys i 0))
    → total + count_pairs f (bits_in 64 (drop i xs)) (bits_in 64 (drop i ys)) ≡ all
    → (total + part) + count_pairs f (bits_in 64 (drop (i + 1) xs)) (bits_in 64 (drop (i + 1) ys)) ≡ all
count_row f total part i all xs ys low same is before =
    let here : total + count_pairs f (bits_in 64 (get_or xs i 0 ∷ drop (suc i) xs)) (bits_in 64 (get_or ys i 0 ∷ drop (suc i) ys)) ≡ all =
    subst (λ us. total + count_pairs f (bits_in 64 us) (bits_in 64 (get_or ys i 0 ∷ drop (suc i) ys)) ≡ all) (drop-cons xs i 0 low)
    (subst (λ vs. total + count_pairs f (bits_in 64 (drop i xs)) (bits_in 64 vs) ≡ all) (drop-cons ys i 0 (omega arith)) before) in
    let apart = pairs-append f (bits_of 64 (get_or xs i 0)) (bits_of 64 (get_or ys i 0)) (bits_in 64 (drop (suc i) xs)) (bits_in 64 (drop (suc i) ys))
    (length-bits_of 64 (get_or xs i 0) ∙ sym (length-bits_of 64 (get_or ys i 0))) in
    rw add-one (add_assoc total part _ ∙ ap (λ n. total + (n + count_pairs f (bits_in 64 (drop (suc i) xs)) (bits_in 64 (drop (suc i) ys)))) is ∙ ap (λ n. total + n) (sym apart) ∙ here)

pub pairs-none : (f : Bool → Bool → Bool) (n m : ℕ) → f false false ≡ false → count_pairs f (replicate n false) (replicate m false) ≡ 0
pairs-none f zero m none = refl
pairs-none f (suc n) zero none = refl
pairs-none f (suc n) (suc m) none = ap (λ b. cond b 1 0 + count_pairs f (replicate n false) (replicate m false)) none ∙ zero-add _ ∙ pairs-none f n m none

-- behind the bits of a vector its words have none
words_bits : (bits : List Bool) (words : List ℕ) → AreWordsOf bits words → bits_in 64 words ≡ bits ++ replicate (64 * length words - length bits) false
words_bits bits words are =
    sym (take-append-drop (length bits) (bits_in 64 words))
    ∙ ap (λ l. l ++ drop (length bits) (bits_in 64 words)) are.same
    ∙ ap (λ l. bits ++ l) are.packed.clear

pub words_alike : (xs ys : List Bool) (us vs : List ℕ) → AreWordsOf xs us → AreWordsOf ys vs → length xs ≡ length ys → length us ≡ length vs
words_alike xs ys us vs left right same =
    let a : length xs ≤ 64 * length us = left.packed.enough in
    let b : 64 * length us < length xs + 64 = left.packed.few in
    let c : length ys ≤ 64 * length vs = right.packed.enough in
    let d : 64 * length vs < length ys + 64 = right.packed.few in
    omega arith

pub words_few : (xs : List Bool) (us : List ℕ) → AreWordsOf xs us → length us ≤ 64
words_few xs us are =
    let a : 64 * length us < length xs + 64 = are.packed.few in
    let b : length xs ≤ 4096 = are.packed.within in
    omega arith

pub count_vectors : (f : Bool → Bool → Bool) (xs ys : List Bool) (us vs : List ℕ) → AreWordsOf xs us → AreWordsOf ys vs → length xs ≡ length ys
    → f false false ≡ false → count_pairs f (bits_in 64 us) (bits_in 64 vs) ≡ count_pairs f xs ys
count_vectors f xs ys us vs left right same none =
    ap (λ l. count_pairs f l (bits_in 64 vs)) (words_bits xs us left)
    ∙ ap (count_pairs f (xs ++ replicate (64 * length us - length xs) false)) (words_bits ys vs right)
    ∙ pairs-append f xs ys _ _ same
    ∙ ap (λ n. count_pairs f xs ys + n) (pairs-none f _ _ none)
    ∙ add-zero _

pub passes_none : (question : Question) → passes question false false ≡ false
passes_none Differ = refl
passes_none Either = refl
passes_none Both = refl
