-- Where the first line of some bytes ends.
use Rattle.std.proofs.Common.{◌≡◌, ◌≢◌, ℕ, zero, suc, ◌+◌, ◌<◌, ◌≤◌, ◌==◌, Bool, true, false, List, [], ◌∷◌, ◌++◌, length, get_or, take, drop, refl, ap, arith}
use Rattle.std.proofs.lemmas.Bool.Decides.{nat_tests}
use Rattle.input_lines.specs.Lines.{lines_of, onto_first, first_or_empty, first_line}

no_end : (b : ℕ) → b ≢ 10 → (b == 10) ≡ false
no_end b other = grind (arith, nat_tests)

-- the bytes up to the first LF, at i, are the first line
pub lines_of-ended : (xs : List ℕ) (i : ℕ) → i < length xs → get_or xs i 0 ≡ 10 → ((k : ℕ) → k < i → get_or xs k 0 ≢ 10) → lines_of xs ≡ take i xs ∷ lines_of (drop (suc i) xs)
lines_of-ended [] i h here before = absurd (omega arith)
lines_of-ended (x ∷ xs) zero h here before = rw here refl
lines_of-ended (x ∷ xs) (suc i) h here before =
    let first : (x == 10) ≡ false = no_end x (before 0 (omega arith)) in
    let rest : lines_of xs ≡ take i xs ∷ lines_of (drop (suc i) xs) = lines_of-ended xs i (omega arith) here (λ k lt. before (suc k) (omega arith)) in
    rw (first, rest) refl

-- where there is no LF, all is one line
pub lines_of-open : (xs : List ℕ) → 0 < length xs → ((k : ℕ) → k < length xs → get_or xs k 0 ≢ 10) → lines_of xs ≡ xs ∷ []
lines_of-open [] h none = absurd (omega arith)
lines_of-open (x ∷ []) h none = let first : (x == 10) ≡ false = no_end x (none 0 (omega arith)) in rw first refl
lines_of-open (x ∷ y ∷ ys) h none =
    let first : (x == 10) ≡ false = no_end x (none 0 (omega arith)) in
    let rest : lines_of (y ∷ ys) ≡ (y ∷ ys) ∷ [] = lines_of-open (y ∷ ys) (omega arith) (λ k lt. none (suc k) (omega arith)) in
    rw (first, rest) refl

pub first_line-open : (xs : List ℕ) → ((k : ℕ) → k < length xs → get_or xs k 0 ≢ 10) → first_line xs ≡ xs
first_line-open [] none = refl
first_line-open (x ∷ xs) none = ap first_or_empty (lines_of-open (x ∷ xs) (omega arith) none)

longer_first : (b : ℕ) (n : ℕ) (lines : List (List ℕ)) → n ≤ length (first_or_empty lines) → suc n ≤ length (first_or_empty (onto_first b lines))
longer_first b n [] h = omega arith
longer_first b n (line ∷ lines) h = omega arith

-- a line that has not ended goes on with what comes
pub first_line-longer : (xs rest : List ℕ) → ((k : ℕ) → k < length xs → get_or xs k 0 ≢ 10) → length xs ≤ length (first_line (xs ++ rest))
first_line-longer [] rest none = omega arith
first_line-longer (x ∷ xs) rest none =
    let first : (x == 10) ≡ false = no_end x (none 0 (omega arith)) in
    rw first (longer_first x (length xs) (lines_of (xs ++ rest)) (first_line-longer xs rest (λ k lt. none (suc k) (omega arith))))

first-onto : (b : ℕ) (lines : List (List ℕ)) (line : List ℕ) → first_or_empty lines ≡ line → first_or_empty (onto_first b lines) ≡ b ∷ line
first-onto b [] line e = ap (λ l. b ∷ l) e
first-onto b (l ∷ lines) line e = ap (λ l. b ∷ l) e

-- what comes behind an LF changes nothing of the line before it
pub first_line-ended : (xs rest : List ℕ) (i : ℕ) → i < length xs → get_or xs i 0 ≡ 10 → ((k : ℕ) → k < i → get_or xs k 0 ≢ 10) → first_line (xs ++ rest) ≡ take i xs
first_line-ended [] rest i h here before = absurd (omega arith)
first_line-ended (x ∷ xs) rest zero h here before = rw here refl
first_line-ended (x ∷ xs) rest (suc i) h here before =
    let first : (x == 10) ≡ false = no_end x (before 0 (omega arith)) in
    let more : first_line (xs ++ rest) ≡ take i xs = first_line-ended xs rest i (omega arith) here (λ k lt. before (suc k) (omega arith)) in
    rw first (first-onto x (lines_of (xs ++ rest)) (take i xs) more)
