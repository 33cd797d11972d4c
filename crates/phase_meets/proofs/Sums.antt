-- Sums over the first channels.
use Rattle.std.proofs.Common.{◌≡◌, ℕ, zero, suc, ◌+◌, ◌*◌, ◌<◌, ◌≤◌, refl, arith, add-mul}
use Rattle.legal_output.specs.Printed.{sum_over}

pub sum_le : (f g : ℕ → ℕ) (n : ℕ) → ((k : ℕ) → k < n → f k ≤ g k) → sum_over n f ≤ sum_over n g
sum_le f g zero h = omega arith
sum_le f g (suc n) h =
    let r : sum_over n f ≤ sum_over n g = sum_le f g n (λ k below. h k (omega arith)) in
    let l : f n ≤ g n = h n (omega arith) in omega arith

pub sum_same : (f g : ℕ → ℕ) (n : ℕ) → ((k : ℕ) → k < n → f k ≡ g k) → sum_over n f ≡ sum_over n g
sum_same f g zero h = refl
sum_same f g (suc n) h =
    let r : sum_over n f ≡ sum_over n g = sum_same f g n (λ k below. h k (omega arith)) in
    let l : f n ≡ g n = h n (omega arith) in omega arith

pub sum_double : (f g : ℕ → ℕ) (n : ℕ) → ((k : ℕ) → k < n → f k ≤ 2 * g k) → sum_over n f ≤ 2 * sum_over n g
sum_double f g zero h = omega arith
sum_double f g (suc n) h =
    let r : sum_over n f ≤ 2 * sum_over n g = sum_double f g n (λ k below. h k (omega arith)) in
    let l : f n ≤ 2 * g n = h n (omega arith) in omega arith

add_times : (a b c : ℕ) → (a + b) * c ≡ a * c + b * c
add_times a b c = add-mul a b c

-- a bound of each channel by its tail, its waiting segments and its nodes
pub sum_most : (live tail waiting node : ℕ → ℕ) (most n : ℕ) → ((k : ℕ) → k < n → live k ≤ tail k + waiting k * most + node k) → sum_over n live ≤ sum_over n tail + sum_over n waiting * most + sum_over n node
sum_most live tail waiting node most zero h = omega arith
sum_most live tail waiting node most (suc n) h =
    let r : sum_over n live ≤ sum_over n tail + sum_over n waiting * most + sum_over n node = sum_most live tail waiting node most n (λ k below. h k (omega arith)) in
    let l : live n ≤ tail n + waiting n * most + node n = h n (omega arith) in
    let m : (sum_over n waiting + waiting n) * most ≡ sum_over n waiting * most + waiting n * most = add_times (sum_over n waiting) (waiting n) most in omega arith
