-- A count of turns that are left, beside a loop that counts up, and a depth that is not 0.
use Rattle.std.proofs.Common.{◌≡◌, ℕ, suc, ◌+◌, ◌-◌, ◌<◌, ◌≤◌, ap, ◌∙◌, arith}

pub one_turn : {X : Type 0} {x : X} (left : ℕ → X) (n at : ℕ) → at < n → x ≡ left (n - at) → x ≡ left (suc (n - (at + 1)))
one_turn left n at below e = let same : n - at ≡ suc (n - (at + 1)) = omega arith in e ∙ ap left same

pub no_turn : {X : Type 0} {x : X} (left : ℕ → X) (n at : ℕ) → n ≤ at → x ≡ left (n - at) → x ≡ left 0
no_turn left n at done e = let none : n - at ≡ 0 = omega arith in e ∙ ap left none

pub deeper : {X : Type 0} (at : ℕ → X) (n : ℕ) → 0 < n → at n ≡ at (suc (n - 1))
deeper at n some = let e : n ≡ suc (n - 1) = omega arith in ap at e
