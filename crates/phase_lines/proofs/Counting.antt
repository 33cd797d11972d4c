-- Who stands in a list, by a number of each.
use Rattle.std.proofs.Common.{◌≡◌, ◌≢◌, ℕ, zero, suc, ◌+◌, ◌≤◌, List, [], ◌∷◌, map, refl, ap, sym, ◌∙◌, ⊎_elim, arith}
use mathlib.Core.Option.{some-injective, some-ne-none}
use Rattle.turn_facts.specs.Counts.{count, Among}
use Rattle.turn_facts.specs.Prefixes.{IsAt}
use Rattle.turn_facts.proofs.Counts.{count-nil, count-here, count-else}
use Rattle.turn_facts.proofs.Places.{same_or}

-- the place in a list of one that has this number
pub among_at : {A : Type 0} (whose : A → ℕ) (xs : List A) (n : ℕ) → Among n (map whose xs) → (i : ℕ) × (x : A) × IsAt xs i x × (whose x ≡ n)
among_at whose [] n among = let e : count n [] ≡ 0 = count-nil n in absurd (omega arith)
among_at whose (x ∷ xs) n among =
    ⊎_elim
    (λ (same : whose x ≡ n). (0, x, refl, same))
    (λ (other : whose x ≢ n).
    let e : count n (whose x ∷ map whose xs) ≡ count n (map whose xs) = count-else n (whose x) (map whose xs) other in
    let t = among_at whose xs n (omega arith) in (suc t.0, t.1, t.2, t.3))
    (same_or (whose x) n)

-- one that stands at a place
pub at_among : {A : Type 0} (whose : A → ℕ) (xs : List A) (i : ℕ) (x : A) → IsAt xs i x → Among (whose x) (map whose xs)
at_among whose [] i x at = absurd (some-ne-none x (sym at))
at_among whose (y ∷ xs) zero x at =
    let e : count (whose x) (whose y ∷ map whose xs) ≡ 1 + count (whose x) (map whose xs) = ap (λ (n : ℕ). count (whose x) (n ∷ map whose xs)) (ap whose (some-injective y x at)) ∙ count-here (whose x) (map whose xs) in omega arith
at_among whose (y ∷ xs) (suc i) x at =
    let h : 1 ≤ count (whose x) (map whose xs) = at_among whose xs i x at in
    ⊎_elim
    (λ (same : whose y ≡ whose x).
    let e : count (whose x) (whose y ∷ map whose xs) ≡ 1 + count (whose x) (map whose xs) = ap (λ (n : ℕ). count (whose x) (n ∷ map whose xs)) same ∙ count-here (whose x) (map whose xs) in omega arith)
    (λ (other : whose y ≢ whose x). let e : count (whose x) (whose y ∷ map whose xs) ≡ count (whose x) (map whose xs) = count-else (whose x) (whose y) (map whose xs) other in omega arith)
    (same_or (whose y) (whose x))
