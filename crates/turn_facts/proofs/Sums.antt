-- Sums over the notes of a journal, seat by seat.
use Rattle.std.proofs.Common.{◌≡◌, ℕ, ◌+◌, ◌≤◌, ◌≢◌, Bool, cond, List, [], ◌∷◌, All, refl, ap, sym, subst, ⊎_elim, arith, eq-eqb, ne_eqb}
use Rattle.std.proofs.lemmas.List.Elements.{All-tail, All-head}
use Rattle.turn_facts.specs.Counts.{count, Among, NoneTwice, total}
use Rattle.turn_facts.specs.Notes.{of}
use Rattle.turn_facts.proofs.Counts.{count-nil, count-here, count-else}
use Rattle.turn_facts.proofs.Places.{same_or}

module _ {N : Type 0} (number : N → ℕ) (f : N → ℕ) where
  -- what the notes of one seat add to the sum
  pub part : List N → ℕ → ℕ
  part l n = total f (of number n l)

  part_here : (x : N) (l : List N) → part (x ∷ l) (number x) ≡ f x + part l (number x)
  unfolding part of total
  part_here x l = ap (λ (b : Bool). total f (cond b (x ∷ of number (number x) l) (of number (number x) l))) (eq-eqb (number x) (number x) refl)

  part_else : (n : ℕ) (x : N) (l : List N) → number x ≢ n → part (x ∷ l) n ≡ part l n
  unfolding part of
  part_else n x l p = ap (λ (b : Bool). total f (cond b (x ∷ of number n l) (of number n l))) (ne_eqb (number x) n p)

  part_nil : (n : ℕ) → part [] n ≡ 0
  unfolding part of total
  part_nil n = refl

  sum_none : (nums : List ℕ) → total (part []) nums ≡ 0
  unfolding total
  sum_none [] = refl
  sum_none (n ∷ nums) = let r : total (part []) nums ≡ 0 = sum_none nums in let z : part [] n ≡ 0 = part_nil n in omega arith

  sum_absent : (x : N) (l : List N) (nums : List ℕ) → count (number x) nums ≡ 0 → total (part (x ∷ l)) nums ≡ total (part l) nums
  unfolding total
  sum_absent x l [] h = refl
  sum_absent x l (n ∷ nums) h =
      ⊎_elim (λ (p : n ≡ number x). let c : count (number x) (n ∷ nums) ≡ 1 + count (number x) nums = subst (λ (m : ℕ). count m (n ∷ nums) ≡ 1 + count m nums) p (count-here n nums) in absurd (omega arith))
      (λ (p : n ≢ number x). let c : count (number x) (n ∷ nums) ≡ count (number x) nums = count-else (number x) n nums p in let r : total (part (x ∷ l)) nums ≡ total (part l) nums = sum_absent x l nums (omega arith) in let q : part (x ∷ l) n ≡ part l n = part_else n x l (λ e. p (sym e)) in omega arith) (same_or n (number x))

  sum_once : (x : N) (l : List N) (nums : List ℕ) → count (number x) nums ≡ 1 → total (part (x ∷ l)) nums ≡ f x + total (part l) nums
  unfolding total
  sum_once x l [] h = let z : count (number x) [] ≡ 0 = count-nil (number x) in absurd (omega arith)
  sum_once x l (n ∷ nums) h =
      ⊎_elim (λ (p : n ≡ number x).
      let c : count (number x) (n ∷ nums) ≡ 1 + count (number x) nums = subst (λ (m : ℕ). count m (n ∷ nums) ≡ 1 + count m nums) p (count-here n nums) in
      let r : total (part (x ∷ l)) nums ≡ total (part l) nums = sum_absent x l nums (omega arith) in
      let q : part (x ∷ l) n ≡ f x + part l n = subst (λ (m : ℕ). part (x ∷ l) m ≡ f x + part l m) (sym p) (part_here x l) in omega arith)
      (λ (p : n ≢ number x).
      let c : count (number x) (n ∷ nums) ≡ count (number x) nums = count-else (number x) n nums p in
      let r : total (part (x ∷ l)) nums ≡ f x + total (part l) nums = sum_once x l nums (omega arith) in
      let q : part (x ∷ l) n ≡ part l n = part_else n x l (λ e. p (sym e)) in omega arith) (same_or n (number x))

  -- a sum over a list whose notes are of these numbers is the sum of their parts
  pub sum_apart : (nums : List ℕ) (l : List N) → NoneTwice nums → All (λ (x : N). Among (number x) nums) l → total f l ≡ total (part l) nums
  unfolding total
  sum_apart nums [] once h = sym (sum_none nums)
  sum_apart nums (x ∷ l) once h =
      let r : total f l ≡ total (part l) nums = sum_apart nums l once (All-tail (λ (x : N). Among (number x) nums) x l h) in
      let a : Among (number x) nums = All-head (λ (x : N). Among (number x) nums) x l h in
      let o : count (number x) nums ≤ 1 = once (number x) in
      let s : total (part (x ∷ l)) nums ≡ f x + total (part l) nums = sum_once x l nums (omega arith) in omega arith
