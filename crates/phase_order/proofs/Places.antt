-- Elements of lists by their places, and of the notes of a seat.
use Rattle.std.proofs.Common.{ℕ, zero, suc, List, [], ◌∷◌, All, inl, inr, sym, ap, subst}
use mathlib.Core.Option.{some, some-injective, some-ne-none}
use Rattle.turn_facts.specs.Notes.{of}
use Rattle.turn_facts.specs.Prefixes.{IsAt}
use Rattle.turn_facts.proofs.Places.{at_below, at_get}
use Rattle.turn_facts.proofs.Strangers.{in_own}
use Rattle.journal_model.specs.Lists.{IsIn}

module _ {X : Type 0} where
  pub in_at : (x : X) (xs : List X) → IsIn x xs → (i : ℕ) × IsAt xs i x
  in_at x [] h = absurd h
  in_at x (y ∷ ys) (inl p) = (zero, ap some (sym p))
  in_at x (y ∷ ys) (inr h) = let r = in_at x ys h in (suc r.0, r.1)

  pub at_in : (x : X) (xs : List X) (i : ℕ) → IsAt xs i x → IsIn x xs
  at_in x [] i e = absurd (some-ne-none x (sym e))
  at_in x (y ∷ ys) zero e = inl (sym (some-injective y x e))
  at_in x (y ∷ ys) (suc i) e = inr (at_in x ys i e)

  -- a fact of all items, told by their places
  pub all_at : (P : X → Type 0) (xs : List X) (x : X) → All P xs → IsIn x xs → P x
  all_at P xs x all h = let r = in_at x xs h in subst P (at_get xs r.0 x x r.1) (all r.0 x (at_below xs r.0 x r.1))

module _ {N : Type 0} (number : N → ℕ) where
  pub in_own_notes : (l : List N) (x : N) → IsIn x l → IsIn x (of number (number x) l)
  in_own_notes l x h = let r = in_at x l h in let q = in_own number l r.0 x r.1 in at_in x (of number (number x) l) q.0 q.1
