-- Lists read by place, and functions changed at one place.
use Rattle.std.proofs.Common.{◌≡◌, ℕ, zero, suc, map, get_or, ◌<◌, ◌≤◌, ◌≢◌, ◌⊎◌, cond, Bool, eq-eqb, ne_eqb, List, [], ◌∷◌, ◌++◌, length, set, refl, ap, sym, inl, inr, ⊎_elim, arith, subst, ◌∙◌}
use Rattle.std.proofs.lemmas.Bool.{cases_lt}
use mathlib.Core.Option.{some, some-injective, some-ne-none}
use lib.ListN.{get_elem?}
use Rattle.turn_facts.specs.Prefixes.{IsAt, put}

pub same_or : (i j : ℕ) → (i ≡ j) ⊎ (i ≢ j)
same_or i j = ⊎_elim (λ (h : i < j). inr (λ e. omega arith)) (λ (h : j ≤ i). ⊎_elim (λ (g : j < i). inr (λ e. omega arith)) (λ (g : i ≤ j). inl (omega arith)) (cases_lt j i)) (cases_lt i j)

module _ {A : Type 0} where
  pub at_set : (l : List A) (i j : ℕ) (a b : A) → IsAt (set l i a) j b → ((j ≡ i) × (a ≡ b)) ⊎ ((j ≢ i) × IsAt l j b)
  at_set [] i j a b e = absurd (some-ne-none b (sym e))
  at_set (x ∷ xs) zero zero a b e = inl (refl, some-injective a b e)
  at_set (x ∷ xs) zero (suc j) a b e = inr ((λ h. omega arith), e)
  at_set (x ∷ xs) (suc i) zero a b e = inr ((λ h. omega arith), e)
  at_set (x ∷ xs) (suc i) (suc j) a b e = ⊎_elim (λ t. inl (ap suc t.0, t.1)) (λ t. let n = t.0 in inr ((λ h. n (omega arith)), t.1)) (at_set xs i j a b e)

  pub at_more : (l : List A) (a b : A) (j : ℕ) → IsAt (l ++ a ∷ []) j b → (IsAt l j b) ⊎ ((a ≡ b) × (j ≡ length l))
  at_more [] a b zero e = inr (some-injective a b e, refl)
  at_more [] a b (suc j) e = absurd (some-ne-none b (sym e))
  at_more (x ∷ xs) a b zero e = inl e
  at_more (x ∷ xs) a b (suc j) e = ⊎_elim (λ t. inl t) (λ t. inr (t.0, ap suc t.1)) (at_more xs a b j e)

  pub at_below : (l : List A) (j : ℕ) (a : A) → IsAt l j a → j < length l
  at_below [] j a e = absurd (some-ne-none a (sym e))
  at_below (x ∷ xs) zero a e = omega arith
  at_below (x ∷ xs) (suc j) a e = let h : j < length xs = at_below xs j a e in omega arith

  pub at_here : (l : List A) (i : ℕ) (a : A) → i < length l → IsAt (set l i a) i a
  at_here [] i a h = absurd (omega arith)
  at_here (x ∷ xs) zero a h = refl
  at_here (x ∷ xs) (suc i) a h = at_here xs i a (omega arith)

  pub at_else : (l : List A) (i j : ℕ) (a : A) → j ≢ i → get_elem? (set l i a) j ≡ get_elem? l j
  at_else [] i j a n = refl
  at_else (x ∷ xs) zero zero a n = absurd (n refl)
  at_else (x ∷ xs) zero (suc j) a n = refl
  at_else (x ∷ xs) (suc i) zero a n = refl
  at_else (x ∷ xs) (suc i) (suc j) a n = at_else xs i j a (λ e. n (ap suc e))

  pub at_longer : (l m : List A) (j : ℕ) (a : A) → IsAt l j a → IsAt (l ++ m) j a
  at_longer [] m j a e = absurd (some-ne-none a (sym e))
  at_longer (x ∷ xs) m zero a e = e
  at_longer (x ∷ xs) m (suc j) a e = at_longer xs m j a e

  pub at_last : (l : List A) (a : A) → IsAt (l ++ a ∷ []) (length l) a
  at_last [] a = refl
  at_last (x ∷ xs) a = at_last xs a

  pub at_one : (l : List A) (j : ℕ) (a b : A) → IsAt l j a → IsAt l j b → a ≡ b
  at_one l j a b e f = some-injective a b (cc)

  -- what holds at each place and of a new element holds at each place where the new element stands in place of another
  pub each_set : (P : A → Type 0) (l : List A) (i : ℕ) (a : A) → ((j : ℕ) (b : A) → IsAt l j b → P b) → P a → (j : ℕ) (b : A) → IsAt (set l i a) j b → P b
  each_set P l i a h p j b e = ⊎_elim (λ t. subst P t.1 p) (λ t. h j b t.1) (at_set l i j a b e)

  pub each_more : (P : A → Type 0) (l : List A) (a : A) → ((j : ℕ) (b : A) → IsAt l j b → P b) → P a → (j : ℕ) (b : A) → IsAt (l ++ a ∷ []) j b → P b
  each_more P l a h p j b e = ⊎_elim (λ t. h j b t) (λ t. subst P t.0 p) (at_more l a b j e)

  pub put_here : (f : ℕ → A) (k : ℕ) (a : A) → put f k a k ≡ a
  unfolding put
  put_here f k a = ap (λ (b : Bool). cond b a (f k)) (eq-eqb k k refl)

  pub put_else : (f : ℕ → A) (k : ℕ) (a : A) (j : ℕ) → j ≢ k → put f k a j ≡ f j
  unfolding put
  put_else f k a j n = ap (λ (b : Bool). cond b a (f j)) (ne_eqb j k n)

  -- the same where only the other places matter
  pub each_set_else : (P : A → Type 0) (l : List A) (i : ℕ) (a : A) → ((j : ℕ) (b : A) → j ≢ i → IsAt l j b → P b) → P a → (j : ℕ) (b : A) → IsAt (set l i a) j b → P b
  each_set_else P l i a h p j b e = ⊎_elim (λ t. subst P t.1 p) (λ t. h j b t.0 t.1) (at_set l i j a b e)

  -- what holds at some place still does where what holds of the old element holds of the new one
  pub some_set : (Q : A → Type 0) (l : List A) (i : ℕ) (a b : A) → IsAt l i a → (Q a → Q b) → (j : ℕ) (c : A) → IsAt l j c → Q c → (j' : ℕ) × (c' : A) × IsAt (set l i b) j' c' × Q c'
  some_set Q l i a b e f j c d q =
      ⊎_elim (λ (p : j ≡ i). let at_i : IsAt l i c = subst (λ (n : ℕ). IsAt l n c) p d in let same : c ≡ a = at_one l i c a at_i e in (i, b, at_here l i b (at_below l i a e), f (subst Q same q)))
      (λ (p : j ≢ i). (j, c, at_else l i j b p ∙ d, q))
      (same_or j i)

  pub at_get : (l : List A) (k : ℕ) (a d : A) → IsAt l k a → get_or l k d ≡ a
  at_get [] k a d e = absurd (some-ne-none a (sym e))
  at_get (x ∷ xs) zero a d e = some-injective x a e
  at_get (x ∷ xs) (suc k) a d e = at_get xs k a d e

  pub at_some : (l : List A) (k : ℕ) → k < length l → (a : A) × IsAt l k a
  at_some [] k h = absurd (omega arith)
  at_some (x ∷ xs) zero h = (x, refl)
  at_some (x ∷ xs) (suc k) h = at_some xs k (omega arith)

  -- lists of one length are equal where they are so at each place
  pub same_lists : (l m : List A) → length l ≡ length m → ((k : ℕ) (a b : A) → IsAt l k a → IsAt m k b → a ≡ b) → l ≡ m
  same_lists [] [] e h = refl
  same_lists [] (y ∷ m) e h = absurd (omega arith)
  same_lists (x ∷ l) [] e h = absurd (omega arith)
  same_lists (x ∷ l) (y ∷ m) e h = let p : x ≡ y = h 0 x y refl refl in let q : l ≡ m = same_lists l m (omega arith) (λ k a b. h (suc k) a b) in cc

  pub at_map : {B : Type 0} (f : A → B) (l : List A) (k : ℕ) (a : A) → IsAt l k a → IsAt (map f l) k (f a)
  at_map f [] k a e = absurd (some-ne-none a (sym e))
  at_map f (x ∷ xs) zero a e = ap (λ (y : A). some (f y)) (some-injective x a e)
  at_map f (x ∷ xs) (suc k) a e = at_map f xs k a e

  pub at_map_back : {B : Type 0} (f : A → B) (l : List A) (k : ℕ) (b : B) → IsAt (map f l) k b → (a : A) × IsAt l k a × (f a ≡ b)
  at_map_back f [] k b e = absurd (some-ne-none b (sym e))
  at_map_back f (x ∷ xs) zero b e = (x, refl, some-injective (f x) b e)
  at_map_back f (x ∷ xs) (suc k) b e = at_map_back f xs k b e
