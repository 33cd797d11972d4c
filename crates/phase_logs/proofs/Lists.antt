-- Members of lists that are made of others, and numbers that stand once.
use Rattle.std.proofs.Common.{◌≡◌, ℕ, ◌+◌, ◌≤◌, Bool, true, false, cond, List, [], ◌∷◌, ◌++◌, map, inl, inr, ⊎_elim, refl, sym, ap, subst, ◌∙◌, arith}
use Rattle.std.specs.List.{filter, flat_map}
use Rattle.std.proofs.lemmas.List.{map-append}
use Rattle.turn_facts.specs.Counts.{count, Among}
use Rattle.turn_facts.proofs.Counts.{count-append}
use Rattle.journal_model.specs.Lists.{IsIn}
use Rattle.journal_model.proofs.ListLaws.{in_left, in_right, in_cases}

module _ {X A : Type 0} (f : X → List A) where
  -- an item of the whole is of one of the lists
  pub record From (xs : List X) (y : A) : Type 0 where
    pub item : X
    pub among : IsIn item xs
    pub here : IsIn y (f item)

  pub out_flat : (xs : List X) (y : A) → IsIn y (flat_map f xs) → From xs y
  out_flat [] y h = absurd h
  out_flat (x ∷ xs) y h = ⊎_elim (λ (l : IsIn y (f x)). record { item = x; among = inl refl; here = l })
      (λ (r : IsIn y (flat_map f xs)). let o : From xs y = out_flat xs y r in record { item = o.item; among = inr o.among; here = o.here })
      (in_cases y (f x) (flat_map f xs) h)

  pub in_flat : (xs : List X) (x : X) (y : A) → IsIn x xs → IsIn y (f x) → IsIn y (flat_map f xs)
  in_flat [] x y h g = absurd h
  in_flat (z ∷ xs) x y (inl p) g = in_left y (f z) (flat_map f xs) (subst (λ (w : X). IsIn y (f w)) p g)
  in_flat (z ∷ xs) x y (inr h) g = in_right y (f z) (flat_map f xs) (in_flat xs x y h g)

module _ {X : Type 0} (f : X → List ℕ) where
  among_flat : (n : ℕ) (xs : List X) (x : X) → IsIn x xs → Among n (f x) → Among n (flat_map f xs)
  among_flat n [] x h a = absurd h
  among_flat n (z ∷ xs) x (inl p) a =
      let c : count n (f z ++ flat_map f xs) ≡ count n (f z) + count n (flat_map f xs) = count-append n (f z) (flat_map f xs) in
      let b : Among n (f z) = subst (λ (w : X). Among n (f w)) p a in omega arith
  among_flat n (z ∷ xs) x (inr h) a =
      let c : count n (f z ++ flat_map f xs) ≡ count n (f z) + count n (flat_map f xs) = count-append n (f z) (flat_map f xs) in
      let b : Among n (flat_map f xs) = among_flat n xs x h a in omega arith

  -- a number that stands once is of one item
  pub same_item : (n : ℕ) (xs : List X) → count n (flat_map f xs) ≤ 1 → (x y : X) → IsIn x xs → IsIn y xs → Among n (f x) → Among n (f y) → x ≡ y
  same_item n [] once x y h g a b = absurd h
  same_item n (z ∷ xs) once x y (inl p) (inl q) a b = p ∙ sym q
  same_item n (z ∷ xs) once x y (inl p) (inr g) a b =
      let c : count n (f z ++ flat_map f xs) ≡ count n (f z) + count n (flat_map f xs) = count-append n (f z) (flat_map f xs) in
      let u : Among n (f z) = subst (λ (w : X). Among n (f w)) p a in
      let v : Among n (flat_map f xs) = among_flat n xs y g b in absurd (omega arith)
  same_item n (z ∷ xs) once x y (inr h) (inl q) a b =
      let c : count n (f z ++ flat_map f xs) ≡ count n (f z) + count n (flat_map f xs) = count-append n (f z) (flat_map f xs) in
      let u : Among n (f z) = subst (λ (w : X). Among n (f w)) q b in
      let v : Among n (flat_map f xs) = among_flat n xs x h a in absurd (omega arith)
  same_item n (z ∷ xs) once x y (inr h) (inr g) a b =
      let c : count n (f z ++ flat_map f xs) ≡ count n (f z) + count n (flat_map f xs) = count-append n (f z) (flat_map f xs) in
      same_item n xs (omega arith) x y h g a b

-- the numbers of what lists make are at most those of the lists
pub flat_few : {X A : Type 0} (f : X → List A) (g : X → List ℕ) (ts_of : A → ℕ) (n : ℕ) → ((x : X) → count n (map ts_of (f x)) ≤ count n (g x)) → (xs : List X) → count n (map ts_of (flat_map f xs)) ≤ count n (flat_map g xs)
flat_few f g ts_of n few [] = omega arith
flat_few f g ts_of n few (x ∷ xs) =
    let a : count n (map ts_of (f x ++ flat_map f xs)) ≡ count n (map ts_of (f x)) + count n (map ts_of (flat_map f xs)) = ap (count n) (map-append ts_of (f x) (flat_map f xs)) ∙ count-append n (map ts_of (f x)) (map ts_of (flat_map f xs)) in
    let b : count n (g x ++ flat_map g xs) ≡ count n (g x) + count n (flat_map g xs) = count-append n (g x) (flat_map g xs) in
    let c : count n (map ts_of (f x)) ≤ count n (g x) = few x in
    let d : count n (map ts_of (flat_map f xs)) ≤ count n (flat_map g xs) = flat_few f g ts_of n few xs in omega arith

cond_few : {A : Type 0} (ts_of : A → ℕ) (n : ℕ) (x : A) (kept xs : List A) (b : Bool) → count n (map ts_of kept) ≤ count n (map ts_of xs) → count n (map ts_of (cond b (x ∷ kept) kept)) ≤ count n (map ts_of (x ∷ xs))
cond_few ts_of n x kept xs true h =
    let a : count n (ts_of x ∷ map ts_of kept) ≡ count n (ts_of x ∷ []) + count n (map ts_of kept) = count-append n (ts_of x ∷ []) (map ts_of kept) in
    let b : count n (ts_of x ∷ map ts_of xs) ≡ count n (ts_of x ∷ []) + count n (map ts_of xs) = count-append n (ts_of x ∷ []) (map ts_of xs) in omega arith
cond_few ts_of n x kept xs false h =
    let b : count n (ts_of x ∷ map ts_of xs) ≡ count n (ts_of x ∷ []) + count n (map ts_of xs) = count-append n (ts_of x ∷ []) (map ts_of xs) in omega arith

pub filter_few : {A : Type 0} (ts_of : A → ℕ) (n : ℕ) (p : A → Bool) (xs : List A) → count n (map ts_of (filter p xs)) ≤ count n (map ts_of xs)
filter_few ts_of n p [] = omega arith
filter_few ts_of n p (x ∷ xs) = cond_few ts_of n x (filter p xs) xs (p x) (filter_few ts_of n p xs)
