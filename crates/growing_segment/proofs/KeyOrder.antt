-- Lists of entries whose keys rise: what stands left and right of an entry, and look-ups.
use Rattle.std.proofs.Common.{◌≡◌, ℕ, suc, ℤ, ◌+◌, ◌≤◌, ◌<ℤ◌, ◌≤ℤ◌, Bool, true, false, cond, List, [], ◌∷◌, ◌++◌, length, Option, Some, None, refl, sym, ap, subst, ◌∙◌, arith, append_assoc}
use Rattle.std.proofs.lemmas.Int.{ints}
use Rattle.std.specs.Prelude.{int_lt}
use Rattle.std.specs.Ordering.{int_cmp, int_eq}
use Rattle.std.specs.FinMap.{find}
use Rattle.growing_segment.specs.Trees.{Entry, AreBelow, AreAbove, KeysRise, with_entry, without_key}

pub lt_is : (a b : ℤ) → a <ℤ b → int_lt a b ≡ true
lt_is a b h = grind (arith, ints)

pub not_lt : (a b : ℤ) → b ≤ℤ a → int_lt a b ≡ false
not_lt a b h = grind (arith, ints)

lt_true : (a b : ℤ) → int_lt a b ≡ true → a <ℤ b
lt_true a b h = grind (arith, ints)

lt_false : (a b : ℤ) → int_lt a b ≡ false → b ≤ℤ a
lt_false a b h = grind (arith, ints)

eq_is : (a b : ℤ) → a ≡ b → int_eq a b ≡ true
eq_is a b h = grind (arith, ints)

not_eq_below : (a b : ℤ) → a <ℤ b → int_eq a b ≡ false
not_eq_below a b h = grind (arith, ints)

not_eq_above : (a b : ℤ) → b <ℤ a → int_eq a b ≡ false
not_eq_above a b h = grind (arith, ints)

same_from : (a b : ℤ) → a ≤ℤ b → b ≤ℤ a → a ≡ b
same_from a b h i = omega (arith, ints)

below_through : (a b c : ℤ) → a <ℤ b → b <ℤ c → a <ℤ c
below_through a b c h i = omega (arith, ints)

-- ---- below and above

below_more : (k m : ℤ) (es : List Entry) → k <ℤ m → AreBelow k es → AreBelow m es
below_more k m [] h b = tt
below_more k m (e ∷ es) h b = (below_through e.0 k m b.0 h, below_more k m es h b.1)

above_more : (k m : ℤ) (es : List Entry) → k <ℤ m → AreAbove m es → AreAbove k es
above_more k m [] h a = tt
above_more k m (e ∷ es) h a = (below_through k m e.0 h a.0, above_more k m es h a.1)

above_front : (k : ℤ) (l r : List Entry) → AreAbove k (l ++ r) → AreAbove k l
above_front k [] r a = tt
above_front k (e ∷ l) r a = (a.0, above_front k l r a.1)

above_entry : (k : ℤ) (l : List Entry) (e : Entry) (r : List Entry) → AreAbove k (l ++ e ∷ r) → k <ℤ e.0
above_entry k [] e r a = a.0
above_entry k (x ∷ l) e r a = above_entry k l e r a.1

-- ---- parts of a list whose keys rise

pub rise_left : (l r : List Entry) → KeysRise (l ++ r) → KeysRise l
rise_left [] r s = tt
rise_left (x ∷ l) r s = (above_front x.0 l r s.0, rise_left l r s.1)

pub rise_right : (l : List Entry) (e : Entry) (r : List Entry) → KeysRise (l ++ e ∷ r) → KeysRise r
rise_right [] e r s = s.1
rise_right (x ∷ l) e r s = rise_right l e r s.1

pub rise_below : (l : List Entry) (e : Entry) (r : List Entry) → KeysRise (l ++ e ∷ r) → AreBelow e.0 l
rise_below [] e r s = tt
rise_below (x ∷ l) e r s = (above_entry x.0 l e r s.0, rise_below l e r s.1)

pub rise_above : (l : List Entry) (e : Entry) (r : List Entry) → KeysRise (l ++ e ∷ r) → AreAbove e.0 r
rise_above [] e r s = s.0
rise_above (x ∷ l) e r s = rise_above l e r s.1

pub regrouped : (x : List Entry) (p : Entry) (y : List Entry) (n : Entry) (z : List Entry) → (x ++ p ∷ y) ++ n ∷ z ≡ x ++ p ∷ (y ++ n ∷ z)
regrouped x p y n z = append_assoc x (p ∷ y) (n ∷ z)

-- the right part of the left part, and what is right of that
pub rise_inner_right : (x : List Entry) (p : Entry) (y : List Entry) (n : Entry) (z : List Entry) → KeysRise ((x ++ p ∷ y) ++ n ∷ z) → KeysRise (y ++ n ∷ z)
rise_inner_right x p y n z s = rise_right x p (y ++ n ∷ z) (subst KeysRise (regrouped x p y n z) s)

-- the left part of the right part, and what is left of that
pub rise_inner_left : (x : List Entry) (p : Entry) (y : List Entry) (n : Entry) (z : List Entry) → KeysRise (x ++ p ∷ (y ++ n ∷ z)) → KeysRise (x ++ p ∷ y)
rise_inner_left x p y n z s = rise_left (x ++ p ∷ y) (n ∷ z) (subst KeysRise (sym (regrouped x p y n z)) s)

-- ---- an entry set

with_later : (new e : Entry) (es : List Entry) → e.0 <ℤ new.0 → with_entry new (e ∷ es) ≡ e ∷ with_entry new es
with_later new e es h = rw (not_lt new.0 e.0 (omega (arith, ints)), lt_is e.0 new.0 h)

left_cases : (a b : Bool) (new x : Entry) (l m u v : List Entry) → v ≡ u ++ m → cond a (new ∷ x ∷ (l ++ m)) (cond b (x ∷ v) (new ∷ (l ++ m))) ≡ cond a (new ∷ x ∷ l) (cond b (x ∷ u) (new ∷ l)) ++ m
left_cases true b new x l m u v e = refl
left_cases false true new x l m u v e = ap (λ t. x ∷ t) e
left_cases false false new x l m u v e = refl

pub with_left : (new e : Entry) (l r : List Entry) → new.0 <ℤ e.0 → with_entry new (l ++ e ∷ r) ≡ with_entry new l ++ e ∷ r
with_left new e [] r h = rw (lt_is new.0 e.0 h)
with_left new e (x ∷ l) r h = left_cases (int_lt new.0 x.0) (int_lt x.0 new.0) new x l (e ∷ r) (with_entry new l) _ (with_left new e l r h)

pub with_right : (new e : Entry) (l r : List Entry) → e.0 <ℤ new.0 → AreBelow e.0 l → with_entry new (l ++ e ∷ r) ≡ l ++ e ∷ with_entry new r
with_right new e [] r h b = with_later new e r h
with_right new e (x ∷ l) r h b = with_later new x (l ++ e ∷ r) (below_through x.0 e.0 new.0 b.0 h) ∙ ap (λ t. x ∷ t) (with_right new e l r h b.1)

pub with_middle : (new e : Entry) (l r : List Entry) → new.0 ≡ e.0 → AreBelow e.0 l → with_entry new (l ++ e ∷ r) ≡ l ++ new ∷ r
with_middle new e [] r h b = rw (not_lt new.0 e.0 (omega (arith, ints)), not_lt e.0 new.0 (omega (arith, ints)))
with_middle new e (x ∷ l) r h b =
    let lower : x.0 <ℤ e.0 = b.0 in
    with_later new x (l ++ e ∷ r) (omega (arith, ints)) ∙ ap (λ t. x ∷ t) (with_middle new e l r h b.1)

above_with_cases : (k : ℤ) (a b : Bool) (new e : Entry) (es u : List Entry) → k <ℤ new.0 → AreAbove k (e ∷ es) → AreAbove k u → AreAbove k (cond a (new ∷ e ∷ es) (cond b (e ∷ u) (new ∷ es)))
above_with_cases k true b new e es u h s t = (h, s)
above_with_cases k false true new e es u h s t = (s.0, t)
above_with_cases k false false new e es u h s t = (h, s.1)

above_with : (k : ℤ) (new : Entry) (es : List Entry) → k <ℤ new.0 → AreAbove k es → AreAbove k (with_entry new es)
above_with k new [] h s = (h, tt)
above_with k new (e ∷ es) h s = above_with_cases k (int_lt new.0 e.0) (int_lt e.0 new.0) new e es (with_entry new es) h s (above_with k new es h s.1)

rise_with_cases : (a b : Bool) (new e : Entry) (es u : List Entry) → int_lt new.0 e.0 ≡ a → int_lt e.0 new.0 ≡ b → KeysRise (e ∷ es) → (e.0 <ℤ new.0 → AreAbove e.0 u) → KeysRise u → KeysRise (cond a (new ∷ e ∷ es) (cond b (e ∷ u) (new ∷ es)))
rise_with_cases true b new e es u p q s t r = let h : new.0 <ℤ e.0 = lt_true new.0 e.0 p in ((h, above_more new.0 e.0 es h s.0), s)
rise_with_cases false true new e es u p q s t r = (t (lt_true e.0 new.0 q), r)
rise_with_cases false false new e es u p q s t r =
    let is : e.0 ≡ new.0 = same_from e.0 new.0 (lt_false new.0 e.0 p) (lt_false e.0 new.0 q) in
    (subst (λ k. AreAbove k es) is s.0, s.1)

pub rise_with : (new : Entry) (es : List Entry) → KeysRise es → KeysRise (with_entry new es)
rise_with new [] s = (tt, tt)
rise_with new (e ∷ es) s = rise_with_cases (int_lt new.0 e.0) (int_lt e.0 new.0) new e es (with_entry new es) refl refl s (λ h. above_with e.0 new es h s.0) (rise_with new es s.1)

-- ---- a key taken out

without_later : (k : ℤ) (e : Entry) (es : List Entry) → e.0 <ℤ k → without_key k (e ∷ es) ≡ e ∷ without_key k es
without_later k e es h = rw (not_lt k e.0 (omega (arith, ints)), lt_is e.0 k h)

left_cases_out : (a b : Bool) (x : Entry) (l m u v : List Entry) → v ≡ u ++ m → cond a (x ∷ (l ++ m)) (cond b (x ∷ v) (l ++ m)) ≡ cond a (x ∷ l) (cond b (x ∷ u) l) ++ m
left_cases_out true b x l m u v e = refl
left_cases_out false true x l m u v e = ap (λ t. x ∷ t) e
left_cases_out false false x l m u v e = refl

pub without_left : (k : ℤ) (e : Entry) (l r : List Entry) → k <ℤ e.0 → without_key k (l ++ e ∷ r) ≡ without_key k l ++ e ∷ r
without_left k e [] r h = rw (lt_is k e.0 h)
without_left k e (x ∷ l) r h = left_cases_out (int_lt k x.0) (int_lt x.0 k) x l (e ∷ r) (without_key k l) _ (without_left k e l r h)

pub without_right : (k : ℤ) (e : Entry) (l r : List Entry) → e.0 <ℤ k → AreBelow e.0 l → without_key k (l ++ e ∷ r) ≡ l ++ e ∷ without_key k r
without_right k e [] r h b = without_later k e r h
without_right k e (x ∷ l) r h b = without_later k x (l ++ e ∷ r) (below_through x.0 e.0 k b.0 h) ∙ ap (λ t. x ∷ t) (without_right k e l r h b.1)

pub without_middle : (k : ℤ) (e : Entry) (l r : List Entry) → k ≡ e.0 → AreBelow e.0 l → without_key k (l ++ e ∷ r) ≡ l ++ r
without_middle k e [] r h b = rw (not_lt k e.0 (omega (arith, ints)), not_lt e.0 k (omega (arith, ints)))
without_middle k e (x ∷ l) r h b =
    let lower : x.0 <ℤ e.0 = b.0 in
    without_later k x (l ++ e ∷ r) (omega (arith, ints)) ∙ ap (λ t. x ∷ t) (without_middle k e l r h b.1)

above_without_cases : (k : ℤ) (a b : Bool) (e : Entry) (es u : List Entry) → AreAbove k (e ∷ es) → AreAbove k u → AreAbove k (cond a (e ∷ es) (cond b (e ∷ u) es))
above_without_cases k true b e es u s t = s
above_without_cases k false true e es u s t = (s.0, t)
above_without_cases k false false e es u s t = s.1

above_without : (k out : ℤ) (es : List Entry) → AreAbove k es → AreAbove k (without_key out es)
above_without k out [] s = tt
above_without k out (e ∷ es) s = above_without_cases k (int_lt out e.0) (int_lt e.0 out) e es (without_key out es) s (above_without k out es s.1)

rise_without_cases : (a b : Bool) (e : Entry) (es u : List Entry) → KeysRise (e ∷ es) → AreAbove e.0 u → KeysRise u → KeysRise (cond a (e ∷ es) (cond b (e ∷ u) es))
rise_without_cases true b e es u s t r = s
rise_without_cases false true e es u s t r = (t, r)
rise_without_cases false false e es u s t r = s.1

pub rise_without : (k : ℤ) (es : List Entry) → KeysRise es → KeysRise (without_key k es)
rise_without k [] s = tt
rise_without k (e ∷ es) s = rise_without_cases (int_lt k e.0) (int_lt e.0 k) e es (without_key k es) s (above_without e.0 k es s.0) (rise_without k es s.1)

-- ---- look-ups

none_above : (q : ℤ) (es : List Entry) → AreAbove q es → find int_cmp q es ≡ None
none_above q [] a = refl
none_above q (e ∷ es) a = rw (not_eq_below q e.0 a.0) (none_above q es a.1)

pub find_left : (q : ℤ) (e : Entry) (l r : List Entry) → q <ℤ e.0 → AreAbove e.0 r → find int_cmp q (l ++ e ∷ r) ≡ find int_cmp q l
find_left q e [] r h a = rw (not_eq_below q e.0 h) (none_above q r (above_more q e.0 r h a))
find_left q e (x ∷ l) r h a = ap (cond (int_eq q x.0) (Some x.1)) (find_left q e l r h a)

pub find_right : (q : ℤ) (e : Entry) (l r : List Entry) → e.0 <ℤ q → AreBelow e.0 l → find int_cmp q (l ++ e ∷ r) ≡ find int_cmp q r
find_right q e [] r h b = rw (not_eq_above q e.0 h)
find_right q e (x ∷ l) r h b = rw (not_eq_above q x.0 (below_through x.0 e.0 q b.0 h)) (find_right q e l r h b.1)

pub find_middle : (q : ℤ) (e : Entry) (l r : List Entry) → q ≡ e.0 → AreBelow e.0 l → find int_cmp q (l ++ e ∷ r) ≡ Some e.1
find_middle q e [] r h b = rw (eq_is q e.0 h)
find_middle q e (x ∷ l) r h b = let lower : x.0 <ℤ e.0 = b.0 in rw (not_eq_above q x.0 (omega (arith, ints))) (find_middle q e l r h b.1)

-- ---- one level of a tree, whose whole list is l ++ e ∷ r

pub rise_with_left : (new e : Entry) (l m r : List Entry) → m ≡ with_entry new l → int_lt new.0 e.0 ≡ true → KeysRise (l ++ e ∷ r) → KeysRise (m ++ e ∷ r)
rise_with_left new e l m r is h s = rw is (subst KeysRise (with_left new e l r (lt_true new.0 e.0 h)) (rise_with new (l ++ e ∷ r) s))

pub rise_with_right : (new e : Entry) (l r m : List Entry) → m ≡ with_entry new r → int_lt e.0 new.0 ≡ true → KeysRise (l ++ e ∷ r) → KeysRise (l ++ e ∷ m)
rise_with_right new e l r m is h s = rw is (subst KeysRise (with_right new e l r (lt_true e.0 new.0 h) (rise_below l e r s)) (rise_with new (l ++ e ∷ r) s))

pub rise_with_middle : (p : ℕ) (e : Entry) (l r : List Entry) → KeysRise (l ++ e ∷ r) → KeysRise (l ++ (e.0, p) ∷ r)
rise_with_middle p e l r s = subst KeysRise (with_middle (e.0, p) e l r refl (rise_below l e r s)) (rise_with (e.0, p) (l ++ e ∷ r) s)

pub is_with_left : (new e : Entry) (l m r whole : List Entry) → m ≡ with_entry new l → int_lt new.0 e.0 ≡ true → whole ≡ l ++ e ∷ r → m ++ e ∷ r ≡ with_entry new whole
is_with_left new e l m r whole is h w = rw (is, w) (sym (with_left new e l r (lt_true new.0 e.0 h)))

pub is_with_right : (new e : Entry) (l r m whole : List Entry) → m ≡ with_entry new r → int_lt e.0 new.0 ≡ true → KeysRise (l ++ e ∷ r) → whole ≡ l ++ e ∷ r → l ++ e ∷ m ≡ with_entry new whole
is_with_right new e l r m whole is h s w = rw (is, w) (sym (with_right new e l r (lt_true e.0 new.0 h) (rise_below l e r s)))

pub is_with_middle : (k : ℤ) (p : ℕ) (e : Entry) (l r whole : List Entry) → int_lt k e.0 ≡ false → int_lt e.0 k ≡ false → KeysRise (l ++ e ∷ r) → whole ≡ l ++ e ∷ r → l ++ (e.0, p) ∷ r ≡ with_entry (k, p) whole
is_with_middle k p e l r whole h i s w =
    let is : k ≡ e.0 = same_from k e.0 (lt_false e.0 k i) (lt_false k e.0 h) in
    rw w (subst (λ (x : ℤ). l ++ (x, p) ∷ r ≡ with_entry (k, p) (l ++ e ∷ r)) is (sym (with_middle (k, p) e l r is (rise_below l e r s))))

pub rise_without_left : (k : ℤ) (e : Entry) (l m r : List Entry) → m ≡ without_key k l → int_lt k e.0 ≡ true → KeysRise (l ++ e ∷ r) → KeysRise (m ++ e ∷ r)
rise_without_left k e l m r is h s = rw is (subst KeysRise (without_left k e l r (lt_true k e.0 h)) (rise_without k (l ++ e ∷ r) s))

pub rise_without_right : (k : ℤ) (e : Entry) (l r m : List Entry) → m ≡ without_key k r → int_lt e.0 k ≡ true → KeysRise (l ++ e ∷ r) → KeysRise (l ++ e ∷ m)
rise_without_right k e l r m is h s = rw is (subst KeysRise (without_right k e l r (lt_true e.0 k h) (rise_below l e r s)) (rise_without k (l ++ e ∷ r) s))

pub rise_without_middle : (k : ℤ) (e : Entry) (l r : List Entry) → int_lt k e.0 ≡ false → int_lt e.0 k ≡ false → KeysRise (l ++ e ∷ r) → KeysRise (l ++ r)
rise_without_middle k e l r h i s =
    let is : k ≡ e.0 = same_from k e.0 (lt_false e.0 k i) (lt_false k e.0 h) in
    subst KeysRise (without_middle k e l r is (rise_below l e r s)) (rise_without k (l ++ e ∷ r) s)

pub is_without_left : (k : ℤ) (e : Entry) (l m r whole : List Entry) → m ≡ without_key k l → int_lt k e.0 ≡ true → whole ≡ l ++ e ∷ r → m ++ e ∷ r ≡ without_key k whole
is_without_left k e l m r whole is h w = rw (is, w) (sym (without_left k e l r (lt_true k e.0 h)))

pub is_without_right : (k : ℤ) (e : Entry) (l r m whole : List Entry) → m ≡ without_key k r → int_lt e.0 k ≡ true → KeysRise (l ++ e ∷ r) → whole ≡ l ++ e ∷ r → l ++ e ∷ m ≡ without_key k whole
is_without_right k e l r m whole is h s w = rw (is, w) (sym (without_right k e l r (lt_true e.0 k h) (rise_below l e r s)))

pub is_without_middle : (k : ℤ) (e : Entry) (l r whole : List Entry) → int_lt k e.0 ≡ false → int_lt e.0 k ≡ false → KeysRise (l ++ e ∷ r) → whole ≡ l ++ e ∷ r → l ++ r ≡ without_key k whole
is_without_middle k e l r whole h i s w =
    let is : k ≡ e.0 = same_from k e.0 (lt_false e.0 k i) (lt_false k e.0 h) in
    rw w (sym (without_middle k e l r is (rise_below l e r s)))

pub is_found_left : (q : ℤ) (e : Entry) (l r whole : List Entry) → int_lt q e.0 ≡ true → KeysRise (l ++ e ∷ r) → l ++ e ∷ r ≡ whole → find int_cmp q l ≡ find int_cmp q whole
is_found_left q e l r whole h s w = sym (find_left q e l r (lt_true q e.0 h) (rise_above l e r s)) ∙ ap (find int_cmp q) w

pub is_found_right : (q : ℤ) (e : Entry) (l r whole : List Entry) → int_lt e.0 q ≡ true → KeysRise (l ++ e ∷ r) → l ++ e ∷ r ≡ whole → find int_cmp q r ≡ find int_cmp q whole
is_found_right q e l r whole h s w = sym (find_right q e l r (lt_true e.0 q h) (rise_below l e r s)) ∙ ap (find int_cmp q) w

pub is_found_middle : (q : ℤ) (e : Entry) (l r whole : List Entry) → int_lt q e.0 ≡ false → int_lt e.0 q ≡ false → KeysRise (l ++ e ∷ r) → l ++ e ∷ r ≡ whole → Some e.1 ≡ find int_cmp q whole
is_found_middle q e l r whole h i s w = sym (find_middle q e l r (same_from q e.0 (lt_false e.0 q i) (lt_false q e.0 h)) (rise_below l e r s)) ∙ ap (find int_cmp q) w

-- ---- what the map of the entries becomes

pub eq_true : (a b : ℤ) → int_eq a b ≡ true → a ≡ b
eq_true a b h = grind (arith, ints)

apart : (q a b : ℤ) → a <ℤ b → int_eq q a ≡ true → int_eq q b ≡ true → ⊥
apart q a b h i j = let f : q ≡ a = eq_true q a i in let g : q ≡ b = eq_true q b j in omega (arith, ints)

-- of two tests that are not both met, either may come first
passed : {A : Type 0} (a b : Bool) (x y z : A) → (a ≡ true → b ≡ true → ⊥) → cond a x (cond b y z) ≡ cond b y (cond a x z)
passed true true x y z h = absurd (h refl refl)
passed true false x y z h = refl
passed false b x y z h = refl

-- the second of two equal tests is never reached
hidden : {A : Type 0} (b : Bool) (x y z : A) → cond b x z ≡ cond b x (cond b y z)
hidden true x y z = refl
hidden false x y z = refl

ignored : (b : Bool) (o : Option ℕ) → (b ≡ true → o ≡ None) → o ≡ cond b None o
ignored true o h = h refl
ignored false o h = refl

none_either : (b : Bool) → ◌≡◌ {A = Option ℕ} None (cond b None None)
none_either true = refl
none_either false = refl

with_cases : (x y : Bool) (q : ℤ) (new e : Entry) (es u : List Entry) → int_lt new.0 e.0 ≡ x → int_lt e.0 new.0 ≡ y → find int_cmp q u ≡ cond (int_eq q new.0) (Some new.1) (find int_cmp q es) → find int_cmp q (cond x (new ∷ e ∷ es) (cond y (e ∷ u) (new ∷ es))) ≡ cond (int_eq q new.0) (Some new.1) (cond (int_eq q e.0) (Some e.1) (find int_cmp q es))
with_cases true y q new e es u h i t = refl
with_cases false true q new e es u h i t = rw t (passed (int_eq q e.0) (int_eq q new.0) (Some e.1) (Some new.1) (find int_cmp q es) (λ a b. apart q e.0 new.0 (lt_true e.0 new.0 i) a b))
with_cases false false q new e es u h i t =
    let is : new.0 ≡ e.0 = same_from new.0 e.0 (lt_false e.0 new.0 i) (lt_false new.0 e.0 h) in
    rw (← is) (hidden (int_eq q new.0) (Some new.1) (Some e.1) (find int_cmp q es))

pub find-with_entry : (q : ℤ) (new : Entry) (es : List Entry) → find int_cmp q (with_entry new es) ≡ cond (int_eq q new.0) (Some new.1) (find int_cmp q es)
find-with_entry q new [] = refl
find-with_entry q new (e ∷ es) = with_cases (int_lt new.0 e.0) (int_lt e.0 new.0) q new e es (with_entry new es) refl refl (find-with_entry q new es)

without_cases : (x y : Bool) (q k : ℤ) (e : Entry) (es u : List Entry) → int_lt k e.0 ≡ x → int_lt e.0 k ≡ y → KeysRise (e ∷ es) → find int_cmp q u ≡ cond (int_eq q k) None (find int_cmp q es) → find int_cmp q (cond x (e ∷ es) (cond y (e ∷ u) es)) ≡ cond (int_eq q k) None (cond (int_eq q e.0) (Some e.1) (find int_cmp q es))
without_cases true y q k e es u h i s t =
    let low : k <ℤ e.0 = lt_true k e.0 h in
    ignored (int_eq q k) (find int_cmp q (e ∷ es)) (λ same. subst (λ (x : ℤ). find int_cmp x (e ∷ es) ≡ None) (sym (eq_true q k same)) (none_above k (e ∷ es) (low, above_more k e.0 es low s.0)))
without_cases false true q k e es u h i s t = rw t (passed (int_eq q e.0) (int_eq q k) (Some e.1) None (find int_cmp q es) (λ a b. apart q e.0 k (lt_true e.0 k i) a b))
without_cases false false q k e es u h i s t =
    let is : k ≡ e.0 = same_from k e.0 (lt_false e.0 k i) (lt_false k e.0 h) in
    rw is (ignored (int_eq q e.0) (find int_cmp q es) (λ same. subst (λ (x : ℤ). find int_cmp x es ≡ None) (sym (eq_true q e.0 same)) (none_above e.0 es s.0)) ∙ hidden (int_eq q e.0) None (Some e.1) (find int_cmp q es))

pub find-without_key : (q k : ℤ) (es : List Entry) → KeysRise es → find int_cmp q (without_key k es) ≡ cond (int_eq q k) None (find int_cmp q es)
find-without_key q k [] s = none_either (int_eq q k)
find-without_key q k (e ∷ es) s = without_cases (int_lt k e.0) (int_lt e.0 k) q k e es (without_key k es) refl refl s (find-without_key q k es s.1)

-- ---- how many entries there are

cond_at_least : (x y : Bool) (new e : Entry) (es u : List Entry) → length es ≤ length u → suc (length es) ≤ length (cond x (new ∷ e ∷ es) (cond y (e ∷ u) (new ∷ es)))
cond_at_least true y new e es u h = omega arith
cond_at_least false true new e es u h = omega arith
cond_at_least false false new e es u h = omega arith

pub length-with-least : (new : Entry) (es : List Entry) → length es ≤ length (with_entry new es)
length-with-least new [] = omega arith
length-with-least new (e ∷ es) = cond_at_least (int_lt new.0 e.0) (int_lt e.0 new.0) new e es (with_entry new es) (length-with-least new es)

cond_at_most : (x y : Bool) (new e : Entry) (es u : List Entry) → length u ≤ length es + 1 → length (cond x (new ∷ e ∷ es) (cond y (e ∷ u) (new ∷ es))) ≤ suc (length es) + 1
cond_at_most true y new e es u h = omega arith
cond_at_most false true new e es u h = omega arith
cond_at_most false false new e es u h = omega arith

pub length-with-most : (new : Entry) (es : List Entry) → length (with_entry new es) ≤ length es + 1
length-with-most new [] = omega arith
length-with-most new (e ∷ es) = cond_at_most (int_lt new.0 e.0) (int_lt e.0 new.0) new e es (with_entry new es) (length-with-most new es)

cond_no_more : (x y : Bool) (e : Entry) (es u : List Entry) → length u ≤ length es → length (cond x (e ∷ es) (cond y (e ∷ u) es)) ≤ suc (length es)
cond_no_more true y e es u h = omega arith
cond_no_more false true e es u h = omega arith
cond_no_more false false e es u h = omega arith

pub length-without : (k : ℤ) (es : List Entry) → length (without_key k es) ≤ length es
length-without k [] = omega arith
length-without k (e ∷ es) = cond_no_more (int_lt k e.0) (int_lt e.0 k) e es (without_key k es) (length-without k es)
