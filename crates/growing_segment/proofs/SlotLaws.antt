-- Trees in an array, each with the keys of one slot, as one map.
use Rattle.std.proofs.Common.{◌≡◌, ℕ, ℤ, zero, suc, ◌+◌, ◌≤◌, ◌<◌, Bool, true, false, cond, List, [], ◌∷◌, ◌++◌, length, get_or, set, Option, Some, None, nat_eq, refl, sym, ap, subst, ◌∙◌, arith, append_assoc, length-append}
use Rattle.std.proofs.Math.Nat.{mul-le-mul_left}
use Rattle.std.proofs.lemmas.List.{append-nil, get_or-set_same, get_or-set_other, length-set}
use Rattle.std.proofs.lemmas.Bool.{eqb-true, eq-eqb}
use Rattle.std.specs.Prelude.{int_lt}
use Rattle.std.specs.List.{AllByRecursion}
use Rattle.std.specs.Ordering.{int_cmp, int_eq}
use Rattle.std.specs.FinMap.{find}
use Rattle.growing_segment.specs.Trees.{Entry, Entries, KeysRise, with_entry, without_key}
use Rattle.growing_segment.specs.Slots.{mixed_of, slot_of}
use Rattle.growing_segment.specs.Buckets.{entries_in, AreOfSlot, AreSlotted, or_else}
use Rattle.growing_segment.proofs.KeyOrder.{eq_true, find-with_entry, find-without_key}

-- ---- slots

mixed_low : (k : ℤ) → mixed_of k < 4294967296
unfolding mixed_of
mixed_low k = omega arith

pub slot_below : (k : ℤ) (count : ℕ) → 0 < count → slot_of k count < count
unfolding slot_of
slot_below k count some =
    let low = mixed_low k in
    let most : mixed_of k ≤ 4294967295 = omega arith in
    omega (arith, mul-le-mul_left count most)

-- ---- look-ups in lists that stand behind one another

first_cases : (b : Bool) (p : ℕ) (u v w : Option ℕ) → u ≡ or_else v w → cond b (Some p) u ≡ or_else (cond b (Some p) v) w
first_cases true p u v w h = refl
first_cases false p u v w h = h

pub find-append : (q : ℤ) (xs ys : List Entry) → find int_cmp q (xs ++ ys) ≡ or_else (find int_cmp q xs) (find int_cmp q ys)
find-append q [] ys = refl
find-append q (x ∷ xs) ys = first_cases (int_eq q x.0) x.1 _ _ _ (find-append q xs ys)

pub or_none : (o : Option ℕ) → or_else o None ≡ o
or_none (Some p) = refl
or_none None = refl

pub or_else_assoc : (a b c : Option ℕ) → or_else (or_else a b) c ≡ or_else a (or_else b c)
or_else_assoc (Some p) b c = refl
or_else_assoc None b c = refl

pub or_else_middle : (b : Bool) (p : ℕ) (l r x : Option ℕ) → or_else l (cond b (Some p) (or_else r x)) ≡ or_else (or_else l (cond b (Some p) r)) x
or_else_middle b p (Some v) r x = refl
or_else_middle true p None r x = refl
or_else_middle false p None r x = refl

-- ---- a key is in the tree of its slot alone

not_same : (q a : ℤ) (b : Bool) → int_eq q a ≡ b → (q ≡ a → ⊥) → int_eq q a ≡ false
not_same q a true h n = absurd (n (eq_true q a h))
not_same q a false h n = h

none_of : (count j : ℕ) (q : ℤ) (es : List Entry) → AreOfSlot count j es → (slot_of q count ≡ j → ⊥) → find int_cmp q es ≡ None
none_of count j q [] are other = refl
none_of count j q (e ∷ es) are other =
    rw (not_same q e.0 (int_eq q e.0) refl (λ same. other (ap (λ (k : ℤ). slot_of k count) same ∙ are.0))) (none_of count j q es are.1 other)

none_later : (count from : ℕ) (q : ℤ) (trees : List Entries) → AreSlotted count from trees → slot_of q count < from → find int_cmp q (entries_in trees) ≡ None
none_later count from q [] are low = refl
none_later count from q (tree ∷ trees) are low =
    find-append q tree.list (entries_in trees)
    ∙ ap (λ (o : Option ℕ). or_else o (find int_cmp q (entries_in trees))) (none_of count from q tree.list are.0 (λ same. omega arith))
    ∙ none_later count (from + 1) q trees are.1 (omega arith)

find_slot : (count from i : ℕ) (q : ℤ) (trees : List Entries) (d : Entries) → AreSlotted count from trees → slot_of q count ≡ from + i → i < length trees → find int_cmp q (entries_in trees) ≡ find int_cmp q (get_or trees i d).list
find_slot count from i q [] d are is h = absurd (omega arith)
find_slot count from zero q (tree ∷ trees) d are is h =
    find-append q tree.list (entries_in trees)
    ∙ ap (or_else (find int_cmp q tree.list)) (none_later count (from + 1) q trees are.1 (omega arith))
    ∙ or_none (find int_cmp q tree.list)
find_slot count from (suc i) q (tree ∷ trees) d are is h =
    find-append q tree.list (entries_in trees)
    ∙ ap (λ (o : Option ℕ). or_else o (find int_cmp q (entries_in trees))) (none_of count from q tree.list are.0 (λ same. omega arith))
    ∙ find_slot count (from + 1) i q trees d are.1 (omega arith) (omega arith)

pub find_own : (q : ℤ) (trees : List Entries) (d : Entries) → 0 < length trees → AreSlotted (length trees) 0 trees → find int_cmp q (entries_in trees) ≡ find int_cmp q (get_or trees (slot_of q (length trees)) d).list
find_own q trees d some are = find_slot (length trees) 0 (slot_of q (length trees)) q trees d are (omega arith) (slot_below q (length trees) some)

-- ---- a tree put in the place of another

of_slot_at : (count from i : ℕ) (trees : List Entries) (d : Entries) → AreSlotted count from trees → i < length trees → AreOfSlot count (from + i) (get_or trees i d).list
of_slot_at count from i [] d are h = absurd (omega arith)
of_slot_at count from zero (tree ∷ trees) d are h = let e : from ≡ from + 0 = omega arith in subst (λ (j : ℕ). AreOfSlot count j tree.list) e are.0
of_slot_at count from (suc i) (tree ∷ trees) d are h =
    let e : (from + 1) + i ≡ from + suc i = omega arith in
    subst (λ (j : ℕ). AreOfSlot count j (get_or trees i d).list) e (of_slot_at count (from + 1) i trees d are.1 (omega arith))

slotted_set : (count from i : ℕ) (trees : List Entries) (t : Entries) → AreSlotted count from trees → AreOfSlot count (from + i) t.list → AreSlotted count from (set trees i t)
slotted_set count from i [] t are good = tt
slotted_set count from zero (tree ∷ trees) t are good = let e : from + 0 ≡ from = omega arith in (subst (λ (j : ℕ). AreOfSlot count j t.list) e good, are.1)
slotted_set count from (suc i) (tree ∷ trees) t are good =
    let e : from + suc i ≡ (from + 1) + i = omega arith in
    (are.0, slotted_set count (from + 1) i trees t are.1 (subst (λ (j : ℕ). AreOfSlot count j t.list) e good))

all_with_cases : (P : Entry → Type 0) (x y : Bool) (new e : Entry) (es u : List Entry) → P new → AllByRecursion P (e ∷ es) → AllByRecursion P u → AllByRecursion P (cond x (new ∷ e ∷ es) (cond y (e ∷ u) (new ∷ es)))
all_with_cases P true y new e es u n a b = (n, a)
all_with_cases P false true new e es u n a b = (a.0, b)
all_with_cases P false false new e es u n a b = (n, a.1)

all_with : (P : Entry → Type 0) (new : Entry) (es : List Entry) → P new → AllByRecursion P es → AllByRecursion P (with_entry new es)
all_with P new [] n a = (n, tt)
all_with P new (e ∷ es) n a = all_with_cases P (int_lt new.0 e.0) (int_lt e.0 new.0) new e es (with_entry new es) n a (all_with P new es n a.1)

all_without_cases : (P : Entry → Type 0) (x y : Bool) (e : Entry) (es u : List Entry) → AllByRecursion P (e ∷ es) → AllByRecursion P u → AllByRecursion P (cond x (e ∷ es) (cond y (e ∷ u) es))
all_without_cases P true y e es u a b = a
all_without_cases P false true e es u a b = (a.0, b)
all_without_cases P false false e es u a b = a.1

all_without : (P : Entry → Type 0) (k : ℤ) (es : List Entry) → AllByRecursion P es → AllByRecursion P (without_key k es)
all_without P k [] a = tt
all_without P k (e ∷ es) a = all_without_cases P (int_lt k e.0) (int_lt e.0 k) e es (without_key k es) a (all_without P k es a.1)

pub length_replaced : (trees : List Entries) (i : ℕ) (t d : Entries) → i < length trees → length (entries_in (set trees i t)) + length (get_or trees i d).list ≡ length (entries_in trees) + length t.list
length_replaced [] i t d h = absurd (omega arith)
length_replaced (tree ∷ trees) zero t d h = omega (arith, length-append t.list (entries_in trees), length-append tree.list (entries_in trees))
length_replaced (tree ∷ trees) (suc i) t d h =
    omega (arith, length-append tree.list (entries_in (set trees i t)), length-append tree.list (entries_in trees), length_replaced trees i t d (omega arith))

pub length_one : (trees : List Entries) (i : ℕ) (d : Entries) → i < length trees → length (get_or trees i d).list ≤ length (entries_in trees)
length_one [] i d h = absurd (omega arith)
length_one (tree ∷ trees) zero d h = omega (arith, length-append tree.list (entries_in trees))
length_one (tree ∷ trees) (suc i) d h = omega (arith, length-append tree.list (entries_in trees), length_one trees i d (omega arith))

-- the trees with an entry set in the tree of its slot
pub slotted_with : (trees : List Entries) (i : ℕ) (k : ℤ) (p : ℕ) (t d : Entries) → AreSlotted (length trees) 0 trees → slot_of k (length trees) ≡ i → i < length trees → t.list ≡ with_entry (k, p) (get_or trees i d).list → AreSlotted (length (set trees i t)) 0 (set trees i t)
slotted_with trees i k p t d are is h list =
    rw (length-set trees i t)
    (slotted_set (length trees) 0 i trees t are
    (rw list (all_with (λ (e : Entry). slot_of e.0 (length trees) ≡ 0 + i) (k, p) _ (omega arith) (of_slot_at (length trees) 0 i trees d are h))))

pub slotted_without : (trees : List Entries) (i : ℕ) (k : ℤ) (t d : Entries) → AreSlotted (length trees) 0 trees → i < length trees → t.list ≡ without_key k (get_or trees i d).list → AreSlotted (length (set trees i t)) 0 (set trees i t)
slotted_without trees i k t d are h list =
    rw (length-set trees i t)
    (slotted_set (length trees) 0 i trees t are
    (rw list (all_without (λ (e : Entry). slot_of e.0 (length trees) ≡ 0 + i) k _ (of_slot_at (length trees) 0 i trees d are h))))

-- look-ups after that: in the tree that was put, or in another one, which has not the key
other_key : (count : ℕ) (q k : ℤ) → (slot_of q count ≡ slot_of k count → ⊥) → int_eq q k ≡ false
other_key count q k other = not_same q k (int_eq q k) refl (λ same. other (ap (λ (x : ℤ). slot_of x count) same))

at_set : (b : Bool) (trees : List Entries) (s i : ℕ) (t d : Entries) (q : ℤ) (y : Option ℕ → Option ℕ) → nat_eq s i ≡ b → i < length trees → find int_cmp q t.list ≡ y (find int_cmp q (get_or trees i d).list) → ((s ≡ i → ⊥) → (o : Option ℕ) → y o ≡ o) → find int_cmp q (get_or (set trees i t) s d).list ≡ y (find int_cmp q (get_or trees s d).list)
at_set true trees s i t d q y e h own other =
    let is : s ≡ i = eqb-true s i e in
    rw is (ap (λ (u : Entries). find int_cmp q u.list) (get_or-set_same trees i t d h) ∙ own)
at_set false trees s i t d q y e h own other =
    let differ : s ≡ i → ⊥ = λ is. (let same : nat_eq s i ≡ true = eq-eqb s i is in cc) in
    ap (λ (u : Entries). find int_cmp q u.list) (get_or-set_other trees i s t d differ) ∙ sym (other differ (find int_cmp q (get_or trees s d).list))

pub find_with : (trees : List Entries) (i : ℕ) (k : ℤ) (p : ℕ) (t d : Entries) → 0 < length trees → AreSlotted (length trees) 0 trees → slot_of k (length trees) ≡ i → i < length trees → t.list ≡ with_entry (k, p) (get_or trees i d).list → (q : ℤ) → find int_cmp q (entries_in (set trees i t)) ≡ cond (int_eq q k) (Some p) (find int_cmp q (entries_in trees))
find_with trees i k p t d some are is h list q =
    let long : length (set trees i t) ≡ length trees = length-set trees i t in
    find_own q (set trees i t) d (omega arith) (slotted_with trees i k p t d are is h list)
    ∙ ap (λ (n : ℕ). find int_cmp q (get_or (set trees i t) (slot_of q n) d).list) long
    ∙ at_set (nat_eq (slot_of q (length trees)) i) trees (slot_of q (length trees)) i t d q (cond (int_eq q k) (Some p)) refl h
    (ap (find int_cmp q) list ∙ find-with_entry q (k, p) (get_or trees i d).list)
    (λ differ o. ap (λ (b : Bool). cond b (Some p) o) (other_key (length trees) q k (λ same. differ (same ∙ is))))
    ∙ ap (cond (int_eq q k) (Some p)) (sym (find_own q trees d some are))

pub find_without : (trees : List Entries) (i : ℕ) (k : ℤ) (t d : Entries) → 0 < length trees → AreSlotted (length trees) 0 trees → slot_of k (length trees) ≡ i → i < length trees → KeysRise (get_or trees i d).list → t.list ≡ without_key k (get_or trees i d).list → (q : ℤ) → find int_cmp q (entries_in (set trees i t)) ≡ cond (int_eq q k) None (find int_cmp q (entries_in trees))
find_without trees i k t d some are is h rise list q =
    let long : length (set trees i t) ≡ length trees = length-set trees i t in
    find_own q (set trees i t) d (omega arith) (slotted_without trees i k t d are h list)
    ∙ ap (λ (n : ℕ). find int_cmp q (get_or (set trees i t) (slot_of q n) d).list) long
    ∙ at_set (nat_eq (slot_of q (length trees)) i) trees (slot_of q (length trees)) i t d q (cond (int_eq q k) None) refl h
    (ap (find int_cmp q) list ∙ find-without_key q k (get_or trees i d).list rise)
    (λ differ o. ap (λ (b : Bool). cond b None o) (other_key (length trees) q k (λ same. differ (same ∙ is))))
    ∙ ap (cond (int_eq q k) None) (sym (find_own q trees d some are))

-- ---- trees that are taken from the back, one by one

pub entries_in-push : (trees : List Entries) (t : Entries) → entries_in (trees ++ t ∷ []) ≡ entries_in trees ++ t.list
entries_in-push [] t = append-nil t.list
entries_in-push (tree ∷ trees) t = ap (λ (es : List Entry). tree.list ++ es) (entries_in-push trees t) ∙ sym (append_assoc tree.list (entries_in trees) t.list)

pub entries_in-none : (trees : List Entries) → AllByRecursion (λ (t : Entries). t.list ≡ []) trees → entries_in trees ≡ []
entries_in-none [] a = refl
entries_in-none (tree ∷ trees) a = ap (λ (es : List Entry). es ++ entries_in trees) a.0 ∙ entries_in-none trees a.1

pub slotted_none : (count from : ℕ) (trees : List Entries) → AllByRecursion (λ (t : Entries). t.list ≡ []) trees → AreSlotted count from trees
slotted_none count from [] a = tt
slotted_none count from (tree ∷ trees) a = (subst (AreOfSlot count from) (sym a.0) tt, slotted_none count (from + 1) trees a.1)
