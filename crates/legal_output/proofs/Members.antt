-- What a log grew by is known by its members: entries of one key, in the order of their timestamps.
use Rattle.std.proofs.Common.{◌≡◌, ◌≢◌, ℕ, ℤ, ◌<◌, ◌≤◌, ◌⊎◌, inl, inr, Bool, true, false, true≢false, cond, List, [], ◌∷◌, map, refl, sym, ap, subst, ◌∙◌, arith}
use Rattle.std.proofs.Common.{Ordering, Less, Equal, Greater}
use Rattle.std.specs.Prelude.{nat_le}
use Rattle.std.specs.Ordering.{int_cmp, is_eq, eq_by_cmp}
use Rattle.std.specs.FinMap as fin
use Rattle.std.specs.List.{AllByRecursion as Each, filter}
use Rattle.std.proofs.lemmas.Bool.{leb-true, leb-false, le-leb}
use Rattle.log_model.proofs.LogLaws.{each_implied}
use Rattle.log_model.specs.declared.logs.Entry.{Entry}
use Rattle.log_model.specs.Logs.{key_of}
use Rattle.legal_output.specs.Lines.{channel_of}
use Rattle.legal_output.specs.Printed.{Event, place, ordered}
use Rattle.legal_output.specs.Legal.{Differ}
use Rattle.legal_output.specs.Phases.{of_key}
use Rattle.legal_output.specs.Members.{IsIn, Rises, GrewByEntries, GrewByEvents}
use Rattle.legal_output.proofs.Placed.{place_each, ordered_each}

module _ {X : Type 0} where
  at_member : (P : X → Type 0) (xs : List X) (x : X) → Each P xs → IsIn x xs → P x
  at_member P [] x all member = absurd member
  at_member P (y ∷ ys) x all (inl same) = subst P (sym same) all.0
  at_member P (y ∷ ys) x all (inr member) = at_member P ys x all.1 member

  each_member : (P : X → Type 0) (xs : List X) → ((x : X) → IsIn x xs → P x) → Each P xs
  each_member P [] f = tt
  each_member P (x ∷ xs) f = (f x (inl refl), each_member P xs (λ y member. f y (inr member)))

  -- ---- filters

  kept_step : (p : X → Bool) (x y : X) (ys : List X) (b : Bool) → p y ≡ b → IsIn x (cond b (y ∷ ys) ys) → ((x ≡ y) × (p x ≡ true)) ⊎ IsIn x ys
  kept_step p x y ys true is (inl same) = inl (same, ap p same ∙ is)
  kept_step p x y ys true is (inr member) = inr member
  kept_step p x y ys false is member = inr member

  pub member-filter : (p : X → Bool) (xs : List X) (x : X) → IsIn x (filter p xs) → IsIn x xs × (p x ≡ true)
  member-filter p [] x member = absurd member
  member-filter p (y ∷ ys) x member = elim (kept_step p x y (filter p ys) (p y) refl member) [
    | inl here ↦ (inl here.0, here.1)
    | inr there ↦ let rest = member-filter p ys x there in (inr rest.0, rest.1)
  ]

  keep_first : (p : X → Bool) (x y : X) (ys : List X) (b : Bool) → p y ≡ b → x ≡ y → p x ≡ true → IsIn x (cond b (y ∷ ys) ys)
  keep_first p x y ys true is same passes = inl same
  keep_first p x y ys false is same passes = absurd (true≢false (sym passes ∙ ap p same ∙ is))

  keep_later : (x y : X) (ys : List X) (b : Bool) → IsIn x ys → IsIn x (cond b (y ∷ ys) ys)
  keep_later x y ys true member = inr member
  keep_later x y ys false member = member

  pub filter-member : (p : X → Bool) (xs : List X) (x : X) → IsIn x xs → p x ≡ true → IsIn x (filter p xs)
  filter-member p [] x member passes = absurd member
  filter-member p (y ∷ ys) x (inl same) passes = keep_first p x y (filter p ys) (p y) refl same passes
  filter-member p (y ∷ ys) x (inr member) passes = keep_later x y (filter p ys) (p y) (filter-member p ys x member passes)

module _ {X : Type 0} (ts_of : X → ℕ) where
  -- ---- lists that rise

  no_earlier : (a b : ℕ) → a < b → b < a → ⊥
  no_earlier a b one two = omega arith

  not_itself : (a b : ℕ) → a < b → a ≡ b → ⊥
  not_itself a b later same = omega arith

  first_same : (x y : X) (xs ys : List X) → Rises ts_of (x ∷ xs) → Rises ts_of (y ∷ ys) → IsIn x (y ∷ ys) → IsIn y (x ∷ xs) → x ≡ y
  first_same x y xs ys left right (inl same) back = same
  first_same x y xs ys left right (inr later) (inl same) = sym same
  first_same x y xs ys left right (inr later) (inr back) =
      absurd (no_earlier (ts_of x) (ts_of y) (at_member (λ z. ts_of x < ts_of z) xs y left.0 back) (at_member (λ z. ts_of y < ts_of z) ys x right.0 later))

  later_in : (x y z : X) (ys : List X) → x ≡ y → ts_of x < ts_of z → IsIn z (y ∷ ys) → IsIn z ys
  later_in x y z ys same later (inl is) = absurd (not_itself (ts_of x) (ts_of z) later (ap ts_of (same ∙ sym is)))
  later_in x y z ys same later (inr member) = member

  -- rising lists with the same members are the same
  pub same_rising : (xs ys : List X) → Rises ts_of xs → Rises ts_of ys → ((x : X) → IsIn x xs → IsIn x ys) → ((y : X) → IsIn y ys → IsIn y xs) → xs ≡ ys
  same_rising [] [] left right to from = refl
  same_rising [] (y ∷ ys) left right to from = absurd (from y (inl refl))
  same_rising (x ∷ xs) [] left right to from = absurd (to x (inl refl))
  same_rising (x ∷ xs) (y ∷ ys) left right to from =
      let first : x ≡ y = first_same x y xs ys left right (to x (inl refl)) (from y (inl refl)) in
      let rest : xs ≡ ys = same_rising xs ys left.1 right.1
      (λ z member. later_in x y z ys first (at_member (λ w. ts_of x < ts_of w) xs z left.0 member) (to z (inr member)))
      (λ z member. later_in y x z xs (sym first) (at_member (λ w. ts_of y < ts_of w) ys z right.0 member) (from z (inr member))) in
      λ i. first i ∷ rest i

  -- ---- lists in order

  placed_member : (item x y : X) (ys : List X) (b : Bool) → (IsIn x (place ts_of item ys) → (x ≡ item) ⊎ IsIn x ys) → IsIn x (cond b (item ∷ y ∷ ys) (y ∷ place ts_of item ys)) → (x ≡ item) ⊎ IsIn x (y ∷ ys)
  placed_member item x y ys true rest (inl same) = inl same
  placed_member item x y ys true rest (inr member) = inr member
  placed_member item x y ys false rest (inl same) = inr (inl same)
  placed_member item x y ys false rest (inr member) = elim (rest member) [ inl same ↦ inl same | inr later ↦ inr (inr later) ]

  place_member : (item x : X) (xs : List X) → IsIn x (place ts_of item xs) → (x ≡ item) ⊎ IsIn x xs
  place_member item x [] member = member
  place_member item x (y ∷ ys) member = placed_member item x y ys (nat_le (ts_of item) (ts_of y)) (place_member item x ys) member

  ordered_member : (xs : List X) (x : X) → IsIn x (ordered ts_of xs) → IsIn x xs
  ordered_member [] x member = absurd member
  ordered_member (y ∷ ys) x member = elim (place_member y x (ordered ts_of ys) member) [ inl same ↦ inl same | inr later ↦ inr (ordered_member ys x later) ]

  member_placed : (item x y : X) (ys : List X) (b : Bool) → (((x ≡ item) ⊎ IsIn x ys) → IsIn x (place ts_of item ys)) → ((x ≡ item) ⊎ IsIn x (y ∷ ys)) → IsIn x (cond b (item ∷ y ∷ ys) (y ∷ place ts_of item ys))
  member_placed item x y ys true rest (inl same) = inl same
  member_placed item x y ys true rest (inr member) = inr member
  member_placed item x y ys false rest (inl same) = inr (rest (inl same))
  member_placed item x y ys false rest (inr (inl same)) = inl same
  member_placed item x y ys false rest (inr (inr later)) = inr (rest (inr later))

  member_place : (item x : X) (xs : List X) → ((x ≡ item) ⊎ IsIn x xs) → IsIn x (place ts_of item xs)
  member_place item x [] member = member
  member_place item x (y ∷ ys) member = member_placed item x y ys (nat_le (ts_of item) (ts_of y)) (member_place item x ys) member

  member_ordered : (xs : List X) (x : X) → IsIn x xs → IsIn x (ordered ts_of xs)
  member_ordered [] x member = absurd member
  member_ordered (y ∷ ys) x (inl same) = member_place y x (ordered ts_of ys) (inl same)
  member_ordered (y ∷ ys) x (inr later) = member_place y x (ordered ts_of ys) (inr (member_ordered ys x later))

  -- timestamps never fall
  abbrev NeverFalls : List X → Type 0
  NeverFalls [] = Unit {0}
  NeverFalls (x ∷ xs) = Each (λ y. ts_of x ≤ ts_of y) xs × NeverFalls xs

  le_le : (a b c : ℕ) → a ≤ b → b ≤ c → a ≤ c
  le_le a b c low high = omega arith

  lt_le : (a b : ℕ) → a < b → a ≤ b
  lt_le a b low = omega arith

  lt_lt : (a b c : ℕ) → a < b → b < c → a < c
  lt_lt a b c low high = omega arith

  le_apart : (a b : ℕ) → a ≤ b → a ≢ b → a < b
  le_apart a b low apart = omega arith

  place_falls : (item y : X) (ys : List X) (b : Bool) → nat_le (ts_of item) (ts_of y) ≡ b → NeverFalls (y ∷ ys) → NeverFalls (place ts_of item ys) → NeverFalls (cond b (item ∷ y ∷ ys) (y ∷ place ts_of item ys))
  place_falls item y ys true is sorted rest =
      let low : ts_of item ≤ ts_of y = leb-true _ _ is in
      ((low, each_implied (λ z. ts_of y ≤ ts_of z) (λ z. ts_of item ≤ ts_of z) (λ z h. le_le (ts_of item) (ts_of y) (ts_of z) low h) ys sorted.0), sorted)
  place_falls item y ys false is sorted rest =
      (place_each ts_of (λ z. ts_of y ≤ ts_of z) item ys (lt_le (ts_of y) (ts_of item) (leb-false _ _ is)) sorted.0, rest)

  place_sorted : (item : X) (xs : List X) → NeverFalls xs → NeverFalls (place ts_of item xs)
  place_sorted item [] sorted = (tt, tt)
  place_sorted item (y ∷ ys) sorted = place_falls item y ys (nat_le (ts_of item) (ts_of y)) refl sorted (place_sorted item ys sorted.1)

  ordered_sorted : (xs : List X) → NeverFalls (ordered ts_of xs)
  ordered_sorted [] = tt
  ordered_sorted (x ∷ xs) = place_sorted x (ordered ts_of xs) (ordered_sorted xs)

  rises_placed : (item y : X) (ys : List X) (b : Bool) → nat_le (ts_of item) (ts_of y) ≡ b → Rises ts_of (y ∷ ys) → ts_of item ≢ ts_of y → Rises ts_of (place ts_of item ys)
      → Rises ts_of (cond b (item ∷ y ∷ ys) (y ∷ place ts_of item ys))
  rises_placed item y ys true is rises apart rest =
      let low : ts_of item < ts_of y = le_apart (ts_of item) (ts_of y) (leb-true _ _ is) apart in
      ((low, each_implied (λ z. ts_of y < ts_of z) (λ z. ts_of item < ts_of z) (λ z h. lt_lt (ts_of item) (ts_of y) (ts_of z) low h) ys rises.0), rises)
  rises_placed item y ys false is rises apart rest = (place_each ts_of (λ z. ts_of y < ts_of z) item ys (leb-false _ _ is) rises.0, rest)

  place_rises : (item : X) (xs : List X) → Rises ts_of xs → Each (λ z. ts_of item ≢ ts_of z) xs → Rises ts_of (place ts_of item xs)
  place_rises item [] rises apart = (tt, tt)
  place_rises item (y ∷ ys) rises apart = rises_placed item y ys (nat_le (ts_of item) (ts_of y)) refl rises apart.0 (place_rises item ys rises.1 apart.1)

  each_of_map : (P : ℕ → Type 0) (xs : List X) → Each P (map ts_of xs) → Each (λ x. P (ts_of x)) xs
  each_of_map P [] all = tt
  each_of_map P (x ∷ xs) all = (all.0, each_of_map P xs all.1)

  pub ordered_rises : (xs : List X) → Differ (map ts_of xs) → Rises ts_of (ordered ts_of xs)
  ordered_rises [] differ = tt
  ordered_rises (x ∷ xs) differ =
      place_rises x (ordered ts_of xs) (ordered_rises xs differ.1) (ordered_each ts_of (λ z. ts_of x ≢ ts_of z) xs (each_of_map (λ m. ts_of x ≢ m) xs differ.0))

  -- ---- a part of them

  module _ (p : X → Bool) where
    filter_each : (P : X → Type 0) (xs : List X) → Each P xs → Each P (filter p xs)
    filter_each P xs all = each_member P (filter p xs) (λ x member. at_member P xs x all (member-filter p xs x member).0)

    place_first : (item : X) (xs : List X) → Each (λ z. ts_of item ≤ ts_of z) xs → place ts_of item xs ≡ item ∷ xs
    place_first item [] low = refl
    place_first item (y ∷ ys) low = ap (λ b. cond b (item ∷ y ∷ ys) (y ∷ place ts_of item ys)) (le-leb _ _ low.0)

    left_out : (item y : X) (ys : List X) (b : Bool) → p item ≡ false → filter p (place ts_of item ys) ≡ filter p ys
        → filter p (cond b (item ∷ y ∷ ys) (y ∷ place ts_of item ys)) ≡ filter p (y ∷ ys)
    left_out item y ys true out rest = ap (λ c. cond c (item ∷ filter p (y ∷ ys)) (filter p (y ∷ ys))) out
    left_out item y ys false out rest = ap (λ l. cond (p y) (y ∷ l) l) rest

    filter-place_out : (item : X) (xs : List X) → p item ≡ false → filter p (place ts_of item xs) ≡ filter p xs
    filter-place_out item [] out = ap (λ c. cond c (item ∷ []) []) out
    filter-place_out item (y ∷ ys) out = left_out item y ys (nat_le (ts_of item) (ts_of y)) out (filter-place_out item ys out)

    kept_behind : (item y : X) (ys : List X) (c : Bool) → nat_le (ts_of item) (ts_of y) ≡ false
        → cond c (y ∷ place ts_of item (filter p ys)) (place ts_of item (filter p ys)) ≡ place ts_of item (cond c (y ∷ filter p ys) (filter p ys))
    kept_behind item y ys true is = sym (ap (λ b. cond b (item ∷ y ∷ filter p ys) (y ∷ place ts_of item (filter p ys))) is)
    kept_behind item y ys false is = refl

    kept_in : (item y : X) (ys : List X) (b : Bool) → nat_le (ts_of item) (ts_of y) ≡ b → p item ≡ true → NeverFalls (y ∷ ys) → filter p (place ts_of item ys) ≡ place ts_of item (filter p ys)
        → filter p (cond b (item ∷ y ∷ ys) (y ∷ place ts_of item ys)) ≡ place ts_of item (filter p (y ∷ ys))
    kept_in item y ys true is kept sorted rest =
        let low : ts_of item ≤ ts_of y = leb-true _ _ is in
        let all : Each (λ z. ts_of item ≤ ts_of z) (y ∷ ys) = (low, each_implied (λ z. ts_of y ≤ ts_of z) (λ z. ts_of item ≤ ts_of z) (λ z h. le_le (ts_of item) (ts_of y) (ts_of z) low h) ys sorted.0) in
        ap (λ c. cond c (item ∷ filter p (y ∷ ys)) (filter p (y ∷ ys))) kept ∙ sym (place_first item (filter p (y ∷ ys)) (filter_each (λ z. ts_of item ≤ ts_of z) (y ∷ ys) all))
    kept_in item y ys false is kept sorted rest = ap (λ l. cond (p y) (y ∷ l) l) rest ∙ kept_behind item y ys (p y) is

    filter-place_in : (item : X) (xs : List X) → p item ≡ true → NeverFalls xs → filter p (place ts_of item xs) ≡ place ts_of item (filter p xs)
    filter-place_in item [] kept sorted = ap (λ c. cond c (item ∷ []) []) kept
    filter-place_in item (y ∷ ys) kept sorted = kept_in item y ys (nat_le (ts_of item) (ts_of y)) refl kept sorted (filter-place_in item ys kept sorted.1)

    by_test : (x : X) (xs : List X) (b : Bool) → p x ≡ b → filter p (ordered ts_of xs) ≡ ordered ts_of (filter p xs)
        → filter p (place ts_of x (ordered ts_of xs)) ≡ ordered ts_of (cond b (x ∷ filter p xs) (filter p xs))
    by_test x xs true is rest = filter-place_in x (ordered ts_of xs) is (ordered_sorted xs) ∙ ap (place ts_of x) rest
    by_test x xs false is rest = filter-place_out x (ordered ts_of xs) is ∙ rest

    pub filter-ordered : (xs : List X) → filter p (ordered ts_of xs) ≡ ordered ts_of (filter p xs)
    filter-ordered [] = refl
    filter-ordered (x ∷ xs) = by_test x xs (p x) refl (filter-ordered xs)

  -- what rises and has the members of a list is the list in order
  pub rising_ordered : (more xs : List X) → Rises ts_of more → Differ (map ts_of xs) → ((x : X) → IsIn x more → IsIn x xs) → ((x : X) → IsIn x xs → IsIn x more) → more ≡ ordered ts_of xs
  rising_ordered more xs rises differ to from =
      same_rising more (ordered ts_of xs) rises (ordered_rises xs differ) (λ x member. member_ordered xs x (to x member)) (λ x member. from x (ordered_member xs x member))

tied_is : (key other : ℤ) (order : Ordering) → int_cmp key other ≡ order → is_eq order ≡ true → other ≡ key
tied_is key other Less is tied = absurd (true≢false (sym tied))
tied_is key other Equal is tied = sym (fin.int_cmp-IsAntisymmetric key other is)
tied_is key other Greater is tied = absurd (true≢false (sym tied))

pub entries_by_members : (channels : ℕ) (more : ℕ → List Entry) (entries : List Entry) → GrewByEntries channels more entries → (key : ℤ)
    → of_key key (more (channel_of channels key)) ≡ of_key key (ordered (λ entry. entry.ts.0) entries)
entries_by_members channels more entries grew key =
    let test : Entry → Bool = λ entry. eq_by_cmp int_cmp key (key_of entry.write) in
    rising_ordered (λ (entry : Entry). entry.ts.0) (of_key key (more (channel_of channels key))) (of_key key entries) (grew.rises key) (grew.differ key)
    (λ entry member.
    let kept : IsIn entry (more (channel_of channels key)) × (test entry ≡ true) = member-filter test (more (channel_of channels key)) entry member in
    filter-member test entries entry (at_member (λ e. IsIn e entries) (more (channel_of channels key)) entry (grew.noted (channel_of channels key)) kept.0) kept.1)
    (λ entry member.
    let kept : IsIn entry entries × (test entry ≡ true) = member-filter test entries entry member in
    let own : key_of entry.write ≡ key = tied_is key (key_of entry.write) (int_cmp key (key_of entry.write)) refl kept.1 in
    filter-member test (more (channel_of channels key)) entry
    (subst (λ k. IsIn entry (more (channel_of channels k))) own (at_member (λ e. IsIn e (more (channel_of channels (key_of e.write)))) entries entry grew.written kept.0)) kept.1)
    ∙ sym (filter-ordered (λ (entry : Entry). entry.ts.0) test entries)

pub events_by_members : (more events : List Event) → GrewByEvents more events → more ≡ ordered (λ event. event.ts) events
events_by_members more events grew =
    rising_ordered (λ (event : Event). event.ts) more events grew.rises grew.differ
    (λ event member. at_member (λ e. IsIn e events) more event grew.noted member) (λ event member. at_member (λ e. IsIn e more) events event grew.written member)
