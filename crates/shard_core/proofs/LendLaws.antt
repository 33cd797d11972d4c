-- The segments that rising numbers name, looked up one by one.
use Rattle.std.proofs.Common.{◌≡◌, ◌≢◌, ℕ, ◌<◌, ◌≤◌, false, cond, ◌||◌, List, [], ◌∷◌, map, Option, Some, None, refl, sym, ap, ap₂, ◌∙◌, ⊎_elim, eq-eqb, ne_eqb, arith}
use Rattle.std.specs.List.{AllByRecursion}
use Rattle.std.specs.Option.{option_map}
use Rattle.std.proofs.lemmas.Bool.{cases_eq, cases_lt}
use Rattle.log_model.proofs.LogLaws.{each_implied}
use Rattle.journal_model.specs.declared.notes.Note.{Note}
use Rattle.journal_model.specs.Layouts.{Segment, is_among, sources_in}
use Rattle.journal_model.specs.Invariants.{NumbersRise}
use Rattle.journal_model.specs.Views.{Shown, shown}
use Rattle.channel_pieces.specs.Pieces.{MarkedSegment, segment_in}
use Rattle.shard_core.specs.Shelves.{shelf_of}
use Rattle.shard_core.specs.Merging.{AreRising}

module _ (notes : List Note) where
  abbrev shown_piece : Segment → List Shown
  shown_piece s = map (shown notes) s.piece

  -- the rows of the segment with a number, as pieces have it
  abbrev found_rows : List Segment → ℕ → Option (List Shown)
  found_rows segments number = option_map (λ (s : MarkedSegment). s.rows) (segment_in (map (shelf_of notes) segments) number)

  passed : (s : Segment) (segments : List Segment) (n : ℕ) → s.number ≢ n → found_rows (s ∷ segments) n ≡ found_rows segments n
  passed s segments n ne = ap (λ b. option_map (λ (z : MarkedSegment). z.rows) (cond b (Some (shelf_of notes s)) (segment_in (map (shelf_of notes) segments) n))) (ne_eqb s.number n ne)

  met : (s : Segment) (segments : List Segment) (n : ℕ) → s.number ≡ n → found_rows (s ∷ segments) n ≡ Some (shown_piece s)
  met s segments n e = ap (λ b. option_map (λ (z : MarkedSegment). z.rows) (cond b (Some (shelf_of notes s)) (segment_in (map (shelf_of notes) segments) n))) (eq-eqb s.number n e)

  none_above : (segments : List Segment) (n : ℕ) → AllByRecursion (λ s. n < s.number) segments → found_rows segments n ≡ None
  none_above [] n all = refl
  none_above (s ∷ segments) n all = passed s segments n (λ e. let h = all.0 in absurd (omega arith)) ∙ none_above segments n all.1

  all_passed : (s : Segment) (segments : List Segment) (ns : List ℕ) → AllByRecursion (λ n. s.number < n) ns → map (found_rows (s ∷ segments)) ns ≡ map (found_rows segments) ns
  all_passed s segments [] all = refl
  all_passed s segments (n ∷ ns) all = ap₂ (λ (o : Option (List Shown)) l. o ∷ l) (passed s segments n (λ e. let h = all.0 in absurd (omega arith))) (all_passed s segments ns all.1)

  none_named : (segments : List Segment) → sources_in [] segments ≡ []
  none_named [] = refl
  none_named (s ∷ segments) = none_named segments

  not_named : (s : Segment) (ns : List ℕ) → AllByRecursion (λ n. s.number < n) ns → is_among ns s ≡ false
  not_named s [] all = refl
  not_named s (n ∷ ns) all = ap₂ (λ a b. a || b) (ne_eqb s.number n (λ e. let h = all.0 in absurd (omega arith))) (not_named s ns all.1)

  skipped : (s : Segment) (segments : List Segment) (ns : List ℕ) → is_among ns s ≡ false → sources_in ns (s ∷ segments) ≡ sources_in ns segments
  skipped s segments ns e = ap (λ b. cond b (s ∷ sources_in ns segments) (sources_in ns segments)) e

  -- a number below those of all segments names none
  lowest : (segments : List Segment) (n : ℕ) (ns : List ℕ) → AllByRecursion (λ s. n < s.number) segments → sources_in (n ∷ ns) segments ≡ sources_in ns segments
  lowest [] n ns all = refl
  lowest (s ∷ segments) n ns all = ap₂ (λ a (l : List Segment). cond (a || is_among ns s) (s ∷ l) l) (ne_eqb s.number n (λ e. let h = all.0 in absurd (omega arith))) (lowest segments n ns all.1)

  head_same : {X : Type 0} (x y : X) (xs ys : List X) → x ∷ xs ≡ y ∷ ys → x ≡ y
  head_same x y xs ys e = cc

  tail_same : {X : Type 0} (x y : X) (xs ys : List X) → x ∷ xs ≡ y ∷ ys → xs ≡ ys
  tail_same x y xs ys e = cc

  some_same : {X : Type 0} (x y : X) → Some x ≡ Some y → x ≡ y
  some_same x y e = cc

  none_some : {X : Type 0} (x : X) → Some x ≡ None → ⊥
  none_some x e = cc

  -- what rising numbers find are the pieces of the segments that they name
  pub lent_are : (segments : List Segment) (ns : List ℕ) (xs : List (List Shown)) → NumbersRise segments → AreRising ns → map Some xs ≡ map (found_rows segments) ns → xs ≡ map shown_piece (sources_in ns segments)
  lent_are [] [] [] rise up e = refl
  lent_are [] [] (x ∷ xs) rise up e = cc
  lent_are [] (n ∷ ns) [] rise up e = cc
  lent_are [] (n ∷ ns) (x ∷ xs) rise up e = absurd (none_some x (head_same (Some x) None (map Some xs) (map (found_rows []) ns) e))
  lent_are (s ∷ segments) [] [] rise up e = sym (ap (map shown_piece) (none_named segments))
  lent_are (s ∷ segments) [] (x ∷ xs) rise up e = cc
  lent_are (s ∷ segments) (n ∷ ns) [] rise up e = cc
  lent_are (s ∷ segments) (n ∷ ns) (x ∷ xs) rise up e =
      let head : Some x ≡ found_rows (s ∷ segments) n = head_same (Some x) (found_rows (s ∷ segments) n) (map Some xs) (map (found_rows (s ∷ segments)) ns) e in
      let tail : map Some xs ≡ map (found_rows (s ∷ segments)) ns = tail_same (Some x) (found_rows (s ∷ segments) n) (map Some xs) (map (found_rows (s ∷ segments)) ns) e in
      ⊎_elim
      (λ (same : s.number ≡ n).
      let above : AllByRecursion (λ m. s.number < m) ns = each_implied (λ m. n < m) (λ m. s.number < m) (λ m h. omega arith) ns up.0 in
      let below : AllByRecursion (λ (t : Segment). n < t.number) segments = each_implied (λ (t : Segment). s.number < t.number) (λ t. n < t.number) (λ t h. omega arith) segments rise.0 in
      let first : x ≡ shown_piece s = some_same x (shown_piece s) (head ∙ met s segments n same) in
      let rest : xs ≡ map shown_piece (sources_in ns segments) = lent_are segments ns xs rise.1 up.1 (tail ∙ all_passed s segments ns above) in
      ap₂ (λ (y : List Shown) l. y ∷ l) first (rest ∙ ap (map shown_piece) (sym (lowest segments n ns below)))
      ∙ sym (ap (λ b. map shown_piece (cond (b || is_among ns s) (s ∷ sources_in (n ∷ ns) segments) (sources_in (n ∷ ns) segments))) (eq-eqb s.number n same)))
      (λ (ne : s.number ≢ n).
      ⊎_elim
      (λ (lt : s.number < n).
      let above : AllByRecursion (λ m. s.number < m) ns = each_implied (λ m. n < m) (λ m. s.number < m) (λ m h. omega arith) ns up.0 in
      lent_are segments (n ∷ ns) (x ∷ xs) rise.1 up (e ∙ all_passed s segments (n ∷ ns) (lt, above))
      ∙ sym (ap (map shown_piece) (skipped s segments (n ∷ ns) (not_named s (n ∷ ns) (lt, above)))))
      (λ ge.
      let lt : n < s.number = ⊎_elim (λ (h : n < s.number). h) (λ (h : s.number ≤ n). let same : s.number ≡ n = omega arith in absurd (ne same)) (cases_lt n s.number) in
      let below : AllByRecursion (λ (t : Segment). n < t.number) segments = each_implied (λ (t : Segment). s.number < t.number) (λ t. n < t.number) (λ t h. omega arith) segments rise.0 in
      absurd (none_some x (head ∙ none_above (s ∷ segments) n (lt, below))))
      (cases_lt s.number n))
      (cases_eq s.number n)
