-- The live rows are the rows held that no later note ends, so the counts bound each other.
use Rattle.std.proofs.Common.{◌≡◌, ◌≢◌, ℕ, ℤ, suc, ◌+◌, ◌*◌, ◌<◌, ◌≤◌, Bool, true, false, cond, not, ◌&&◌, ◌||◌, List, [], ◌∷◌, ◌++◌, map, length, Option, Some, None, refl, sym, ap, subst, ◌∙◌, inl, inr, ◌⊎◌, ⊎_elim, arith, length-append, T, append_assoc, suc-mul, take, leb-true, le-leb, ltb-false, ap₂}
use Rattle.std.specs.Prelude.{is_some, nat_eq, nat_lt, nat_le}
use Rattle.std.specs.Option.{option_map}
use Rattle.std.specs.declared.cmp.Ordering.TheVariants.{Less, Equal, Greater}
use Rattle.std.specs.Ordering.{int_eq, int_cmp, eq_by_cmp, is_lt, is_eq}
use Rattle.std.specs.List.{filter, list_any, AllByRecursion, count_by, sum_by}
use Rattle.std.specs.FinMap as fin
use Rattle.std.specs.FinMap.Entries.{below_all, is_sorted}
use Rattle.std.proofs.lemmas.Bool.{false≢true, or_cases, or_left, or_right, not-true, eq-eqb, or_parts}
use Rattle.std.proofs.lemmas.Bool.Decides.{Decides-int_eq}
use Rattle.std.proofs.lemmas.List.{length-map}
use Rattle.std.proofs.lemmas.List.Sums.{length-filter, count_by-le-length, sum_by_push, sum_by-cons}
use Rattle.journal_model.specs.declared.notes.Note.{Note}
use Rattle.journal_model.specs.Groups.{is_mostly_dead, and_groups, grouped_from}
use Rattle.journal_model.specs.Notes.{live_in}
use Rattle.journal_model.specs.Journals.{UpTo, AreUpTo}
use Rattle.journal_model.specs.Puts.{death, is_dead_by, dead_at}
use Rattle.journal_model.specs.Tables.{index_of}
use Rattle.journal_model.specs.Layouts.{Channel, Segment, BegunMerge, Layout, rows_in, is_among, sources_in, others_in, is_kept, merged_piece, with_segment, with_merged, begun_merge, after_merge, layout_of}
use Rattle.journal_model.specs.Lawful.{IsLawful}
use Rattle.journal_model.specs.Lists.{IsIn, joined}
use Rattle.journal_model.specs.Runs.{IsConsistent, all_rows}
use Rattle.journal_model.specs.Counts.{is_alive, is_waiting, IsBounded, waiting_in, on_nodes, counts_of}
use Rattle.log_model.specs.Places.{Placed}
use Rattle.journal_model.specs.declared.notes.Home.TheVariants.{Node}
use Rattle.journal_model.proofs.IndexLaws.{index_stands, get-index}
use Rattle.journal_model.proofs.ListLaws.{in_cases, in_filter, out_filter, all_in, all_from, in_map, out_map, count-append, count-cons, count_some}
use Rattle.journal_model.proofs.PieceLaws.{count-either, by_position_in}
use Rattle.journal_model.proofs.CutLaws.{dead_up_to}
use Rattle.journal_model.proofs.SizeLaws.{sizes}

-- ---- lists whose elements differ

Distinct : List ℤ → Type 0
Distinct [] = Unit {0}
Distinct (k ∷ ks) = AllByRecursion (λ j. j ≢ k) ks × Distinct ks

record Taken (k : ℤ) (ks : List ℤ) : Type 0 where
  rest : List ℤ
  count : length ks ≡ 1 + length rest
  others : (j : ℤ) → IsIn j ks → j ≢ k → IsIn j rest

take_out : (k : ℤ) (ks : List ℤ) → IsIn k ks → Taken k ks
take_out k [] i = absurd i
take_out k (j ∷ ks) (inl e) = record { rest = ks; count = omega arith; others = λ l i ne. ⊎_elim (λ is. absurd (ne (is ∙ sym e))) (λ r. r) i }
take_out k (j ∷ ks) (inr i) = let t = take_out k ks i in record { rest = j ∷ t.rest; count = let c = t.count in omega arith; others = λ l i ne. ⊎_elim (λ is. inl is) (λ r. inr (t.others l r ne)) i }

-- elements that differ and stand in a list are no more than the list has
no_more : (xs ys : List ℤ) → Distinct xs → ((k : ℤ) → IsIn k xs → IsIn k ys) → length xs ≤ length ys
unfolding Distinct
no_more [] ys d f = omega arith
no_more (x ∷ xs) ys d f =
    let t = take_out x ys (f x (inl refl)) in
    let rest : length xs ≤ length t.rest = no_more xs t.rest d.1 (λ k i. t.others k (f k (inr i)) (all_in (λ j. j ≢ x) xs k d.0 i)) in
    let c = t.count in
    omega arith

-- ---- the keys of a map

any_in : (q : ℤ) (ks : List ℤ) → list_any (eq_by_cmp int_cmp q) ks ≡ true → IsIn q ks
any_in q [] h = absurd (false≢true h)
any_in q (k ∷ ks) h = ⊎_elim (λ e. inl ((Decides-int_eq q k).0 e)) (λ r. inr (any_in q ks r)) (or_cases (int_eq q k) (list_any (eq_by_cmp int_cmp q) ks) h)

in_any : (q : ℤ) (ks : List ℤ) → IsIn q ks → list_any (eq_by_cmp int_cmp q) ks ≡ true
in_any q [] i = absurd i
in_any q (k ∷ ks) (inl e) = or_left (int_eq q k) (list_any (eq_by_cmp int_cmp q) ks) ((Decides-int_eq q k).1 e)
in_any q (k ∷ ks) (inr i) = or_right (int_eq q k) (list_any (eq_by_cmp int_cmp q) ks) (in_any q ks i)

both : (a b : Bool) → T (a && b) → T a × T b
both true b h = (tt, h)
both false b h = absurd h

less_differs : (k j : ℤ) → T (is_lt (int_cmp k j)) → j ≢ k
less_differs k j lt same = absurd (elim (int_cmp k j) as (λ r. int_cmp k j ≡ r → T (is_lt r) → ⊥) [
  | Less ↦ λ e h. let eq : int_eq k j ≡ true = (Decides-int_eq k j).1 (sym same) in let no : is_eq (int_cmp k j) ≡ false = ap is_eq e in false≢true (sym no ∙ eq)
  | Equal ↦ λ e h. h
  | Greater ↦ λ e h. h
] refl lt)

module _ {X : Type 0} where
  below_differ : (k : ℤ) (es : List (ℤ × X)) → T (below_all int_cmp k es) → AllByRecursion (λ j. j ≢ k) (map (λ e. e.0) es)
  below_differ k [] h = tt
  below_differ k (e ∷ es) h = let p = both (is_lt (int_cmp k e.0)) (below_all int_cmp k es) h in (less_differs k e.0 p.0, below_differ k es p.1)

  sorted_distinct : (es : List (ℤ × X)) → T (is_sorted int_cmp es) → Distinct (map (λ e. e.0) es)
  unfolding Distinct
  sorted_distinct [] h = tt
  sorted_distinct (e ∷ es) h = let p = both (below_all int_cmp e.0 es) (is_sorted int_cmp es) h in (below_differ e.0 es p.0, sorted_distinct es p.1)

-- ---- the rows that are alive have keys of their own

module _ (notes : List Note) (floor : ℕ) (rows : List Placed) (stand : IsConsistent notes floor rows) where
  key_of : Placed → ℤ
  key_of x = x.row.key.0

  alive_none : (x : Placed) → is_alive notes x ≡ true → death notes x ≡ None
  alive_none x h = go (death notes x) h
    where
      go : (o : Option ℕ) → not (is_some o) ≡ true → o ≡ None
      go None e = refl
      go (Some d) e = absurd (false≢true e)

  -- two live rows of a key are one
  one_alive : (x y : Placed) → IsIn x rows → IsIn y rows → is_alive notes x ≡ true → is_alive notes y ≡ true → y.row.key.0 ≡ x.row.key.0 → y ≡ x
  one_alive x y i j a b same =
      let s = index_stands x.row.key.0 notes in
      let first : index_of notes x.row.key.0 ≡ Some x = s.alive x.position x (stand.correct x i) refl (alive_none x a) in
      let second : index_of notes x.row.key.0 ≡ Some y = s.alive y.position y (stand.correct y j) same (ap (λ k. death_at y k) (sym same) ∙ alive_none y b) in
      cc
    where
      death_at : Placed → ℤ → Option ℕ
      death_at y k = dead_at notes y.position k

  alive_distinct : (xs : List Placed) → ((x : Placed) → IsIn x xs → IsIn x rows) → ((p : ℕ) → count_by (λ z. nat_eq z.position p) xs ≤ 1) → Distinct (map (λ x. x.row.key.0) (filter (is_alive notes) xs))
  unfolding Distinct
  alive_distinct [] among apart = tt
  alive_distinct (x ∷ xs) among apart =
      let rest : Distinct (map (λ z. z.row.key.0) (filter (is_alive notes) xs)) = alive_distinct xs (λ z i. among z (inr i)) (λ p.
      let all : count_by (λ z. nat_eq z.position p) (x ∷ xs) ≡ cond (nat_eq x.position p) 1 0 + count_by (λ z. nat_eq z.position p) xs = count-cons (λ z. nat_eq z.position p) x xs in
      let one = apart p in omega arith) in
      elim (is_alive notes x) as (λ b. is_alive notes x ≡ b → Distinct (map (λ z. z.row.key.0) (cond b (x ∷ filter (is_alive notes) xs) (filter (is_alive notes) xs)))) [
        | true ↦ λ e. (
          all_from (λ j. j ≢ x.row.key.0) (map (λ z. z.row.key.0) (filter (is_alive notes) xs)) (λ j i same.
              let o = out_map (λ (z : Placed). z.row.key.0) j (filter (is_alive notes) xs) i in
              let f = out_filter (is_alive notes) o.0 xs o.1 in
              let is : o.0 ≡ x = one_alive x o.0 (among x (inl refl)) (among o.0 (inr f.0)) e f.1 (sym o.2 ∙ same) in
              let all : count_by (λ z. nat_eq z.position x.position) (x ∷ xs) ≡ cond (nat_eq x.position x.position) 1 0 + count_by (λ z. nat_eq z.position x.position) xs = count-cons (λ z. nat_eq z.position x.position) x xs in
              let first : cond {A = ℕ} (nat_eq x.position x.position) 1 0 ≡ 1 = ap (λ (b : Bool). cond {A = ℕ} b 1 0) (eq-eqb x.position x.position refl) in
              let more : 1 ≤ count_by (λ z. nat_eq z.position x.position) xs = count_some (λ z. nat_eq z.position x.position) xs o.0 f.0 (eq-eqb o.0.position x.position (ap (λ z. z.position) is)) in
              let one = apart x.position in absurd (omega arith)),
          rest,
        )
        | false ↦ λ e. rest
      ] refl

  live_keys : List ℤ
  live_keys = map (λ x. x.row.key.0) (filter (is_alive notes) rows)

  -- the live rows are as many as the rows held that nothing ended
  pub live_count : fin.len (live_in notes) ≡ count_by (is_alive notes) rows
  live_count =
      let keys_few : length (map (λ x. x.row.key.0) (filter (is_alive notes) rows)) ≤ length (fin.keys (live_in notes)) =
      no_more (map (λ x. x.row.key.0) (filter (is_alive notes) rows)) (fin.keys (live_in notes)) (alive_distinct rows (λ x i. i) stand.apart) (λ k i.
      let o = out_map (λ (z : Placed). z.row.key.0) k (filter (is_alive notes) rows) i in
      let f = out_filter (is_alive notes) o.0 rows o.1 in
      let found : index_of notes o.0.row.key.0 ≡ Some o.0 = (index_stands o.0.row.key.0 notes).alive o.0.position o.0 (stand.correct o.0 f.0) refl (alive_none o.0 f.1) in
      let got : fin.get (live_in notes) k ≡ Some o.0.row = ap (fin.get (live_in notes)) o.2 ∙ get-index o.0.row.key.0 notes ∙ ap (option_map (λ (y : Placed). y.row)) found in
      any_in k (fin.keys (live_in notes)) (sym (fin.contains_key-keys (live_in notes) k) ∙ ap is_some got)) in
      let rows_few : length (fin.keys (live_in notes)) ≤ length (map (λ x. x.row.key.0) (filter (is_alive notes) rows)) =
      no_more (fin.keys (live_in notes)) (map (λ x. x.row.key.0) (filter (is_alive notes) rows)) (sorted_distinct (fin.entries (live_in notes)) (fin.entries_sorted (live_in notes))) (λ k i.
      let there : is_some (fin.get (live_in notes) k) ≡ true = fin.contains_key-keys (live_in notes) k ∙ in_any k (fin.keys (live_in notes)) i in
      placed_key k (index_of notes k) refl (ap is_some (sym (get-index k notes)) ∙ there)) in
      let one : length (map (λ x. x.row.key.0) (filter (is_alive notes) rows)) ≡ length (filter (is_alive notes) rows) = length-map (filter (is_alive notes) rows) (λ x. x.row.key.0) in
      let two : length (filter (is_alive notes) rows) ≡ count_by (is_alive notes) rows = length-filter (is_alive notes) rows in
      let three : fin.len (live_in notes) ≡ length (fin.entries (live_in notes)) = fin.len-entries (live_in notes) in
      let four : length (fin.keys (live_in notes)) ≡ length (fin.entries (live_in notes)) = length-map (fin.entries (live_in notes)) (λ e. e.0) in
      omega arith
    where
      placed_key : (k : ℤ) (o : Option Placed) → index_of notes k ≡ o → is_some (option_map (λ (y : Placed). y.row) o) ≡ true → IsIn k (map (λ x. x.row.key.0) (filter (is_alive notes) rows))
      placed_key k None e h = absurd (false≢true h)
      placed_key k (Some x) e h =
          let here = (index_stands k notes).here x e in
          let dead : death notes x ≡ None = ap (dead_at notes x.position) here.1 ∙ here.2 in
          let alive : is_alive notes x ≡ true = ap (λ o. not (is_some o)) dead in
          let in_rows : IsIn x rows = stand.cover x here.0 (ap (is_dead_by floor) dead) in
          subst (λ j. IsIn j (map (λ z. z.row.key.0) (filter (is_alive notes) rows))) here.1 (in_map (λ (z : Placed). z.row.key.0) x (filter (is_alive notes) rows) (in_filter (is_alive notes) x rows in_rows alive))

-- ---- the counts

waiting_rows : (most : ℕ) (segments : List Segment) → AllByRecursion (λ s. length s.piece ≤ most) segments → length (rows_in (waiting_in segments)) ≤ length (waiting_in segments) * most
waiting_rows most [] a = omega arith
waiting_rows most (s ∷ segments) a =
    let rest : length (rows_in (waiting_in segments)) ≤ length (waiting_in segments) * most = waiting_rows most segments a.1 in
    elim (is_waiting s) as (λ b. is_waiting s ≡ b → length (rows_in (cond b (s ∷ waiting_in segments) (waiting_in segments))) ≤ length (cond b (s ∷ waiting_in segments) (waiting_in segments)) * most) [
      | true ↦ λ e.
          let few : length s.piece ≤ most = a.0 in
          let all : length (s.piece ++ rows_in (waiting_in segments)) ≡ length s.piece + length (rows_in (waiting_in segments)) = length-append s.piece (rows_in (waiting_in segments)) in
          let times : suc (length (waiting_in segments)) * most ≡ length (waiting_in segments) * most + most = suc-mul (length (waiting_in segments)) most in
          subst (λ n. length (s.piece ++ rows_in (waiting_in segments)) ≤ n) (sym times) (omega arith)
      | false ↦ λ e. rest
    ] refl

pub counts_bound : (channel : Channel) (notes : List Note) (floor : ℕ) → 0 < channel.seal_rows → IsLawful channel notes → IsConsistent notes floor (all_rows (layout_of channel notes)) → IsBounded channel (counts_of channel notes)
counts_bound channel notes floor some lawful stand =
    let segments : List Segment = (layout_of channel notes).segments in
    let tail : List Placed = (layout_of channel notes).tail in
    let sized = sizes channel some notes lawful in
    let live : fin.len (live_in notes) ≡ count_by (is_alive notes) (rows_in (layout_of channel notes).segments ++ (layout_of channel notes).tail) = live_count notes floor (all_rows (layout_of channel notes)) stand in
    let parts : count_by (is_alive notes) (rows_in (layout_of channel notes).segments ++ (layout_of channel notes).tail) ≡ count_by (is_alive notes) (rows_in (layout_of channel notes).segments) + count_by (is_alive notes) (layout_of channel notes).tail = count-append (is_alive notes) (rows_in (layout_of channel notes).segments) (layout_of channel notes).tail in
    let either : count_by (is_alive notes) (rows_in (waiting_in (layout_of channel notes).segments)) + count_by (is_alive notes) (rows_in (on_nodes (layout_of channel notes).segments)) ≡ count_by (is_alive notes) (rows_in (layout_of channel notes).segments) = count-either (is_alive notes) is_waiting (layout_of channel notes).segments in
    let nodes : count_by (is_alive notes) (rows_in (on_nodes (layout_of channel notes).segments)) ≤ length (rows_in (on_nodes (layout_of channel notes).segments)) = count_by-le-length (is_alive notes) (rows_in (on_nodes (layout_of channel notes).segments)) in
    let of_tail : count_by (is_alive notes) (layout_of channel notes).tail ≤ length (layout_of channel notes).tail = count_by-le-length (is_alive notes) (layout_of channel notes).tail in
    let of_waiting : count_by (is_alive notes) (rows_in (waiting_in (layout_of channel notes).segments)) ≤ length (rows_in (waiting_in (layout_of channel notes).segments)) = count_by-le-length (is_alive notes) (rows_in (waiting_in (layout_of channel notes).segments)) in
    let most : length (rows_in (waiting_in (layout_of channel notes).segments)) ≤ length (waiting_in (layout_of channel notes).segments) * channel.seal_rows = waiting_rows channel.seal_rows (layout_of channel notes).segments sized.pieces in
    record { node_live = nodes; live_least = omega arith; live_most = omega arith }

-- ---- what a meet leaves

-- where all notes are up to the floor, a row is kept exactly where it is alive
pub kept_alive : (notes : List Note) (floor : ℕ) (x : Placed) → AreUpTo floor notes → is_kept notes floor x ≡ is_alive notes x
kept_alive notes floor x low = go (death notes x) (dead_up_to floor notes x.position x.row.key.0 low)
  where
    go : (o : Option ℕ) → UpTo floor o → not (is_dead_by floor o) ≡ not (is_some o)
    go None u = refl
    go (Some d) u = ap not (le-leb d floor u)

pub count_alike : (p q : Placed → Bool) (xs : List Placed) → ((x : Placed) → p x ≡ q x) → count_by p xs ≡ count_by q xs
count_alike p q [] f = refl
count_alike p q (x ∷ xs) f = count-cons p x xs ∙ ap₂ (λ b n. cond b 1 0 + n) (f x) (count_alike p q xs f) ∙ sym (count-cons q x xs)

-- where a meet merges nothing, at least half of the rows on nodes are alive
pub meet_spares : (notes : List Note) (floor : ℕ) (rows : List Placed) → AreUpTo floor notes → is_mostly_dead notes floor rows ≡ false → length rows ≤ 2 * count_by (is_alive notes) rows
meet_spares notes floor rows low few =
    let same : count_by (is_kept notes floor) rows ≡ count_by (is_alive notes) rows = count_alike (is_kept notes floor) (is_alive notes) rows (λ x. kept_alive notes floor x low) in
    let le : length rows ≤ 2 * count_by (is_kept notes floor) rows = ltb-false (2 * count_by (is_kept notes floor) rows) (length rows) few in
    omega arith

count_every : (p : Placed → Bool) (xs : List Placed) → ((x : Placed) → IsIn x xs → p x ≡ true) → count_by p xs ≡ length xs
count_every p [] f = refl
count_every p (x ∷ xs) f = count-cons p x xs ∙ ap (λ b. cond b 1 0 + count_by p xs) (f x (inl refl)) ∙ let rest : count_by p xs ≡ length xs = count_every p xs (λ y i. f y (inr i)) in omega arith

-- each segment on a node has rows that are alive, or is among those still to be merged
unfoldable pub AreClean : List Note → List ℕ → List Segment → Type 0
AreClean notes left segments = (s : Segment) → IsIn s segments → is_waiting s ≡ false → (is_among left s ≡ true) ⊎ ((x : Placed) → IsIn x s.piece → is_alive notes x ≡ true)

-- a merge at the floor cleans its sources
pub merge_cleans : (notes : List Note) (by : ℕ) (layout : Layout) (sources left : List ℕ) (segment : Option ℕ) (node : ℕ)
    → ((n : ℕ) (b : BegunMerge) → segment ≡ Some n → begun_merge layout by n ≡ Some b → (x : Placed) → is_kept (take b.at notes) b.floor x ≡ true → is_alive notes x ≡ true)
    → AreClean notes (sources ++ left) layout.segments → AreClean notes left (after_merge notes by layout sources segment node).segments
unfolding AreClean
merge_cleans notes by layout sources left segment node fit clean s i on = go segment refl i
  where
    split : (xs : List ℕ) → list_any (λ n. nat_eq s.number n) xs ≡ false → list_any (λ n. nat_eq s.number n) (xs ++ left) ≡ true → is_among left s ≡ true
    split [] a b = b
    split (x ∷ xs) a b =
        let parts = or_parts (nat_eq s.number x) (list_any (λ n. nat_eq s.number n) xs) a in
        split xs parts.1 (sym (ap (λ c. c || list_any (λ n. nat_eq s.number n) (xs ++ left)) parts.0) ∙ b)

    other : IsIn s (others_in sources layout.segments) → (is_among left s ≡ true) ⊎ ((x : Placed) → IsIn x s.piece → is_alive notes x ≡ true)
    other i =
        let o = out_filter (λ z. not (is_among sources z)) s layout.segments i in
        ⊎_elim (λ a. inl (split sources (not-true (is_among sources s) o.1) a)) (λ r. inr r) (clean s o.0 on)

    inside : (z : Segment) (others : List Segment) → IsIn s (with_segment z others) → (s ≡ z) ⊎ IsIn s others
    inside z [] i = i
    inside z (o ∷ others) i = elim (nat_lt z.number o.number) as (λ b. IsIn s (cond b (z ∷ o ∷ others) (o ∷ with_segment z others)) → (s ≡ z) ⊎ ((s ≡ o) ⊎ IsIn s others)) [
      | true ↦ λ g. g
      | false ↦ λ g. ⊎_elim (λ e. inr (inl e)) (λ r. ⊎_elim (λ e. inl e) (λ j. inr (inr j)) (inside z others r)) g
    ] i

    given : (n : ℕ) → segment ≡ Some n → (o : Option BegunMerge) → begun_merge layout by n ≡ o → IsIn s (with_merged notes layout sources node o (others_in sources layout.segments)) → (is_among left s ≡ true) ⊎ ((x : Placed) → IsIn x s.piece → is_alive notes x ≡ true)
    given n q None e i = other i
    given n q (Some b) e i = ⊎_elim
        (λ is. inr (λ x j. fit n b q e x
        (out_filter (is_kept (take b.at notes) b.floor) x (rows_in (sources_in sources layout.segments)) (by_position_in x (filter (is_kept (take b.at notes) b.floor) (rows_in (sources_in sources layout.segments))) (subst (λ z. IsIn x z.piece) is j))).1))
        (λ r. other r)
        (inside (record { number = b.number; piece = merged_piece notes layout sources b; homes = Node node ∷ [] }) (others_in sources layout.segments) i)

    go : (o : Option ℕ) → segment ≡ o → IsIn s (after_merge notes by layout sources o node).segments → (is_among left s ≡ true) ⊎ ((x : Placed) → IsIn x s.piece → is_alive notes x ≡ true)
    go None q i = other i
    go (Some n) q i = given n q (begun_merge layout by n) refl i

-- where nothing is left to be merged, all rows on nodes are alive
pub clean_counts : (notes : List Note) (segments : List Segment) → AreClean notes [] segments → length (rows_in (on_nodes segments)) ≡ count_by (is_alive notes) (rows_in (on_nodes segments))
unfolding AreClean
clean_counts notes segments clean = sym (count_every (is_alive notes) (rows_in (on_nodes segments)) (rows_clean (on_nodes segments) (λ s i.
    let o = out_filter (λ z. not (is_waiting z)) s segments i in
    ⊎_elim (λ no. absurd (false≢true no)) (λ r. r) (clean s o.0 (not-true (is_waiting s) o.1)))))
  where
    rows_clean : (ss : List Segment) → ((s : Segment) → IsIn s ss → (x : Placed) → IsIn x s.piece → is_alive notes x ≡ true) → (x : Placed) → IsIn x (rows_in ss) → is_alive notes x ≡ true
    rows_clean [] f x i = absurd i
    rows_clean (s ∷ ss) f x i = ⊎_elim (λ l. f s (inl refl) x l) (λ r. rows_clean ss (λ t j. f t (inr j)) x r) (in_cases x s.piece (rows_in ss) i)

-- ---- groups

module _ {X : Type 0} (most : ℕ) (size : X → ℕ) where
  joined-and : (group : List X) (groups : List (List X)) → joined (and_groups group groups) ≡ group ++ joined groups
  joined-and [] groups = refl
  joined-and (x ∷ group) groups = refl

  -- the groups have all items, in order
  pub joined-grouped : (group : List X) (sum : ℕ) (xs : List X) → joined (grouped_from most size group sum xs) ≡ group ++ xs
  joined-grouped group sum [] = joined-and group []
  joined-grouped group sum (x ∷ xs) = elim (nat_le (sum + size x) most) as (λ b. joined (cond b (grouped_from most size (group ++ x ∷ []) (sum + size x) xs) (and_groups group (grouped_from most size (x ∷ []) (size x) xs))) ≡ group ++ (x ∷ xs)) [
    | true ↦ joined-grouped (group ++ x ∷ []) (sum + size x) xs ∙ append_assoc group (x ∷ []) xs
    | false ↦ joined-and group (grouped_from most size (x ∷ []) (size x) xs) ∙ ap (λ l. group ++ l) (joined-grouped (x ∷ []) (size x) xs)
  ]

  IsGroup : List X → Type 0
  IsGroup group = (sum_by size group ≤ most) × (0 < length group)

  and_group : (group : List X) (groups : List (List X)) → sum_by size group ≤ most → AllByRecursion (λ g. (sum_by size g ≤ most) × (0 < length g)) groups → AllByRecursion (λ g. (sum_by size g ≤ most) × (0 < length g)) (and_groups group groups)
  and_group [] groups low a = a
  and_group (x ∷ group) groups low a = ((low, omega arith), a)

  -- each group has an item, and its sizes sum to at most `most`
  pub each_grouped : (group : List X) (sum : ℕ) (xs : List X) → sum ≡ sum_by size group → sum ≤ most → AllByRecursion (λ x. size x ≤ most) xs → AllByRecursion (λ g. (sum_by size g ≤ most) × (0 < length g)) (grouped_from most size group sum xs)
  each_grouped group sum [] is low a = and_group group [] (omega arith) tt
  each_grouped group sum (x ∷ xs) is low a = elim (nat_le (sum + size x) most) as (λ b. nat_le (sum + size x) most ≡ b → AllByRecursion (λ g. (sum_by size g ≤ most) × (0 < length g)) (cond b (grouped_from most size (group ++ x ∷ []) (sum + size x) xs) (and_groups group (grouped_from most size (x ∷ []) (size x) xs)))) [
    | true ↦ λ e. each_grouped (group ++ x ∷ []) (sum + size x) xs (let push : sum_by size (group ++ x ∷ []) ≡ sum_by size group + size x = sum_by_push size group x in omega arith) (leb-true (sum + size x) most e) a.1
    | false ↦ λ e. and_group group (grouped_from most size (x ∷ []) (size x) xs) (omega arith) (each_grouped (x ∷ []) (size x) xs (let one : sum_by size (x ∷ []) ≡ size x + sum_by size [] = sum_by-cons size x [] in omega arith) a.0 a.1)
  ] refl
