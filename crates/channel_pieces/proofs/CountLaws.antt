-- Counting: the rows that did not die, the counts of one segment more, and the rows on each node.
use Rattle.std.proofs.Common.{◌≡◌, ◌≢◌, ℕ, suc, ◌+◌, ◌^◌, ◌<◌, ◌≤◌, Bool, true, false, not, cond, ◌&&◌, T, List, [], ◌∷◌, ◌++◌, length, length-append, map, take, get_or, Option, Some, None, refl, sym, ap, ap₂, subst, ◌∙◌, ⊎_elim, zero-add, arith}
use Rattle.std.specs.Prelude.{is_some}
use Rattle.std.specs.List.{AllByRecursion, filter, sum_by, count_by}
use Rattle.std.specs.Ordering.{nat_cmp, is_lt}
use Rattle.std.specs.declared.cmp.Ordering.{Ordering}
use Rattle.std.specs.declared.cmp.Ordering.TheVariants.{Less, Equal, Greater}
use Rattle.std.specs.Cmp.{nat_cmp_total, ranked}
use Rattle.std.specs.FinMap as fin
use Rattle.std.specs.FinMap.Entries.{below_all, is_sorted, by_order}
use Rattle.std.proofs.lemmas.Bool.{cases_eq, cases_lt}
use Rattle.std.proofs.lemmas.List.{map-append, take_more}
use Rattle.std.proofs.lemmas.List.Sums.{sum_by-cons, sum_by_push, sum_by_more_le, count_by-le-length}
use Rattle.hybrid_time.specs.declared.times.Timestamp.{Timestamp}
use Rattle.log_model.specs.Places.{Placed}
use Rattle.log_model.proofs.LogLaws.{each_implied}
use Rattle.journal_model.specs.declared.notes.Home.TheVariants.{Leader, Node}
use Rattle.journal_model.specs.Views.{Shown}
use Rattle.seg_sealed.specs.Marks.{death_of, death_at, deaths_in}
use Rattle.seg_sealed.specs.Parts.{AreDeathsOf, shown_from, shown_as}
use Rattle.place_table.specs.Tables.{Placement, IsChosen, rows_if, is_on}
use Rattle.place_table.specs.Tables.{rows_on as table_rows_on}
use Rattle.channel_pieces.specs.declared.counting.PieceCounts.{PieceCounts}
use Rattle.channel_pieces.specs.Pieces.{MarkedSegment, MarkedLayout, is_at, table_of}
use Rattle.channel_pieces.specs.Fields.{Climb, Piece, homed, numbers_of, counts_after}
use Rattle.channel_pieces.specs.Counting.{is_unmarked, rows_of, live_rows_of, on_nodes, counted_with, rows_on, IsLeast}
use Rattle.channel_pieces.proofs.HomeLaws.{cmp_same, cmp_other}
use Rattle.channel_pieces.proofs.PieceLaws.{Places}

-- ---- deaths by rising rows

abbrev pub Deaths : Type 0
Deaths = List (ℕ × ℕ)

abbrev pub Rising : Deaths → Type 0
Rising [] = Unit {0}
Rising (d ∷ deaths) = AllByRecursion (λ e. d.0 < e.0) deaths × Rising deaths

first_of : (a b : Bool) → T (a && b) → T a
first_of true b h = tt
first_of false b h = absurd h

second_of : (a b : Bool) → T (a && b) → T b
second_of true b h = h
second_of false b h = absurd h

is_below : (a b : ℕ) (r : Ordering) → r ≡ nat_cmp a b → T (is_lt r) → a < b
is_below a b Less e h = ranked a b Less e
is_below a b Equal e h = absurd h
is_below a b Greater e h = absurd h

all_above : (n : ℕ) (deaths : Deaths) → T (below_all nat_cmp n deaths) → AllByRecursion (λ d. n < d.0) deaths
all_above n [] h = tt
all_above n (d ∷ deaths) h = (is_below n d.0 (nat_cmp n d.0) refl (first_of (is_lt (nat_cmp n d.0)) (below_all nat_cmp n deaths) h), all_above n deaths (second_of (is_lt (nat_cmp n d.0)) (below_all nat_cmp n deaths) h))

sorted_rises : (deaths : Deaths) → T (is_sorted nat_cmp deaths) → Rising deaths
sorted_rises [] h = tt
sorted_rises (d ∷ deaths) h = (all_above d.0 deaths (first_of (below_all nat_cmp d.0 deaths) (is_sorted nat_cmp deaths) h), sorted_rises deaths (second_of (below_all nat_cmp d.0 deaths) (is_sorted nat_cmp deaths) h))

-- the deaths of marks rise by their rows
deaths_rise : (m : fin.FinMap nat_cmp ℕ) (deaths : Deaths) → fin.entries m ≡ deaths → Rising deaths
deaths_rise m deaths e = subst Rising e (sorted_rises (fin.entries m) (fin.entries_sorted m))

-- ---- rows that did not die

pub none_there : (i : ℕ) (deaths : Deaths) → AllByRecursion (λ d. i < d.0) deaths → death_at i deaths ≡ None
none_there i [] all = refl
none_there i (d ∷ deaths) all = ap (λ b. cond b (Some d.1) (death_at i deaths)) (cmp_other d.0 i (λ e. let h = all.0 in absurd (omega arith))) ∙ none_there i deaths all.1

pub passed : (d : ℕ × ℕ) (deaths : Deaths) (i : ℕ) (rows : List Placed) → d.0 < i → shown_from (d ∷ deaths) i rows ≡ shown_from deaths i rows
passed d deaths i [] lt = refl
passed d deaths i (x ∷ rows) lt = ap₂ (λ (o : Option ℕ) l. shown_as x o ∷ l) (ap (λ b. cond b (Some d.1) (death_at i deaths)) (cmp_other d.0 i (λ e. absurd (omega arith)))) (passed d deaths (suc i) rows (omega arith))

count_first : (x : Placed) (o p : Option ℕ) (rows : List Shown) → o ≡ p → count_by is_unmarked (shown_as x o ∷ rows) ≡ cond (not (is_some p)) 1 0 + count_by is_unmarked rows
count_first x o p rows e = sum_by-cons (λ s. cond (is_unmarked s) 1 0) (shown_as x o) rows ∙ ap (λ (q : Option ℕ). cond (not (is_some q)) 1 0 + count_by is_unmarked rows) e

live_from : (deaths : Deaths) (i : ℕ) (rows : List Placed) → Rising deaths → AllByRecursion (λ d. i ≤ d.0) deaths → AllByRecursion (λ d. d.0 < i + length rows) deaths
    → count_by is_unmarked (shown_from deaths i rows) + length deaths ≡ length rows
live_from [] i [] rise low high = refl
live_from (d ∷ deaths) i [] rise low high = let a = low.0 in let b = high.0 in absurd (omega arith)
live_from [] i (x ∷ rows) rise low high =
    let first : count_by is_unmarked (shown_from [] i (x ∷ rows)) ≡ 1 + count_by is_unmarked (shown_from [] (suc i) rows) = count_first x None None (shown_from [] (suc i) rows) refl in
    let rest : count_by is_unmarked (shown_from [] (suc i) rows) + 0 ≡ length rows = live_from [] (suc i) rows tt tt tt in
    let sum : count_by is_unmarked (shown_from [] i (x ∷ rows)) + 0 ≡ suc (length rows) = omega arith in
    sum
live_from (d ∷ deaths) i (x ∷ rows) rise low high =
    let within : AllByRecursion (λ e. e.0 < suc i + length rows) deaths = each_implied (λ e. e.0 < i + suc (length rows)) (λ e. e.0 < suc i + length rows) (λ e h. omega arith) deaths high.1 in
    ⊎_elim
    (λ (same : d.0 ≡ i).
    let there : death_at i (d ∷ deaths) ≡ Some d.1 = ap (λ b. cond b (Some d.1) (death_at i deaths)) (cmp_same d.0 i (sym same)) in
    let first : count_by is_unmarked (shown_from (d ∷ deaths) i (x ∷ rows)) ≡ 0 + count_by is_unmarked (shown_from (d ∷ deaths) (suc i) rows) = count_first x (death_at i (d ∷ deaths)) (Some d.1) (shown_from (d ∷ deaths) (suc i) rows) there in
    let more : count_by is_unmarked (shown_from (d ∷ deaths) (suc i) rows) ≡ count_by is_unmarked (shown_from deaths (suc i) rows) = ap (count_by is_unmarked) (passed d deaths (suc i) rows (omega arith)) in
    let rest : count_by is_unmarked (shown_from deaths (suc i) rows) + length deaths ≡ length rows = live_from deaths (suc i) rows rise.1 (each_implied (λ e. d.0 < e.0) (λ e. suc i ≤ e.0) (λ e h. omega arith) deaths rise.0) within in
    let sum : count_by is_unmarked (shown_from (d ∷ deaths) i (x ∷ rows)) + suc (length deaths) ≡ suc (length rows) = omega arith in
    sum)
    (λ (ne : d.0 ≢ i).
    let least : i ≤ d.0 = low.0 in
    let above : i < d.0 = ⊎_elim (λ (lt : i < d.0). lt) (λ (ge : d.0 ≤ i). let e : d.0 ≡ i = omega arith in absurd (ne e)) (cases_lt i d.0) in
    let later : AllByRecursion (λ e. i < e.0) deaths = each_implied (λ e. d.0 < e.0) (λ e. i < e.0) (λ e h. omega arith) deaths rise.0 in
    let first : count_by is_unmarked (shown_from (d ∷ deaths) i (x ∷ rows)) ≡ 1 + count_by is_unmarked (shown_from (d ∷ deaths) (suc i) rows) = count_first x (death_at i (d ∷ deaths)) None (shown_from (d ∷ deaths) (suc i) rows) (none_there i (d ∷ deaths) (above, later)) in
    let top : d.0 < i + suc (length rows) = high.0 in
    let rest : count_by is_unmarked (shown_from (d ∷ deaths) (suc i) rows) + suc (length deaths) ≡ length rows = live_from (d ∷ deaths) (suc i) rows rise (omega arith, each_implied (λ e. i < e.0) (λ e. suc i ≤ e.0) (λ e h. omega arith) deaths later) (omega arith, within) in
    let sum : count_by is_unmarked (shown_from (d ∷ deaths) i (x ∷ rows)) + suc (length deaths) ≡ suc (length rows) = omega arith in
    sum)
    (cases_eq d.0 i)

-- the rows that did not die, and the deaths, are all rows
live_rows : (deaths : Deaths) (rows : List Placed) → Rising deaths → AreDeathsOf (length rows) deaths → count_by is_unmarked (shown_from deaths 0 rows) + length deaths ≡ length rows
live_rows deaths rows rise within = live_from deaths 0 rows rise (from_zero deaths) (each_implied (λ d. d.0 < length rows) (λ d. d.0 < 0 + length rows) (λ d h. omega arith) deaths within)
  where
    from_zero : (ds : Deaths) → AllByRecursion (λ d. 0 ≤ d.0) ds
    from_zero [] = tt
    from_zero (d ∷ ds) = (omega arith, from_zero ds)

pub live_marked : (marks : List (ℕ × Timestamp)) (deaths : Deaths) (rows : List Placed) → deaths_in marks ≡ deaths → AreDeathsOf (length rows) deaths → count_by is_unmarked (shown_from deaths 0 rows) + length deaths ≡ length rows
live_marked marks deaths rows e within = live_rows deaths rows (deaths_rise (fin.from_entries {R = nat_cmp} (map death_of marks)) deaths e) within

-- ---- one segment more

filter-push : {X : Type 0} (p : X → Bool) (xs : List X) (x : X) → filter p (xs ++ x ∷ []) ≡ filter p xs ++ cond (p x) (x ∷ []) []
filter-push p [] x = refl
filter-push p (y ∷ xs) x = go (p y) (filter-push p xs x)
  where
    go : (b : Bool) → filter p (xs ++ x ∷ []) ≡ filter p xs ++ cond (p x) (x ∷ []) []
        → cond b (y ∷ filter p (xs ++ x ∷ [])) (filter p (xs ++ x ∷ [])) ≡ cond b (y ∷ filter p xs) (filter p xs) ++ cond (p x) (x ∷ []) []
    go true e = ap (λ l. y ∷ l) e
    go false e = e

length-push : {X : Type 0} (xs : List X) (x : X) → length (xs ++ x ∷ []) ≡ length xs + 1
length-push xs x = length-append xs (x ∷ [])

append_none : {X : Type 0} (xs : List X) → xs ++ [] ≡ xs
append_none [] = refl
append_none (x ∷ xs) = ap (λ l. x ∷ l) (append_none xs)

abbrev made : ℕ → ℕ → ℕ → ℕ → PieceCounts
made tail waiting rows live = record { tail = tail; waiting = waiting; node_rows = rows; node_live = live }

pub count_push : (tail : ℕ) (xs : List MarkedSegment) (s : MarkedSegment) → counted_with tail (xs ++ s ∷ []) ≡ counts_after (is_at Leader s) s.rows (counted_with tail xs)
count_push tail xs s =
    ap₂ (λ (w n : List MarkedSegment). made tail (length w) (rows_of n) (live_rows_of n)) (filter-push (is_at Leader) xs s) (filter-push (λ (m : MarkedSegment). not (is_at Leader m)) xs s)
    ∙ go (is_at Leader s)
  where
    go : (b : Bool) → made tail (length (filter (is_at Leader) xs ++ cond b (s ∷ []) [])) (rows_of (on_nodes xs ++ cond (not b) (s ∷ []) [])) (live_rows_of (on_nodes xs ++ cond (not b) (s ∷ []) [])) ≡ counts_after b s.rows (counted_with tail xs)
    go true = ap₂ (λ n (l : List MarkedSegment). made tail n (rows_of l) (live_rows_of l)) (length-push (filter (is_at Leader) xs) s) (append_none (on_nodes xs))
    go false = ap (λ (l : List MarkedSegment). made tail (length l) (rows_of (on_nodes xs ++ s ∷ [])) (live_rows_of (on_nodes xs ++ s ∷ []))) (append_none (filter (is_at Leader) xs))
        ∙ ap₂ (made tail (length (filter (is_at Leader) xs))) (sum_by_push (λ (m : MarkedSegment). length m.rows) (on_nodes xs) s) (sum_by_push (λ (m : MarkedSegment). count_by is_unmarked m.rows) (on_nodes xs) s)

pub count_more : (tail : ℕ) (places : Places) (pieces : List Piece) (i : ℕ) (s : Piece) → i < length pieces → get_or pieces i s ≡ s
    → counted_with tail (map (homed places) (take (i + 1) pieces)) ≡ counts_after (is_at Leader (homed places s)) s.rows (counted_with tail (map (homed places) (take i pieces)))
count_more tail places pieces i s lt is =
    ap (λ (l : List Piece). counted_with tail (map (homed places) l)) (take_more pieces i s lt)
    ∙ ap (counted_with tail) (map-append (homed places) (take i pieces) (get_or pieces i s ∷ []))
    ∙ ap (λ (p : Piece). counted_with tail (map (homed places) (take i pieces) ++ homed places p ∷ [])) is
    ∙ count_push tail (map (homed places) (take i pieces)) (homed places s)

-- ---- that sums fit

filtered_less : {X : Type 0} (f : X → ℕ) (p : X → Bool) (xs : List X) → sum_by f (filter p xs) ≤ sum_by f xs
filtered_less f p [] = let h : 0 ≤ 0 = omega arith in h
filtered_less f p (x ∷ xs) = go (p x) (filtered_less f p xs) (sum_by-cons f x xs) (sum_by-cons f x (filter p xs))
  where
    go : (b : Bool) → sum_by f (filter p xs) ≤ sum_by f xs → sum_by f (x ∷ xs) ≡ f x + sum_by f xs → sum_by f (x ∷ filter p xs) ≡ f x + sum_by f (filter p xs) → sum_by f (cond b (x ∷ filter p xs) (filter p xs)) ≤ sum_by f (x ∷ xs)
    go true rest all some = let h : sum_by f (x ∷ filter p xs) ≤ sum_by f (x ∷ xs) = omega arith in h
    go false rest all some = let h : sum_by f (filter p xs) ≤ sum_by f (x ∷ xs) = omega arith in h

live_less : (rows : List Shown) → count_by is_unmarked rows ≤ length rows
live_less rows = count_by-le-length is_unmarked rows

live_sum_less : (xs : List MarkedSegment) → live_rows_of xs ≤ rows_of xs
live_sum_less [] = let h : 0 ≤ 0 = omega arith in h
live_sum_less (s ∷ xs) =
    let a = sum_by-cons (λ (m : MarkedSegment). count_by is_unmarked m.rows) s xs in
    let b = sum_by-cons (λ (m : MarkedSegment). length m.rows) s xs in
    let c = live_less s.rows in
    let d = live_sum_less xs in
    omega arith

rows_homed : (places : Places) (pieces : List Piece) → rows_of (map (homed places) pieces) ≡ sum_by (λ (p : Piece). length p.rows) pieces
rows_homed places [] = refl
rows_homed places (s ∷ pieces) = sum_by-cons (λ (m : MarkedSegment). length m.rows) (homed places s) (map (homed places) pieces) ∙ ap (λ n. length s.rows + n) (rows_homed places pieces) ∙ sym (sum_by-cons (λ (p : Piece). length p.rows) s pieces)

-- the counts of the pieces before one have room for it, where all rows together fit
pub record HasCountRoom (c : PieceCounts) (rows : List Shown) : Type 0 where
  pub rows_fit : c.node_rows + length rows < 2 ^ 64
  pub live_fit : c.node_live + count_by is_unmarked rows < 2 ^ 64

pub count_fits : (tail : ℕ) (places : Places) (pieces : List Piece) (i : ℕ) (s : Piece) → i < length pieces → get_or pieces i s ≡ s → rows_of (map (homed places) pieces) < 2 ^ 64
    → HasCountRoom (counted_with tail (map (homed places) (take i pieces))) s.rows
count_fits tail places pieces i s lt is few =
    let front : List MarkedSegment = map (homed places) (take i pieces) in
    let here : length (get_or pieces i s).rows ≡ length s.rows = ap (λ (p : Piece). length p.rows) is in
    let sum : sum_by (λ (p : Piece). length p.rows) (take i pieces) + length (get_or pieces i s).rows ≤ sum_by (λ (p : Piece). length p.rows) pieces = sum_by_more_le (λ (p : Piece). length p.rows) pieces i s lt in
    let a : rows_of front ≡ sum_by (λ (p : Piece). length p.rows) (take i pieces) = rows_homed places (take i pieces) in
    let b : rows_of (map (homed places) pieces) ≡ sum_by (λ (p : Piece). length p.rows) pieces = rows_homed places pieces in
    let f : rows_of (on_nodes front) ≤ rows_of front = filtered_less (λ (m : MarkedSegment). length m.rows) (λ (m : MarkedSegment). not (is_at Leader m)) front in
    let l : live_rows_of (on_nodes front) ≤ rows_of (on_nodes front) = live_sum_less (on_nodes front) in
    let r : count_by is_unmarked s.rows ≤ length s.rows = live_less s.rows in
    let rows : rows_of (on_nodes front) + length s.rows < 2 ^ 64 = omega arith in
    let live : live_rows_of (on_nodes front) + count_by is_unmarked s.rows < 2 ^ 64 = omega arith in
    record { rows_fit = rows; live_fit = live }

pub waiting_more : (waits : Bool) (rows : List Shown) (c : PieceCounts) (n : ℕ) → c.waiting ≤ n → (counts_after waits rows c).waiting ≤ n + 1
waiting_more true rows c n le = let h : c.waiting + 1 ≤ n + 1 = omega arith in h
waiting_more false rows c n le = let h : c.waiting ≤ n + 1 = omega arith in h

-- ---- the rows on each node

abbrev entry : MarkedSegment → ℕ × Placement
entry s = (s.number, record { rows = length s.rows; homes = s.homes })

abbrev Ascend : List MarkedSegment → Type 0
Ascend [] = Unit {0}
Ascend (s ∷ segments) = AllByRecursion (λ m. s.number < m.number) segments × Ascend segments

put_front : (s : MarkedSegment) (segments : List MarkedSegment) → AllByRecursion (λ m. s.number < m.number) segments → fin.put nat_cmp s.number (entry s).1 (map entry segments) ≡ map entry (s ∷ segments)
put_front s [] all = refl
put_front s (m ∷ segments) all = ap (λ o. by_order o (entry s ∷ map entry (m ∷ segments)) ((m.number, (entry s).1) ∷ map entry segments) (entry m ∷ fin.put nat_cmp s.number (entry s).1 (map entry segments))) (less s.number m.number all.0)
  where
    less : (a b : ℕ) → a < b → nat_cmp a b ≡ Less
    less a b lt = grind arith

entries_of_table : (segments : List MarkedSegment) → Ascend segments → fin.entries (fin.from_entries {R = nat_cmp} (map entry segments)) ≡ map entry segments
entries_of_table [] up = no_items (fin.entries fin.empty) (sym (fin.len-entries fin.empty) ∙ fin.len-empty nat_cmp Placement)
  where
    no_items : {A : Type 0} (xs : List A) → length xs ≡ 0 → xs ≡ []
    no_items [] e = refl
    no_items (x ∷ xs) e = absurd (omega arith)
entries_of_table (s ∷ segments) up =
    fin.entries-insert nat_cmp_total (fin.from_entries (map entry segments)) s.number (entry s).1 ∙ ap (fin.put nat_cmp s.number (entry s).1) (entries_of_table segments up.1) ∙ put_front s segments up.0

abbrev on_it : ℕ → Placement → ℕ
on_it node p = rows_if (is_on node p) p.rows

rows_of_entries : (node : ℕ) (segments : List MarkedSegment) → sum_by (on_it node) (map (λ (e : ℕ × Placement). e.1) (map entry segments)) ≡ rows_on node segments
rows_of_entries node [] = refl
rows_of_entries node (s ∷ segments) =
    sum_by-cons (on_it node) (entry s).1 (map (λ (e : ℕ × Placement). e.1) (map entry segments))
    ∙ ap (λ n. on_it node (entry s).1 + n) (rows_of_entries node segments)
    ∙ go (is_at (Node node) s)
  where
    go : (b : Bool) → rows_if b (length s.rows) + rows_of (filter (is_at (Node node)) segments) ≡ rows_of (cond b (s ∷ filter (is_at (Node node)) segments) (filter (is_at (Node node)) segments))
    go true = sym (sum_by-cons (λ (m : MarkedSegment). length m.rows) s (filter (is_at (Node node)) segments))
    go false = zero-add (rows_of (filter (is_at (Node node)) segments))

table_rows : (node : ℕ) (segments : List MarkedSegment) → Ascend segments → table_rows_on node (fin.from_entries (map entry segments)) ≡ rows_on node segments
table_rows node segments up = ap (λ (es : List (ℕ × Placement)). sum_by (on_it node) (map (λ (e : ℕ × Placement). e.1) es)) (entries_of_table segments up) ∙ rows_of_entries node segments

homed_ascend : (places : Places) (pieces : List Piece) → Climb (numbers_of pieces) → Ascend (map (homed places) pieces)
homed_ascend places [] c = tt
homed_ascend places (s ∷ pieces) c = (above pieces c.0, homed_ascend places pieces c.1)
  where
    above : (ps : List Piece) → AllByRecursion (λ n. s.number < n) (numbers_of ps) → AllByRecursion (λ (m : MarkedSegment). s.number < m.number) (map (homed places) ps)
    above [] all = tt
    above (p ∷ ps) all = (all.0, above ps all.1)

-- the node that the table chooses has the fewest rows
pub least_is : (layout : MarkedLayout) (places : Places) (pieces : List Piece) (node : ℕ) → layout.segments ≡ map (homed places) pieces → Climb (numbers_of pieces) → IsChosen (table_of layout) node → IsLeast layout.nodes layout.segments node
least_is layout places pieces node is c h =
    let up : Ascend layout.segments = subst Ascend (sym is) (homed_ascend places pieces c) in
    let same : (n : ℕ) → table_rows_on n (table_of layout).segments ≡ rows_on n layout.segments = λ n. table_rows n layout.segments up in
    record {
      below = h.below;
      fewest = λ other lt. at_most (table_rows_on node (table_of layout).segments) (table_rows_on other (table_of layout).segments) (rows_on node layout.segments) (rows_on other layout.segments) (same node) (same other) (h.fewest other lt);
      first = λ other lt. below (table_rows_on node (table_of layout).segments) (table_rows_on other (table_of layout).segments) (rows_on node layout.segments) (rows_on other layout.segments) (same node) (same other) (h.first other lt);
    }
  where
    at_most : (a b m n : ℕ) → a ≡ m → b ≡ n → a ≤ b → m ≤ n
    at_most a b m n e f le = omega arith

    below : (a b m n : ℕ) → a ≡ m → b ≡ n → a < b → m < n
    below a b m n e f lt = omega arith
