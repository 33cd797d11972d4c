-- What pieces that are brought up count is what their channel counts; and what is pending changes no node's rows.
use Rattle.std.proofs.Common.{◌≡◌, ℕ, suc, ◌+◌, ◌^◌, ◌<◌, ◌≤◌, Bool, true, false, not, cond, List, [], ◌∷◌, ◌++◌, length, length-append, map, Option, Some, None, refl, sym, ap, ap₂, ◌∙◌, arith}
use Rattle.std.specs.List.{AllByRecursion, filter, list_any, count_by}
use Rattle.std.proofs.lemmas.List.Sums.{sum_by-cons, sum_by-append}
use Rattle.hybrid_time.specs.declared.times.Timestamp.{Timestamp}
use Rattle.log_model.specs.Places.{Placed}
use Rattle.journal_model.specs.declared.notes.Home.{Home}
use Rattle.journal_model.specs.declared.notes.Home.TheVariants.{Leader, Node}
use Rattle.journal_model.specs.declared.notes.Note.{Note}
use Rattle.journal_model.specs.Puts.{put_at}
use Rattle.journal_model.specs.Layouts.{Channel, Segment, is_home, rows_in, by_position, layout_of}
use Rattle.journal_model.specs.Runs.{State, IsSound, AreCorrect, AreApart, Rise, all_rows}
use Rattle.journal_model.specs.Counts.{Counts as ChannelCounts, is_alive, waiting_in, on_nodes, counts_of}
use Rattle.journal_model.specs.Views.{shown}
use Rattle.journal_model.proofs.ListLaws.{all_from}
use Rattle.journal_model.proofs.PieceLaws.{by_position_in, count-by_position, by_position_rises}
use Rattle.journal_model.proofs.PutLaws.{put_within}
use Rattle.channel_pieces.specs.Pieces.{MarkedSegment, MarkedLayout, is_at, segment_marked, numbers_at, marked_by}
use Rattle.channel_pieces.specs.declared.counting.PieceCounts.{PieceCounts}
use Rattle.channel_pieces.specs.Counting.{is_unmarked, rows_of, live_rows_of, counted, IsLeast}
use Rattle.channel_pieces.specs.Counting as pieces
use Rattle.shard_core.specs.declared.pending.Pending.{Pending}
use Rattle.shard_core.specs.declared.pending.Pending.TheVariants.{Row, Closed}
use Rattle.shard_core.specs.Shelves.{Shelves, shelf_of, shelves_of, shelves_in_pieces}
use Rattle.shard_core.specs.Steps.{with_shown, after_all, after_pending}
use Rattle.shard_core.specs.Lagging.{IsBehind}
use Rattle.shard_core.specs.Counting.{is_on, rows_on, waiting_numbers, numbers_on, IsLeastNode}

-- ---- lists

pub filtered : {X Y : Type 0} (f : X → Y) (p : Y → Bool) (xs : List X) → filter p (map f xs) ≡ map f (filter (λ x. p (f x)) xs)
filtered f p [] = refl
filtered f p (x ∷ xs) = elim (p (f x)) as (λ b. cond b (f x ∷ filter p (map f xs)) (filter p (map f xs)) ≡ map f (cond b (x ∷ filter (λ z. p (f z)) xs) (filter (λ z. p (f z)) xs))) [
  | true ↦ ap (λ l. f x ∷ l) (filtered f p xs)
  | false ↦ filtered f p xs
]

pub length_map : {X Y : Type 0} (f : X → Y) (xs : List X) → length (map f xs) ≡ length xs
length_map f [] = refl
length_map f (x ∷ xs) = ap suc (length_map f xs)

pub map_map : {X Y Z : Type 0} (f : X → Y) (g : Y → Z) (xs : List X) → map g (map f xs) ≡ map (λ x. g (f x)) xs
map_map f g [] = refl
map_map f g (x ∷ xs) = ap (λ l. g (f x) ∷ l) (map_map f g xs)

append_none : {X : Type 0} (xs : List X) → xs ++ [] ≡ xs
append_none [] = refl
append_none (x ∷ xs) = ap (λ l. x ∷ l) (append_none xs)

-- ---- what pieces show

module _ (notes : List Note) where
  live_piece : (xs : List Placed) → count_by is_unmarked (map (shown notes) xs) ≡ count_by (is_alive notes) xs
  live_piece [] = refl
  live_piece (x ∷ xs) = sum_by-cons (λ s. cond (is_unmarked s) 1 0) (shown notes x) (map (shown notes) xs) ∙ ap (λ n. cond (is_alive notes x) 1 0 + n) (live_piece xs) ∙ sym (sum_by-cons (λ y. cond (is_alive notes y) 1 0) x xs)

  pub rows_shown : (segments : List Segment) → rows_of (map (shelf_of notes) segments) ≡ length (rows_in segments)
  rows_shown [] = refl
  rows_shown (s ∷ segments) = sum_by-cons (λ (m : MarkedSegment). length m.rows) (shelf_of notes s) (map (shelf_of notes) segments)
      ∙ ap₂ (λ m n. m + n) (length_map (shown notes) s.piece) (rows_shown segments) ∙ sym (length-append s.piece (rows_in segments))

  live_shown : (segments : List Segment) → live_rows_of (map (shelf_of notes) segments) ≡ count_by (is_alive notes) (rows_in segments)
  live_shown [] = refl
  live_shown (s ∷ segments) = sum_by-cons (λ (m : MarkedSegment). count_by is_unmarked m.rows) (shelf_of notes s) (map (shelf_of notes) segments)
      ∙ ap₂ (λ m n. m + n) (live_piece s.piece) (live_shown segments) ∙ sym (sum_by-append (λ x. cond (is_alive notes x) 1 0) s.piece (rows_in segments))

  pub waiting_shown : (segments : List Segment) → length (filter (is_at Leader) (map (shelf_of notes) segments)) ≡ length (waiting_in segments)
  waiting_shown segments = ap length (filtered (shelf_of notes) (is_at Leader) segments) ∙ length_map (shelf_of notes) (waiting_in segments)

  pub nodes_shown : (segments : List Segment) → pieces.on_nodes (map (shelf_of notes) segments) ≡ map (shelf_of notes) (on_nodes segments)
  nodes_shown segments = filtered (shelf_of notes) (λ (m : MarkedSegment). not (is_at Leader m)) segments

  numbers_shown : (home : Home) (segments : List Segment) → numbers_at home (map (shelf_of notes) segments) ≡ map (λ (s : Segment). s.number) (filter (λ s. list_any (is_home home) s.homes) segments)
  numbers_shown home segments = ap (map (λ (m : MarkedSegment). m.number)) (filtered (shelf_of notes) (is_at home) segments) ∙ map_map (shelf_of notes) (λ (m : MarkedSegment). m.number) (filter (λ s. list_any (is_home home) s.homes) segments)

  rows_on_shown : (node : ℕ) (segments : List Segment) → pieces.rows_on node (map (shelf_of notes) segments) ≡ rows_on segments node
  rows_on_shown node segments = ap rows_of (filtered (shelf_of notes) (is_at (Node node)) segments) ∙ rows_shown (filter (is_on node) segments)

abbrev made : ℕ → ℕ → ℕ → ℕ → ℕ → ChannelCounts
made live tail waiting rows alive = record { live = live; tail = tail; waiting = waiting; node_rows = rows; node_live = alive }

module _ (channel : Channel) (notes : List Note) (layout : MarkedLayout) (is : shelves_in_pieces layout ≡ shelves_of channel notes) where
  segments_are : layout.segments ≡ map (shelf_of notes) (layout_of channel notes).segments
  segments_are = ap (λ (s : Shelves). s.segments) is

  pub shown_counts : (c : PieceCounts) (live : ℕ) → c ≡ counted layout
      → ◌≡◌ {A = ChannelCounts} (record { live = live; tail = c.tail; waiting = c.waiting; node_rows = c.node_rows; node_live = c.node_live }) (record (counts_of channel notes) { live = live })
  shown_counts c live e =
      ap (λ (x : PieceCounts). made live x.tail x.waiting x.node_rows x.node_live) e
      ∙ ap (λ (l : List MarkedSegment). made live (length layout.tail) (length (filter (is_at Leader) l)) (rows_of (pieces.on_nodes l)) (live_rows_of (pieces.on_nodes l))) segments_are
      ∙ ap₂ (λ t w. made live t w (rows_of (pieces.on_nodes (map (shelf_of notes) (layout_of channel notes).segments))) (live_rows_of (pieces.on_nodes (map (shelf_of notes) (layout_of channel notes).segments)))) (ap (λ (s : Shelves). length s.tail) is ∙ length_map (shown notes) (layout_of channel notes).tail) (waiting_shown notes (layout_of channel notes).segments)
      ∙ ap (λ (l : List MarkedSegment). made live (length (layout_of channel notes).tail) (length (waiting_in (layout_of channel notes).segments)) (rows_of l) (live_rows_of l)) (nodes_shown notes (layout_of channel notes).segments)
      ∙ ap₂ (made live (length (layout_of channel notes).tail) (length (waiting_in (layout_of channel notes).segments))) (rows_shown notes (on_nodes (layout_of channel notes).segments)) (live_shown notes (on_nodes (layout_of channel notes).segments))

  pub waiting_are : numbers_at Leader layout.segments ≡ waiting_numbers channel notes
  waiting_are = ap (numbers_at Leader) segments_are ∙ numbers_shown notes Leader (layout_of channel notes).segments

  pub numbers_are : (node : ℕ) → numbers_at (Node node) layout.segments ≡ numbers_on channel notes node
  numbers_are node = ap (numbers_at (Node node)) segments_are ∙ numbers_shown notes (Node node) (layout_of channel notes).segments

-- ---- there are at most as many rows as notes

rise_few : (low n : ℕ) (xs : List Placed) → AllByRecursion (λ x. low ≤ x.position) xs → AllByRecursion (λ x. x.position < n) xs → low ≤ n → Rise xs → low + length xs ≤ n
rise_few low n [] above below le rise = let h : low + 0 ≤ n = omega arith in h
rise_few low n (x ∷ xs) above below le rise =
    let a : low ≤ x.position = above.0 in
    let b : x.position < n = below.0 in
    let rest : suc x.position + length xs ≤ n = rise_few (suc x.position) n xs (later xs rise.0) below.1 (omega arith) rise.1 in
    let sum : low + suc (length xs) ≤ n = omega arith in
    sum
  where
    later : (ys : List Placed) → AllByRecursion (λ y. x.position < y.position) ys → AllByRecursion (λ y. suc x.position ≤ y.position) ys
    later [] all = tt
    later (y ∷ ys) all = (let h = all.0 in omega arith, later ys all.1)

count_all : (xs : List Placed) → count_by (λ x. true) xs ≡ length xs
count_all [] = refl
count_all (x ∷ xs) = sum_by-cons (λ (y : Placed). cond true 1 0) x xs ∙ ap (λ n. 1 + n) (count_all xs) ∙ (let e : 1 + length xs ≡ suc (length xs) = omega arith in e)

pub few_rows : (notes : List Note) (xs : List Placed) → AreApart xs → AreCorrect notes xs → length xs ≤ length notes
few_rows notes xs apart correct =
    let same : length (by_position xs) ≡ length xs = sym (count_all (by_position xs)) ∙ count-by_position (λ x. true) xs ∙ count_all xs in
    let few : 0 + length (by_position xs) ≤ length notes = rise_few 0 (length notes) (by_position xs)
    (all_from (λ x. 0 ≤ x.position) (by_position xs) (λ x i. omega arith))
    (all_from (λ x. x.position < length notes) (by_position xs) (λ x i. put_within notes x x.position (correct x (by_position_in x xs i))))
    (omega arith) (by_position_rises xs apart) in
    omega arith

pub rows_fit : (channel : Channel) (s : State) (layout : MarkedLayout) → shelves_in_pieces layout ≡ shelves_of channel s.notes → IsSound channel s → length s.notes ≤ 2 ^ 56 → rows_of layout.segments < 2 ^ 64
rows_fit channel s layout is sound few =
    let same : rows_of layout.segments ≡ length (rows_in (layout_of channel s.notes).segments) = ap (λ (z : Shelves). rows_of z.segments) is ∙ rows_shown s.notes (layout_of channel s.notes).segments in
    let all : length (all_rows (layout_of channel s.notes)) ≡ length (rows_in (layout_of channel s.notes).segments) + length (layout_of channel s.notes).tail = length-append (rows_in (layout_of channel s.notes).segments) (layout_of channel s.notes).tail in
    let within : length (all_rows (layout_of channel s.notes)) ≤ length s.notes = few_rows s.notes (all_rows (layout_of channel s.notes)) sound.rows.apart sound.rows.correct in
    omega arith

-- ---- what is pending changes no node's rows

filter-push : {X : Type 0} (p : X → Bool) (xs : List X) (x : X) → p x ≡ false → filter p (xs ++ x ∷ []) ≡ filter p xs
filter-push p [] x e = ap (λ b. cond b (x ∷ []) []) e
filter-push p (y ∷ xs) x e = ap (λ l. cond (p y) (y ∷ l) l) (filter-push p xs x e)

pending_rows : (node : ℕ) (notes : List Note) (s : Shelves) (p : Pending) → pieces.rows_on node (after_pending notes s p).segments ≡ pieces.rows_on node s.segments
pending_rows node notes s (Row position) = go (put_at notes position)
  where
    go : (o : Option Placed) → pieces.rows_on node (with_shown s o).segments ≡ pieces.rows_on node s.segments
    go None = refl
    go (Some x) = refl
pending_rows node notes s (Closed number) = ap rows_of (filter-push (is_at (Node node)) s.segments (record { number = number; homes = Leader ∷ []; rows = s.tail }) refl)

all_rows_on : (node : ℕ) (notes : List Note) (s : Shelves) (pending : List Pending) → pieces.rows_on node (after_all notes s pending).segments ≡ pieces.rows_on node s.segments
all_rows_on node notes s [] = refl
all_rows_on node notes s (p ∷ pending) = all_rows_on node notes (after_pending notes s p) pending ∙ pending_rows node notes s p

marked_rows : (node : ℕ) (deaths : List (ℕ × Timestamp)) (segments : List MarkedSegment) → pieces.rows_on node (map (segment_marked deaths) segments) ≡ pieces.rows_on node segments
marked_rows node deaths segments = ap rows_of (filtered (segment_marked deaths) (is_at (Node node)) segments) ∙ same (filter (is_at (Node node)) segments)
  where
    same : (xs : List MarkedSegment) → rows_of (map (segment_marked deaths) xs) ≡ rows_of xs
    same [] = refl
    same (x ∷ xs) = sum_by-cons (λ (m : MarkedSegment). length m.rows) (segment_marked deaths x) (map (segment_marked deaths) xs) ∙ ap₂ (λ m n. m + n) (length_map (marked_by deaths) x.rows) (same xs) ∙ sym (sum_by-cons (λ (m : MarkedSegment). length m.rows) x xs)

rows_behind : (channel : Channel) (notes : List Note) (pending : List Pending) (deaths : List (ℕ × Timestamp)) (s : Shelves) (node : ℕ) → IsBehind channel notes pending deaths s → pieces.rows_on node s.segments ≡ rows_on (layout_of channel notes).segments node
rows_behind channel notes pending deaths s node behind =
    sym (all_rows_on node notes s pending)
    ∙ sym (marked_rows node deaths (after_all notes s pending).segments)
    ∙ ap (λ (z : Shelves). pieces.rows_on node z.segments) behind.is
    ∙ rows_on_shown notes node (layout_of channel notes).segments

pub least_behind : (channel : Channel) (notes : List Note) (pending : List Pending) (deaths : List (ℕ × Timestamp)) (s : Shelves) (nodes node : ℕ) → IsBehind channel notes pending deaths s → IsLeast nodes s.segments node
    → IsLeastNode nodes (layout_of channel notes).segments node
least_behind channel notes pending deaths s nodes node behind h =
    let same : (n : ℕ) → pieces.rows_on n s.segments ≡ rows_on (layout_of channel notes).segments n = λ n. rows_behind channel notes pending deaths s n behind in
    record {
      below = h.below;
      fewest = λ other lt. at_most (pieces.rows_on node s.segments) (pieces.rows_on other s.segments) (rows_on (layout_of channel notes).segments node) (rows_on (layout_of channel notes).segments other) (same node) (same other) (h.fewest other lt);
      first = λ other lt. below (pieces.rows_on node s.segments) (pieces.rows_on other s.segments) (rows_on (layout_of channel notes).segments node) (rows_on (layout_of channel notes).segments other) (same node) (same other) (h.first other lt);
    }
  where
    at_most : (a b m n : ℕ) → a ≡ m → b ≡ n → a ≤ b → m ≤ n
    at_most a b m n e f le = omega arith

    below : (a b m n : ℕ) → a ≡ m → b ≡ n → a < b → m < n
    below a b m n e f lt = omega arith
