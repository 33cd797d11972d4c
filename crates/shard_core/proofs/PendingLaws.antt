-- What is pending is counted as it would be once it is brought up, and no count on the way is too great.
use Rattle.std.proofs.Common.{◌≡◌, ℕ, ◌+◌, ◌^◌, ◌<◌, ◌≤◌, Bool, true, false, not, cond, List, [], ◌∷◌, ◌++◌, length, length-append, Option, Some, None, refl, sym, ap, ap₂, subst, ◌∙◌, arith}
use Rattle.std.specs.List.{AllByRecursion, filter}
use Rattle.std.proofs.lemmas.List.{length_push}
use Rattle.std.proofs.lemmas.List.Sums.{sum_by-append}
use Rattle.std.proofs.lemmas.List.Elements.{filter-append}
use Rattle.log_model.specs.Places.{Placed}
use Rattle.journal_model.specs.declared.notes.Home.TheVariants.{Leader}
use Rattle.journal_model.specs.declared.notes.Note.{Note}
use Rattle.journal_model.specs.Puts.{put_at}
use Rattle.journal_model.specs.Layouts.{Channel, Segment, rows_in, layout_of}
use Rattle.journal_model.specs.Runs.{State, IsSound, IsSegment, all_rows}
use Rattle.journal_model.specs.Views.{shown}
use Rattle.seg_sealed.specs.Parts.{shown_as}
use Rattle.channel_pieces.specs.Pieces.{MarkedSegment, MarkedLayout, is_at}
use Rattle.channel_pieces.specs.declared.counting.PieceCounts.{PieceCounts}
use Rattle.channel_pieces.specs.Counting.{rows_of, live_rows_of, counted, counted_with, on_nodes}
use Rattle.channel_journal.specs.Notes.{ChannelJournal}
use Rattle.shard_core.specs.declared.pending.Pending.{Pending}
use Rattle.shard_core.specs.declared.pending.Pending.TheVariants.{Row, Closed}
use Rattle.shard_core.specs.Shelves.{Shelves, shelf_of, shelves_of, shelves_in_pieces}
use Rattle.shard_core.specs.Steps.{with_shown, after_all, after_pending, counted_after, counted_all, Fit}
use Rattle.shard_core.specs.Lagging.{IsPut, IsBehind}
use Rattle.shard_core.specs.Kept.{LaggingPieces, IsBehindOf}
use Rattle.shard_core.proofs.MoveLaws.{shows_all}
use Rattle.shard_core.proofs.CountLaws.{few_rows, rows_shown, length_map, waiting_shown}

-- what shelves count
abbrev counts_in : Shelves → PieceCounts
counts_in s = counted_with (length s.tail) s.segments

-- all rows of shelves, and the segments that wait
abbrev rows_all : Shelves → ℕ
rows_all s = rows_of s.segments + length s.tail

abbrev waits : Shelves → ℕ
waits s = length (filter (is_at Leader) s.segments)

abbrev closed : Shelves → ℕ → MarkedSegment
closed s number = record { number = number; homes = Leader ∷ []; rows = s.tail }

-- ---- one step

waits_closed : (s : Shelves) (number : ℕ) → length (filter (is_at Leader) (s.segments ++ closed s number ∷ [])) ≡ waits s + 1
waits_closed s number = ap length (filter-append (is_at Leader) s.segments (closed s number ∷ [])) ∙ length_push (filter (is_at Leader) s.segments) (closed s number)

append_none : {X : Type 0} (xs : List X) → xs ++ [] ≡ xs
append_none [] = refl
append_none (x ∷ xs) = ap (λ l. x ∷ l) (append_none xs)

nodes_closed : (s : Shelves) (number : ℕ) → on_nodes (s.segments ++ closed s number ∷ []) ≡ on_nodes s.segments
nodes_closed s number = filter-append (λ (m : MarkedSegment). not (is_at Leader m)) s.segments (closed s number ∷ []) ∙ append_none (on_nodes s.segments)

abbrev counts_made : ℕ → ℕ → List MarkedSegment → PieceCounts
counts_made tail waiting nodes = record { tail = tail; waiting = waiting; node_rows = rows_of nodes; node_live = live_rows_of nodes }

counted_next : (notes : List Note) (s : Shelves) (p : Pending) → IsPut notes p → counts_in (after_pending notes s p) ≡ counted_after (counts_in s) p
counted_next notes s (Row position) h =
    ap (λ o. counts_in (with_shown s o)) h.1
    ∙ ap (λ n. counts_made n (waits s) (on_nodes s.segments)) (length_push s.tail (shown_as h.0 None))
counted_next notes s (Closed number) h = ap₂ (counts_made 0) (waits_closed s number) (nodes_closed s number)

rows_next : (notes : List Note) (s : Shelves) (p : Pending) → rows_all s ≤ rows_all (after_pending notes s p)
rows_next notes s (Row position) = go (put_at notes position)
  where
    go : (o : Option Placed) → rows_all s ≤ rows_all (with_shown s o)
    go None = omega arith
    go (Some x) = let e : length (s.tail ++ shown_as x None ∷ []) ≡ length s.tail + 1 = length_push s.tail (shown_as x None) in omega arith
rows_next notes s (Closed number) =
    let e : rows_of (s.segments ++ closed s number ∷ []) ≡ rows_of s.segments + rows_of (closed s number ∷ []) = sum_by-append (λ (m : MarkedSegment). length m.rows) s.segments (closed s number ∷ []) in
    let f : rows_of (closed s number ∷ []) ≡ 0 + length s.tail = refl in
    let h : rows_of s.segments + length s.tail ≤ rows_of (s.segments ++ closed s number ∷ []) + 0 = omega arith in
    h

waits_next : (notes : List Note) (s : Shelves) (p : Pending) → waits s ≤ waits (after_pending notes s p)
waits_next notes s (Row position) = go (put_at notes position)
  where
    go : (o : Option Placed) → waits s ≤ waits (with_shown s o)
    go None = omega arith
    go (Some x) = omega arith
waits_next notes s (Closed number) = let e = waits_closed s number in omega arith

-- ---- all of them

pub counted_pending : (notes : List Note) (s : Shelves) (pending : List Pending) → AllByRecursion (IsPut notes) pending → counts_in (after_all notes s pending) ≡ counted_all (counts_in s) pending
counted_pending notes s [] all = refl
counted_pending notes s (p ∷ pending) all =
    counted_pending notes (after_pending notes s p) pending all.1
    ∙ ap (λ c. counted_all c pending) (counted_next notes s p all.0)

rows_grow : (notes : List Note) (s : Shelves) (pending : List Pending) → rows_all s ≤ rows_all (after_all notes s pending)
rows_grow notes s [] = omega arith
rows_grow notes s (p ∷ pending) =
    let a = rows_next notes s p in
    let b = rows_grow notes (after_pending notes s p) pending in
    omega arith

waits_grow : (notes : List Note) (s : Shelves) (pending : List Pending) → waits s ≤ waits (after_all notes s pending)
waits_grow notes s [] = omega arith
waits_grow notes s (p ∷ pending) =
    let a = waits_next notes s p in
    let b = waits_grow notes (after_pending notes s p) pending in
    omega arith

fit_all : (notes : List Note) (s : Shelves) (pending : List Pending) → AllByRecursion (IsPut notes) pending
    → rows_all (after_all notes s pending) ≤ 2 ^ 56 → waits (after_all notes s pending) ≤ 2 ^ 56 → Fit (counts_in s) pending
fit_all notes s [] all rows few = tt
fit_all notes s (p ∷ pending) all rows few =
    let a : rows_all s ≤ rows_all (after_all notes s (p ∷ pending)) = rows_grow notes s (p ∷ pending) in
    let b : waits s ≤ waits (after_all notes s (p ∷ pending)) = waits_grow notes s (p ∷ pending) in (
      let h : length s.tail + 1 < 2 ^ 64 = omega arith in h,
      let h : waits s + 1 < 2 ^ 64 = omega arith in h,
      subst (λ c. Fit c pending) (counted_next notes s p all.0) (fit_all notes (after_pending notes s p) pending all.1 rows few),
    )

-- ---- how many there can be

waiting_few : (p : Segment → Bool) (segments : List Segment) → AllByRecursion IsSegment segments → length (filter p segments) ≤ length (rows_in segments)
waiting_few p [] all = omega arith
waiting_few p (s ∷ segments) all =
    let some : 0 < length s.piece = all.0.some in
    let rest = waiting_few p segments all.1 in
    let sum : length (rows_in (s ∷ segments)) ≡ length s.piece + length (rows_in segments) = length-append s.piece (rows_in segments) in
    elim (p s) as (λ b. length (cond b (s ∷ filter p segments) (filter p segments)) ≤ length (rows_in (s ∷ segments))) [
      | true ↦ omega arith
      | false ↦ omega arith
    ]

module _ (channel : Channel) (s : State) (sound : IsSound channel s) (few : length s.notes ≤ 2 ^ 56) where
  rows_sum : rows_all (shelves_of channel s.notes) ≡ length (all_rows (layout_of channel s.notes))
  rows_sum = ap₂ (λ m n. m + n) (rows_shown s.notes (layout_of channel s.notes).segments) (length_map (shown s.notes) (layout_of channel s.notes).tail) ∙ sym (length-append (rows_in (layout_of channel s.notes).segments) (layout_of channel s.notes).tail)

  all_few : length (all_rows (layout_of channel s.notes)) ≤ length s.notes
  all_few = few_rows s.notes (all_rows (layout_of channel s.notes)) sound.rows.apart sound.rows.correct

  shown_few : rows_all (shelves_of channel s.notes) ≤ 2 ^ 56
  shown_few = let a = rows_sum in let b = all_few in omega arith

  shown_waits : waits (shelves_of channel s.notes) ≤ 2 ^ 56
  shown_waits =
      let a : waits (shelves_of channel s.notes) ≡ length (filter (λ (z : Segment). is_at Leader (shelf_of s.notes z)) (layout_of channel s.notes).segments) = waiting_shown s.notes (layout_of channel s.notes).segments in
      let b = waiting_few (λ (z : Segment). is_at Leader (shelf_of s.notes z)) (layout_of channel s.notes).segments sound.segments in
      let c : length (all_rows (layout_of channel s.notes)) ≡ length (rows_in (layout_of channel s.notes).segments) + length (layout_of channel s.notes).tail = length-append (rows_in (layout_of channel s.notes).segments) (layout_of channel s.notes).tail in
      let d = all_few in
      omega arith

-- ---- pieces that lack no death

-- the pieces with what is pending
abbrev pub with_pending : List Note → LaggingPieces → MarkedLayout
with_pending notes l = record l.pieces { tail = (after_all notes (shelves_in_pieces l.pieces) l.pending).tail; segments = (after_all notes (shelves_in_pieces l.pieces) l.pending).segments }

module _ (j : ChannelJournal) (l : LaggingPieces) (behind : IsBehindOf j l) (quiet : l.deaths ≡ []) where
  pub shown_pending : shelves_in_pieces (with_pending j.state.notes l) ≡ shelves_of j.channel j.state.notes
  shown_pending =
      let k : IsBehind j.channel j.state.notes l.pending [] (shelves_in_pieces l.pieces) = subst (λ ds. IsBehind j.channel j.state.notes l.pending ds (shelves_in_pieces l.pieces)) quiet behind in
      shows_all j.channel j.state.notes (after_all j.state.notes (shelves_in_pieces l.pieces) l.pending) (record { rows = tt; died = k.died; once = k.once; is = k.is })

  pub counts_pending : counted (with_pending j.state.notes l) ≡ counted_all (counted l.pieces) l.pending
  counts_pending = counted_pending j.state.notes (shelves_in_pieces l.pieces) l.pending behind.rows

  pub pieces_few : IsSound j.channel j.state → length j.state.notes ≤ 2 ^ 56 → rows_of l.pieces.segments < 2 ^ 64
  pieces_few sound few =
      let a : rows_all (shelves_in_pieces l.pieces) ≤ rows_all (after_all j.state.notes (shelves_in_pieces l.pieces) l.pending) = rows_grow j.state.notes (shelves_in_pieces l.pieces) l.pending in
      let b : rows_all (after_all j.state.notes (shelves_in_pieces l.pieces) l.pending) ≤ 2 ^ 56 = subst (λ (z : Shelves). rows_all z ≤ 2 ^ 56) (sym shown_pending) (shown_few j.channel j.state sound few) in
      let h : rows_of l.pieces.segments < 2 ^ 64 = omega arith in
      h

  pub pending_fits : IsSound j.channel j.state → length j.state.notes ≤ 2 ^ 56 → Fit (counted l.pieces) l.pending
  pending_fits sound few = fit_all j.state.notes (shelves_in_pieces l.pieces) l.pending behind.rows
      (subst (λ (z : Shelves). rows_all z ≤ 2 ^ 56) (sym shown_pending) (shown_few j.channel j.state sound few))
      (subst (λ (z : Shelves). waits z ≤ 2 ^ 56) (sym shown_pending) (shown_waits j.channel j.state sound few))
