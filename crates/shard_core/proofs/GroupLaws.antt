-- Groups of segments, as they are made one segment after another and as the journal has them.
use Rattle.std.proofs.Common.{◌≡◌, ℕ, ◌+◌, ◌*◌, nat_le, nat_lt, Bool, true, false, cond, List, [], ◌∷◌, ◌++◌, length, length-append, map, take, get_or, ◌<◌, refl, sym, ap, ap₂, ◌∙◌, append_assoc, append-nil, le-leb, arith}
use Rattle.std.specs.List.{filter, sum_by, count_by}
use Rattle.std.proofs.lemmas.List.{map-append, take_more}
use Rattle.std.proofs.lemmas.List.Sums.{sum_by-cons, sum_by-append}
use Rattle.log_model.specs.Places.{Placed}
use Rattle.journal_model.specs.declared.notes.Note.{Note}
use Rattle.journal_model.specs.Layouts.{Channel, Segment, is_kept, rows_in, layout_of}
use Rattle.journal_model.specs.Counts.{on_nodes}
use Rattle.journal_model.specs.Groups.{kept_rows, and_groups, grouped_from, grouped, numbers_of, small_in, small_groups, is_mostly_dead, meet_groups}
use Rattle.journal_model.specs.Views.{shown}
use Rattle.channel_pieces.specs.declared.keeping.KeptRows.{KeptRows}
use Rattle.channel_pieces.specs.Pieces.{MarkedLayout}
use Rattle.channel_pieces.specs.Keeping.{kept_of, kept_on_nodes, outlives}
use Rattle.shard_core.specs.Shelves.{Shelves, shelf_of, shelves_of, shelves_in_pieces}
use Rattle.shard_core.specs.Grouping.{GroupsSoFar, with_group, after_close, with_next, with_all, groups_of, is_small, are_mostly_dead}
use Rattle.shard_core.proofs.CountLaws.{filtered, length_map, nodes_shown}

-- ---- one segment after another

with_all-push : (g : GroupsSoFar) (segments : List KeptRows) (s : KeptRows) → with_all g (segments ++ s ∷ []) ≡ with_next s (with_all g segments)
with_all-push g [] s = refl
with_all-push g (x ∷ segments) s = with_all-push (with_next x g) segments s

pub with_all-more : (g : GroupsSoFar) (segments : List KeptRows) (i : ℕ) (s : KeptRows) → i < length segments → with_all g (take (i + 1) segments) ≡ with_next (get_or segments i s) (with_all g (take i segments))
with_all-more g segments i s lt = ap (with_all g) (take_more segments i s lt) ∙ with_all-push g (take i segments) (get_or segments i s)

-- ---- groups of segments

abbrev has_enough : ℕ → List Segment → Bool
has_enough least group = nat_le least (length group)

abbrev numbers : List Segment → List ℕ
numbers group = map (λ (s : Segment). s.number) group

abbrev telling : (Segment → ℕ) → (Segment → ℕ) → Segment → KeptRows
telling rows size s = record { number = s.number; rows = rows s; kept = size s }

module _ (least : ℕ) (most : ℕ) (none : nat_le least 0 ≡ false) (rows size : Segment → ℕ) where
  ended : (done : List (List ℕ)) (group : List Segment) (groups : List (List Segment))
      → with_group least done (numbers group) ++ numbers_of (filter (has_enough least) groups) ≡ done ++ numbers_of (filter (has_enough least) (and_groups group groups))
  ended done [] groups = ap (λ b. cond b (done ++ [] ∷ []) done ++ numbers_of (filter (has_enough least) groups)) none
  ended done (x ∷ group) groups =
      ap (λ n. cond (nat_le least n) (done ++ numbers (x ∷ group) ∷ []) done ++ numbers_of (filter (has_enough least) groups)) (length_map (λ (s : Segment). s.number) (x ∷ group))
      ∙ elim (nat_le least (length (x ∷ group))) as
      (λ b. cond b (done ++ numbers (x ∷ group) ∷ []) done ++ numbers_of (filter (has_enough least) groups)
      ≡ done ++ numbers_of (cond b ((x ∷ group) ∷ filter (has_enough least) groups) (filter (has_enough least) groups))) [
        | true ↦ append_assoc done (numbers (x ∷ group) ∷ []) (numbers_of (filter (has_enough least) groups))
        | false ↦ refl
      ]

  abbrev so_far : List (List ℕ) → List ℕ → ℕ → GroupsSoFar
  so_far done group sum = record { least = least; most = most; done = done; open_members = group; sum = sum }

  made : (segments : List Segment) (done : List (List ℕ)) (group : List Segment) (sum : ℕ)
      → (after_close (with_all (so_far done (numbers group) sum) (map (telling rows size) segments))).done ≡ done ++ numbers_of (filter (has_enough least) (grouped_from most size group sum segments))
  made [] done group sum = sym (append-nil (with_group least done (numbers group))) ∙ ended done group []
  made (s ∷ segments) done group sum = elim (nat_le (sum + size s) most) as
      (λ b. (after_close (with_all (cond b (so_far done (numbers group ++ s.number ∷ []) (sum + size s)) (so_far (with_group least done (numbers group)) (s.number ∷ []) (size s))) (map (telling rows size) segments))).done
      ≡ done ++ numbers_of (filter (has_enough least) (cond b (grouped_from most size (group ++ s ∷ []) (sum + size s) segments) (and_groups group (grouped_from most size (s ∷ []) (size s) segments))))) [
        | true ↦ ap (λ l. (after_close (with_all (so_far done l (sum + size s)) (map (telling rows size) segments))).done) (sym (map-append (λ (x : Segment). x.number) group (s ∷ [])))
            ∙ made segments done (group ++ s ∷ []) (sum + size s)
        | false ↦ made segments (with_group least done (numbers group)) (s ∷ []) (size s)
            ∙ ended done group (grouped_from most size (s ∷ []) (size s) segments)
      ]

  pub groups_made : (segments : List Segment) → groups_of least most (map (telling rows size) segments) ≡ numbers_of (filter (has_enough least) (grouped most size segments))
  groups_made segments = made segments [] [] 0

-- each group has a segment
module _ (most : ℕ) (size : Segment → ℕ) where
  some_first : (group : List Segment) (groups : List (List Segment)) → filter (has_enough 1) groups ≡ groups → filter (has_enough 1) (and_groups group groups) ≡ and_groups group groups
  some_first [] groups e = e
  some_first (x ∷ group) groups e =
      ap (λ b. cond b ((x ∷ group) ∷ filter (has_enough 1) groups) (filter (has_enough 1) groups)) (le-leb 1 (length (x ∷ group)) (omega arith))
      ∙ ap (λ l. (x ∷ group) ∷ l) e

  all_some : (segments group : List Segment) (sum : ℕ) → filter (has_enough 1) (grouped_from most size group sum segments) ≡ grouped_from most size group sum segments
  all_some [] group sum = some_first group [] refl
  all_some (s ∷ segments) group sum = elim (nat_le (sum + size s) most) as
      (λ b. filter (has_enough 1) (cond b (grouped_from most size (group ++ s ∷ []) (sum + size s) segments) (and_groups group (grouped_from most size (s ∷ []) (size s) segments)))
      ≡ cond b (grouped_from most size (group ++ s ∷ []) (sum + size s) segments) (and_groups group (grouped_from most size (s ∷ []) (size s) segments))) [
        | true ↦ all_some segments (group ++ s ∷ []) (sum + size s)
        | false ↦ some_first group (grouped_from most size (s ∷ []) (size s) segments) (all_some segments (s ∷ []) (size s))
      ]

-- ---- what pieces tell

module _ (notes : List Note) (floor : ℕ) where
  abbrev told : Segment → KeptRows
  told s = telling (λ (x : Segment). length x.piece) (kept_rows notes floor) s

  kept_piece : (xs : List Placed) → count_by (outlives floor) (map (shown notes) xs) ≡ count_by (is_kept notes floor) xs
  kept_piece [] = refl
  kept_piece (x ∷ xs) = sum_by-cons (λ s. cond (outlives floor s) 1 0) (shown notes x) (map (shown notes) xs) ∙ ap (λ n. cond (is_kept notes floor x) 1 0 + n) (kept_piece xs) ∙ sym (sum_by-cons (λ y. cond (is_kept notes floor y) 1 0) x xs)

  told_each : (segments : List Segment) → map (kept_of floor) (map (shelf_of notes) segments) ≡ map told segments
  told_each [] = refl
  told_each (s ∷ segments) = ap₂ (λ (r k : ℕ). record { number = s.number; rows = r; kept = k } ∷ map (kept_of floor) (map (shelf_of notes) segments)) (length_map (shown notes) s.piece) (kept_piece s.piece) ∙ ap (λ (l : List KeptRows). told s ∷ l) (told_each segments)

  pub kept_shown : (segments : List Segment) → kept_on_nodes floor (map (shelf_of notes) segments) ≡ map told (on_nodes segments)
  kept_shown segments = ap (map (kept_of floor)) (nodes_shown notes segments) ∙ told_each (on_nodes segments)

  kept_sum : (segments : List Segment) → sum_by (λ (s : KeptRows). s.kept) (map told segments) ≡ count_by (is_kept notes floor) (rows_in segments)
  kept_sum [] = refl
  kept_sum (s ∷ segments) = sum_by-cons (λ (k : KeptRows). k.kept) (told s) (map told segments)
      ∙ ap (λ n. kept_rows notes floor s + n) (kept_sum segments) ∙ sym (sum_by-append (λ x. cond (is_kept notes floor x) 1 0) s.piece (rows_in segments))

  rows_sum : (segments : List Segment) → sum_by (λ (s : KeptRows). s.rows) (map told segments) ≡ length (rows_in segments)
  rows_sum [] = refl
  rows_sum (s ∷ segments) = sum_by-cons (λ (k : KeptRows). k.rows) (told s) (map told segments)
      ∙ ap (λ n. length s.piece + n) (rows_sum segments) ∙ sym (length-append s.piece (rows_in segments))

  dead_told : (segments : List Segment) → are_mostly_dead (map told segments) ≡ is_mostly_dead notes floor (rows_in segments)
  dead_told segments = ap₂ (λ k r. nat_lt (2 * k) r) (kept_sum segments) (rows_sum segments)

-- the groups of a compaction, and of a meet
module _ (channel : Channel) (notes : List Note) (floor : ℕ) (pieces : MarkedLayout) (shows : shelves_in_pieces pieces ≡ shelves_of channel notes) (kept : List KeptRows) (is : kept ≡ kept_on_nodes floor pieces.segments) where
  abbrev nodes : List Segment
  nodes = on_nodes (layout_of channel notes).segments

  abbrev row_count : Segment → ℕ
  row_count s = length s.piece

  kept_are : kept ≡ map (told notes floor) nodes
  kept_are = is ∙ ap (λ (z : Shelves). kept_on_nodes floor z.segments) shows ∙ kept_shown notes floor (layout_of channel notes).segments

  pub small_made : groups_of 2 channel.seal_rows (filter (is_small channel.seal_rows) kept) ≡ numbers_of (small_groups channel notes floor)
  small_made =
      ap (λ l. groups_of 2 channel.seal_rows (filter (is_small channel.seal_rows) l)) kept_are
      ∙ ap (groups_of 2 channel.seal_rows) (filtered (told notes floor) (is_small channel.seal_rows) nodes)
      ∙ groups_made 2 channel.seal_rows refl row_count (kept_rows notes floor) (small_in channel notes floor (layout_of channel notes).segments)

  all_made : groups_of 1 channel.seal_rows kept ≡ numbers_of (grouped channel.seal_rows (kept_rows notes floor) nodes)
  all_made =
      ap (groups_of 1 channel.seal_rows) kept_are
      ∙ groups_made 1 channel.seal_rows refl row_count (kept_rows notes floor) nodes
      ∙ ap numbers_of (all_some channel.seal_rows (kept_rows notes floor) nodes [] 0)

  dead_made : are_mostly_dead kept ≡ is_mostly_dead notes floor (rows_in nodes)
  dead_made = ap are_mostly_dead kept_are ∙ dead_told notes floor nodes

  pub meet_made : are_mostly_dead kept ≡ true → groups_of 1 channel.seal_rows kept ≡ numbers_of (meet_groups channel notes floor)
  meet_made e = all_made ∙ sym (ap (λ b. numbers_of (cond b (grouped channel.seal_rows (kept_rows notes floor) nodes) [])) (sym dead_made ∙ e))

  pub meet_spared : are_mostly_dead kept ≡ false → [] ≡ numbers_of (meet_groups channel notes floor)
  meet_spared e = sym (ap (λ b. numbers_of (cond b (grouped channel.seal_rows (kept_rows notes floor) nodes) [])) (sym dead_made ∙ e))
