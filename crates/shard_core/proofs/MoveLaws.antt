-- Moves, releases and merges on pieces that are brought up.
use Rattle.std.proofs.Common.{◌≡◌, ℕ, ℤ, ◌+◌, arith, length, ⊎_elim, true, false, cond, not, List, [], ◌∷◌, ◌++◌, map, Option, Some, None, refl, sym, ap, ap₂, ◌∙◌}
use Rattle.std.specs.Prelude.{nat_eq, nat_lt}
use Rattle.std.specs.List.{list_any}
use Rattle.std.specs.Option.{option_map, option_or}
use Rattle.std.proofs.lemmas.Bool.{cases_lt}
use Rattle.std.proofs.lemmas.List.{drop_all, length_push}
use Rattle.log_model.specs.Places.{Placed}
use Rattle.journal_model.specs.declared.notes.Home.{Home}
use Rattle.journal_model.specs.declared.notes.Home.TheVariants.{Node}
use Rattle.journal_model.specs.declared.notes.Kind.TheVariants.{Load, Release, Merge}
use Rattle.journal_model.specs.declared.notes.Note.{Note}
use Rattle.journal_model.specs.Layouts.{Channel, Segment, Layout, BegunMerge, with_homes, rehome, homes_after_load, homes_after_release, others_in, merged_piece, begun_merge, with_segment, with_merged, after_merge, layout_after, layout_of}
use Rattle.journal_model.specs.Puts.{ended, first_end, death}
use Rattle.journal_model.specs.Views.{Shown, shown}
use Rattle.journal_model.proofs.LayoutLaws.{layout-snoc}
use Rattle.journal_model.proofs.PutLaws.{dead_at-append, first_end-one, option_or-none, dead_at_past}
use Rattle.channel_pieces.specs.Pieces.{MarkedSegment, rehomed}
use Rattle.hybrid_time.specs.declared.times.Timestamp.{Timestamp}
use Rattle.shard_core.specs.declared.pending.Pending.{Pending}
use Rattle.shard_core.specs.Shelves.{Shelves, no_shelves, shelf_of, shelves_in, shelves_of, shelves_but, with_shelf, with_product, product_of, merged_shelves}
use Rattle.shard_core.specs.Steps.{after_pending, with_ends}
use Rattle.shard_core.specs.Lagging.{IsBehind}
use Rattle.shard_core.proofs.MarkLaws.{once_none}
use Rattle.shard_core.proofs.ShelfLaws.{no_ends}

-- ---- nothing is pending, and no death is open

pub brought_up : (channel : Channel) (notes : List Note) (s : Shelves) → s ≡ shelves_of channel notes → IsBehind channel notes [] [] s
brought_up channel notes s is = record { rows = tt; died = tt; once = once_none; is = no_ends s ∙ is }

pub shows_all : (channel : Channel) (notes : List Note) (s : Shelves) → IsBehind channel notes [] [] s → s ≡ shelves_of channel notes
shows_all channel notes s k = sym (no_ends s) ∙ k.is

-- ---- segments that change with their layout

moved_shown : (notes : List Note) (number : ℕ) (change : List Home → List Home) (segments : List Segment) → rehomed number change (map (shelf_of notes) segments) ≡ map (shelf_of notes) (rehome number change segments)
moved_shown notes number change [] = refl
moved_shown notes number change (s ∷ segments) = elim (nat_eq s.number number) as (λ b. cond b (record { number = s.number; homes = change s.homes; rows = map (shown notes) s.piece } ∷ map (shelf_of notes) segments) (shelf_of notes s ∷ rehomed number change (map (shelf_of notes) segments)) ≡ map (shelf_of notes) (cond b (with_homes change s ∷ segments) (s ∷ rehome number change segments))) [
  | true ↦ refl
  | false ↦ ap (λ l. shelf_of notes s ∷ l) (moved_shown notes number change segments)
]

but_shown : (notes : List Note) (sources : List ℕ) (segments : List Segment) → shelves_but sources (map (shelf_of notes) segments) ≡ map (shelf_of notes) (others_in sources segments)
but_shown notes sources [] = refl
but_shown notes sources (s ∷ segments) = elim (list_any (λ number. nat_eq s.number number) sources) as (λ b. cond (not b) (shelf_of notes s ∷ shelves_but sources (map (shelf_of notes) segments)) (shelves_but sources (map (shelf_of notes) segments)) ≡ map (shelf_of notes) (cond (not b) (s ∷ others_in sources segments) (others_in sources segments))) [
  | true ↦ but_shown notes sources segments
  | false ↦ ap (λ l. shelf_of notes s ∷ l) (but_shown notes sources segments)
]

with_shelf_shown : (notes : List Note) (s : Segment) (segments : List Segment) → with_shelf (shelf_of notes s) (map (shelf_of notes) segments) ≡ map (shelf_of notes) (with_segment s segments)
with_shelf_shown notes s [] = refl
with_shelf_shown notes s (other ∷ others) = elim (nat_lt s.number other.number) as (λ b. cond b (shelf_of notes s ∷ shelf_of notes other ∷ map (shelf_of notes) others) (shelf_of notes other ∷ with_shelf (shelf_of notes s) (map (shelf_of notes) others)) ≡ map (shelf_of notes) (cond b (s ∷ other ∷ others) (other ∷ with_segment s others))) [
  | true ↦ refl
  | false ↦ ap (λ l. shelf_of notes other ∷ l) (with_shelf_shown notes s others)
]

product_shown : (notes : List Note) (layout : Layout) (sources : List ℕ) (node : ℕ) (o : Option BegunMerge) (segments : List Segment)
    → with_product node (option_map (λ (b : BegunMerge). (b.number, map (shown notes) (merged_piece notes layout sources b))) o) (map (shelf_of notes) segments) ≡ map (shelf_of notes) (with_merged notes layout sources node o segments)
product_shown notes layout sources node None segments = refl
product_shown notes layout sources node (Some b) segments = with_shelf_shown notes (record { number = b.number; piece = merged_piece notes layout sources b; homes = Node node ∷ [] }) segments

merged_shown : (notes : List Note) (by : ℕ) (layout : Layout) (sources : List ℕ) (segment : Option ℕ) (node : ℕ)
    → merged_shelves sources (product_of notes by layout sources segment) node (map (shelf_of notes) layout.segments) ≡ map (shelf_of notes) (after_merge notes by layout sources segment node).segments
merged_shown notes by layout sources None node = but_shown notes sources layout.segments
merged_shown notes by layout sources (Some number) node =
    ap (with_product node (product_of notes by layout sources (Some number))) (but_shown notes sources layout.segments)
    ∙ product_shown notes layout sources node (begun_merge layout by number) (others_in sources layout.segments)

-- ---- notes that end no row

module _ (notes : List Note) (note : Note) (quiet : (key : ℤ) → ended key note.kind ≡ None) where
  same_death : (x : Placed) → death (notes ++ note ∷ []) x ≡ death notes x
  same_death x = ⊎_elim
      (λ lt.
      dead_at-append notes (note ∷ []) x.position x.row.key.0 lt
      ∙ ap (option_or (death notes x)) (first_end-one x.row.key.0 note ∙ quiet x.row.key.0)
      ∙ option_or-none (death notes x))
      (λ ge.
      ap (first_end x.row.key.0) (drop_all (x.position + 1) (notes ++ note ∷ []) (omega (arith, length_push notes note)))
      ∙ sym (dead_at_past notes x.position x.row.key.0 ge))
      (cases_lt x.position (length notes))

  pub same_shown : (xs : List Placed) → map (shown (notes ++ note ∷ [])) xs ≡ map (shown notes) xs
  same_shown [] = refl
  same_shown (x ∷ xs) = ap₂ (λ (m : Option ℕ) (l : List Shown). record { position = x.position; ts = x.ts; row = x.row; mark = m } ∷ l) (same_death x) (same_shown xs)

  same_segments : (segments : List Segment) → map (shelf_of (notes ++ note ∷ [])) segments ≡ map (shelf_of notes) segments
  same_segments [] = refl
  same_segments (s ∷ segments) = ap₂ (λ (l : List Shown) (m : List MarkedSegment). record { number = s.number; homes = s.homes; rows = l } ∷ m) (same_shown s.piece) (same_segments segments)

  pub same_shelves : (layout : Layout) → shelves_in (notes ++ note ∷ []) layout ≡ shelves_in notes layout
  same_shelves layout = ap₂ (λ (l : List Shown) (m : List MarkedSegment). record { tail = l; segments = m }) (same_shown layout.tail) (same_segments layout.segments)

-- ---- the notes

module _ (channel : Channel) (notes : List Note) (note : Note) (s : Shelves) (k : IsBehind channel notes [] [] s) where
  then : (segments : List MarkedSegment) (layout : Layout) → ((key : ℤ) → ended key note.kind ≡ None) → layout_after channel notes note.by (layout_of channel notes) note.kind ≡ layout
      → layout.tail ≡ (layout_of channel notes).tail → segments ≡ map (shelf_of notes) layout.segments
      → IsBehind channel (notes ++ note ∷ []) [] [] (record { tail = s.tail; segments = segments })
  then segments layout quiet after tail is = brought_up channel (notes ++ note ∷ []) (record { tail = s.tail; segments = segments })
      (ap₂ (λ (l : List Shown) (m : List MarkedSegment). record { tail = l; segments = m }) (ap (λ (z : Shelves). z.tail) (shows_all channel notes s k) ∙ ap (map (shown notes)) (sym tail)) is
      ∙ sym (same_shelves notes note quiet layout)
      ∙ ap (shelves_in (notes ++ note ∷ [])) (sym after ∙ sym (layout-snoc channel notes note)))

  shows : s.segments ≡ map (shelf_of notes) (layout_of channel notes).segments
  shows = ap (λ (z : Shelves). z.segments) (shows_all channel notes s k)

  pub loaded : (segment node : ℕ) → note.kind ≡ Load segment node → IsBehind channel (notes ++ note ∷ []) [] [] (record { tail = s.tail; segments = rehomed segment (homes_after_load node) s.segments })
  loaded segment node e = then (rehomed segment (homes_after_load node) s.segments) (layout_after channel notes note.by (layout_of channel notes) (Load segment node))
      (λ key. ap (ended key) e) (ap (layout_after channel notes note.by (layout_of channel notes)) e) refl
      (ap (rehomed segment (homes_after_load node)) shows ∙ moved_shown notes segment (homes_after_load node) (layout_of channel notes).segments)

  pub released : (segment node : ℕ) → note.kind ≡ Release segment node → IsBehind channel (notes ++ note ∷ []) [] [] (record { tail = s.tail; segments = rehomed segment (homes_after_release node) s.segments })
  released segment node e = then (rehomed segment (homes_after_release node) s.segments) (layout_after channel notes note.by (layout_of channel notes) (Release segment node))
      (λ key. ap (ended key) e) (ap (layout_after channel notes note.by (layout_of channel notes)) e) refl
      (ap (rehomed segment (homes_after_release node)) shows ∙ moved_shown notes segment (homes_after_release node) (layout_of channel notes).segments)

  same_tail : (sources : List ℕ) (segment : Option ℕ) (node : ℕ) → (after_merge notes note.by (layout_of channel notes) sources segment node).tail ≡ (layout_of channel notes).tail
  same_tail sources None node = refl
  same_tail sources (Some number) node = refl

  pub merged : (sources : List ℕ) (segment : Option ℕ) (node : ℕ) → note.kind ≡ Merge sources segment node
      → IsBehind channel (notes ++ note ∷ []) [] [] (record { tail = s.tail; segments = merged_shelves sources (product_of notes note.by (layout_of channel notes) sources segment) node s.segments })
  merged sources segment node e = then (merged_shelves sources (product_of notes note.by (layout_of channel notes) sources segment) node s.segments) (after_merge notes note.by (layout_of channel notes) sources segment node)
      (λ key. ap (ended key) e) (ap (layout_after channel notes note.by (layout_of channel notes)) e) (same_tail sources segment node)
      (ap (merged_shelves sources (product_of notes note.by (layout_of channel notes) sources segment) node) shows ∙ merged_shown notes note.by (layout_of channel notes) sources segment node)

-- ---- bringing up

pub behind_none : (channel : Channel) → IsBehind channel [] [] [] no_shelves
unfolding layout_of
behind_none channel = record { rows = tt; died = tt; once = once_none; is = refl }

pub behind_next : (channel : Channel) (notes : List Note) (p : Pending) (pending : List Pending) (deaths : List (ℕ × Timestamp)) (s : Shelves) → IsBehind channel notes (p ∷ pending) deaths s → IsBehind channel notes pending deaths (after_pending notes s p)
behind_next channel notes p pending deaths s k = record { rows = k.rows.1; died = k.died; once = k.once; is = k.is }

pub behind_marked : (channel : Channel) (notes : List Note) (deaths : List (ℕ × Timestamp)) (s : Shelves) → IsBehind channel notes [] deaths s → IsBehind channel notes [] [] (with_ends deaths s)
behind_marked channel notes deaths s k = brought_up channel notes (with_ends deaths s) k.is
