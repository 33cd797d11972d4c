-- Shelves: rows and boundaries that join them, marks, and the view.
use Rattle.std.proofs.Common.{◌≡◌, ℕ, Bool, true, false, cond, ◌||◌, List, [], ◌∷◌, ◌++◌, map, Option, Some, None, refl, sym, ap, ap₂, ◌∙◌}
use Rattle.std.specs.Prelude.{nat_eq}
use Rattle.std.specs.List.{AllByRecursion, list_any}
use Rattle.std.proofs.lemmas.List.{map-append}
use Rattle.log_model.specs.Places.{Placed}
use Rattle.journal_model.specs.declared.notes.Home.{Home}
use Rattle.journal_model.specs.declared.notes.Home.TheVariants.{Leader}
use Rattle.journal_model.specs.declared.notes.Note.{Note}
use Rattle.journal_model.specs.Notes.{tick_of}
use Rattle.journal_model.specs.Puts.{put_at}
use Rattle.journal_model.specs.Layouts.{Channel, Segment, Layout, rows_in, after_boundary, waiting_segment, number_at, layout_of}
use Rattle.journal_model.specs.Lawful.{homes_in, is_there}
use Rattle.journal_model.specs.Lists.{IsIn}
use Rattle.journal_model.specs.Runs.{AreCorrect, all_rows}
use Rattle.journal_model.specs.Views.{Shown, shown, copies, places, view_of}
use Rattle.journal_model.proofs.ListLaws.{in_left, in_right, all_from}
use Rattle.journal_model.proofs.PutLaws.{put_at-append, put_within}
use Rattle.seg_sealed.specs.Parts.{shown_as}
use Rattle.channel_pieces.specs.Pieces.{MarkedSegment, marked_by, places_of, segment_marked}
use Rattle.hybrid_time.specs.declared.times.Timestamp.{Timestamp}
use Rattle.shard_core.specs.declared.pending.Pending.{Pending}
use Rattle.shard_core.specs.declared.pending.Pending.TheVariants.{Row, Closed}
use Rattle.shard_core.specs.Shelves.{Shelves, shelf_of, shelves_in, shelves_of, seen_in, is_shelved, homes_at}
use Rattle.shard_core.specs.Steps.{with_shown, with_closed, after_pending, after_all, with_ends, caught_up, deaths_of, is_closing}
use Rattle.shard_core.specs.Lagging.{IsPut, homes_with, is_there_with}
use Rattle.shard_core.proofs.MarkLaws.{marked_by-append, marked_by_none, shown_later}

-- ---- lists

pub map_twice : {A B C : Type 0} (f : A → B) (g : B → C) (h : A → C) → ((a : A) → g (f a) ≡ h a) → (xs : List A) → map g (map f xs) ≡ map h xs
map_twice f g h e [] = refl
map_twice f g h e (x ∷ xs) = ap₂ (λ y l. y ∷ l) (e x) (map_twice f g h e xs)

pub map_same : {A : Type 0} (f : A → A) → ((a : A) → f a ≡ a) → (xs : List A) → map f xs ≡ xs
map_same f e [] = refl
map_same f e (x ∷ xs) = ap₂ (λ y l. y ∷ l) (e x) (map_same f e xs)

map_where : {A B : Type 0} (P : A → Type 0) (f g : A → B) → ((a : A) → P a → f a ≡ g a) → (xs : List A) → AllByRecursion P xs → map f xs ≡ map g xs
map_where P f g e [] a = refl
map_where P f g e (x ∷ xs) a = ap₂ (λ y l. y ∷ l) (e x a.0) (map_where P f g e xs a.1)

-- ---- marks

pub segment_marked-append : (ds es : List (ℕ × Timestamp)) (s : MarkedSegment) → segment_marked (ds ++ es) s ≡ segment_marked es (segment_marked ds s)
segment_marked-append ds es s = ap (λ (l : List Shown). record { number = s.number; homes = s.homes; rows = l }) (sym (map_twice (marked_by ds) (marked_by es) (marked_by (ds ++ es)) (λ r. sym (marked_by-append ds es r)) s.rows))

pub ends-append : (ds es : List (ℕ × Timestamp)) (s : Shelves) → with_ends (ds ++ es) s ≡ with_ends es (with_ends ds s)
ends-append ds es s = ap₂ (λ (l : List Shown) (m : List MarkedSegment). record { tail = l; segments = m })
    (sym (map_twice (marked_by ds) (marked_by es) (marked_by (ds ++ es)) (λ r. sym (marked_by-append ds es r)) s.tail))
    (sym (map_twice (segment_marked ds) (segment_marked es) (segment_marked (ds ++ es)) (λ r. sym (segment_marked-append ds es r)) s.segments))

pub no_ends : (s : Shelves) → with_ends [] s ≡ s
no_ends s = ap₂ (λ (l : List Shown) (m : List MarkedSegment). record { tail = l; segments = m })
    (map_same (marked_by []) marked_by_none s.tail)
    (map_same (segment_marked []) (λ r. ap (λ (l : List Shown). record { number = r.number; homes = r.homes; rows = l }) (map_same (marked_by []) marked_by_none r.rows)) s.segments)

abbrev IsPlacedAt : List Note → Placed → Type 0
IsPlacedAt notes x = put_at notes x.position ≡ Some x

pieces_put : (notes : List Note) (ss : List Segment) → ((x : Placed) → IsIn x (rows_in ss) → put_at notes x.position ≡ Some x) → AllByRecursion (λ s. AllByRecursion (IsPlacedAt notes) s.piece) ss
pieces_put notes [] f = tt
pieces_put notes (s ∷ ss) f = (all_from (IsPlacedAt notes) s.piece (λ x i. f x (in_left x s.piece (rows_in ss) i)), pieces_put notes ss (λ x i. f x (in_right x s.piece (rows_in ss) i)))

-- after one more note the same layout shows its death
pub shelves_later : (notes : List Note) (note : Note) (layout : Layout) → AreCorrect notes (all_rows layout) → with_ends (deaths_of notes note.kind) (shelves_in notes layout) ≡ shelves_in (notes ++ note ∷ []) layout
shelves_later notes note layout correct = ap₂ (λ (l : List Shown) (m : List MarkedSegment). record { tail = l; segments = m })
    (rows layout.tail (all_from (IsPlacedAt notes) layout.tail (λ x i. correct x (in_right x (rows_in layout.segments) layout.tail i))))
    (map_twice (shelf_of notes) (segment_marked (deaths_of notes note.kind)) (λ s. segment_marked (deaths_of notes note.kind) (shelf_of notes s)) (λ s. refl) layout.segments
    ∙ map_where (λ s. AllByRecursion (IsPlacedAt notes) s.piece) (λ s. segment_marked (deaths_of notes note.kind) (shelf_of notes s)) (shelf_of (notes ++ note ∷ []))
    (λ s a. ap (λ (l : List Shown). record { number = s.number; homes = s.homes; rows = l }) (rows s.piece a))
    layout.segments (pieces_put notes layout.segments (λ x i. correct x (in_left x (rows_in layout.segments) layout.tail i))))
  where
    rows : (xs : List Placed) → AllByRecursion (IsPlacedAt notes) xs → map (marked_by (deaths_of notes note.kind)) (map (shown notes) xs) ≡ map (shown (notes ++ note ∷ [])) xs
    rows xs a = map_twice (shown notes) (marked_by (deaths_of notes note.kind)) (λ x. marked_by (deaths_of notes note.kind) (shown notes x)) (λ x. refl) xs
        ∙ map_where (IsPlacedAt notes) (λ x. marked_by (deaths_of notes note.kind) (shown notes x)) (shown (notes ++ note ∷ [])) (λ x p. shown_later notes note x p) xs a

-- ---- what is pending

pub all-append : (notes : List Note) (ps qs : List Pending) (s : Shelves) → after_all notes s (ps ++ qs) ≡ after_all notes (after_all notes s ps) qs
all-append notes [] qs s = refl
all-append notes (p ∷ ps) qs s = all-append notes ps qs (after_pending notes s p)

pub one_stays : (notes more : List Note) (p : Pending) (s : Shelves) → IsPut notes p → after_pending (notes ++ more) s p ≡ after_pending notes s p
one_stays notes more (Row position) s h = ap (with_shown s) (put_at-append notes more position (put_within notes h.0 position h.1))
one_stays notes more (Closed number) s h = refl

pub all_stay : (notes more : List Note) (ps : List Pending) (s : Shelves) → AllByRecursion (IsPut notes) ps → after_all (notes ++ more) s ps ≡ after_all notes s ps
all_stay notes more [] s a = refl
all_stay notes more (p ∷ ps) s a = ap (λ z. after_all (notes ++ more) z ps) (one_stays notes more p s a.0) ∙ all_stay notes more ps (after_pending notes s p) a.1

-- marks go through rows and boundaries
pub ends_shown : (ds : List (ℕ × Timestamp)) (s : Shelves) (x : Placed) → with_ends ds (with_shown s (Some x)) ≡ record { tail = (with_ends ds s).tail ++ marked_by ds (shown_as x None) ∷ []; segments = (with_ends ds s).segments }
ends_shown ds s x = ap (λ (l : List Shown). record { tail = l; segments = (with_ends ds s).segments }) (map-append (marked_by ds) s.tail (shown_as x None ∷ []))

pub ends_closed : (ds : List (ℕ × Timestamp)) (s : Shelves) (number : ℕ) → with_ends ds (with_closed s number) ≡ with_closed (with_ends ds s) number
ends_closed ds s number = ap (λ (l : List MarkedSegment). record { tail = []; segments = l }) (map-append (segment_marked ds) s.segments (record { number = number; homes = Leader ∷ []; rows = s.tail } ∷ []))

-- ---- boundaries of a layout

pub shelves_closed : (channel : Channel) (notes : List Note) (layout : Layout) (rows : List Placed) → shelves_in notes (after_boundary channel layout rows) ≡ with_closed (record { tail = map (shown notes) rows; segments = map (shelf_of notes) layout.segments }) (number_at channel layout.taken)
shelves_closed channel notes layout rows = ap (λ (l : List MarkedSegment). record { tail = []; segments = l }) (map-append (shelf_of notes) layout.segments (waiting_segment (number_at channel layout.taken) rows ∷ []))

-- ---- the view

copies_shown : (notes : List Note) (piece : List Placed) (homes : List Home) → map (map (shown notes)) (map (λ home. piece) homes) ≡ map (λ home. map (shown notes) piece) homes
copies_shown notes piece [] = refl
copies_shown notes piece (home ∷ homes) = ap (λ l. map (shown notes) piece ∷ l) (copies_shown notes piece homes)

places_shown : (notes : List Note) (segments : List Segment) → map (map (shown notes)) (places segments) ≡ places_of (map (shelf_of notes) segments)
places_shown notes [] = refl
places_shown notes (s ∷ segments) = map-append (map (shown notes)) (copies s) (places segments) ∙ ap₂ (λ a b. a ++ b) (copies_shown notes s.piece s.homes) (places_shown notes segments)

pub view_seen : (channel : Channel) (floor : ℕ) (notes : List Note) → seen_in floor (tick_of notes) (shelves_of channel notes) ≡ view_of channel floor notes
view_seen channel floor notes = ap (λ (l : List (List Shown)). record { floor = floor; tick = tick_of notes; parts = map (shown notes) (layout_of channel notes).tail ∷ l }) (sym (places_shown notes (layout_of channel notes).segments))

-- ---- homes

pub homes_shown : (notes : List Note) (segments : List Segment) (number : ℕ) → homes_at (map (shelf_of notes) segments) number ≡ homes_in segments number
homes_shown notes [] number = refl
homes_shown notes (s ∷ segments) number = ap (λ l. cond (nat_eq s.number number) s.homes l) (homes_shown notes segments number)

pub shelved_shown : (notes : List Note) (segments : List Segment) (number : ℕ) → is_shelved (map (shelf_of notes) segments) number ≡ list_any (λ s. nat_eq s.number number) segments
shelved_shown notes [] number = refl
shelved_shown notes (s ∷ segments) number = ap (λ b. nat_eq s.number number || b) (shelved_shown notes segments number)

homes_marked : (ds : List (ℕ × Timestamp)) (segments : List MarkedSegment) (number : ℕ) → homes_at (map (segment_marked ds) segments) number ≡ homes_at segments number
homes_marked ds [] number = refl
homes_marked ds (s ∷ segments) number = ap (λ l. cond (nat_eq s.number number) s.homes l) (homes_marked ds segments number)

shelved_marked : (ds : List (ℕ × Timestamp)) (segments : List MarkedSegment) (number : ℕ) → is_shelved (map (segment_marked ds) segments) number ≡ is_shelved segments number
shelved_marked ds [] number = refl
shelved_marked ds (s ∷ segments) number = ap (λ b. nat_eq s.number number || b) (shelved_marked ds segments number)

homes-append : (xs ys : List MarkedSegment) (number : ℕ) → homes_at (xs ++ ys) number ≡ cond (is_shelved xs number) (homes_at xs number) (homes_at ys number)
homes-append [] ys number = refl
homes-append (s ∷ xs) ys number = elim (nat_eq s.number number) as (λ b. cond b s.homes (homes_at (xs ++ ys) number) ≡ cond (b || is_shelved xs number) (cond b s.homes (homes_at xs number)) (homes_at ys number)) [
  | true ↦ refl
  | false ↦ homes-append xs ys number
]

shelved-append : (xs ys : List MarkedSegment) (number : ℕ) → is_shelved (xs ++ ys) number ≡ (is_shelved xs number || is_shelved ys number)
shelved-append [] ys number = refl
shelved-append (s ∷ xs) ys number = elim (nat_eq s.number number) as (λ b. (b || is_shelved (xs ++ ys) number) ≡ ((b || is_shelved xs number) || is_shelved ys number)) [
  | true ↦ refl
  | false ↦ shelved-append xs ys number
]

segments_shown : (s : Shelves) (o : Option Placed) → (with_shown s o).segments ≡ s.segments
segments_shown s None = refl
segments_shown s (Some x) = refl

-- the homes once all is brought up
homes_after : (notes : List Note) (pending : List Pending) (number : ℕ) (s : Shelves) → homes_at (after_all notes s pending).segments number ≡ homes_with s.segments pending number
homes_after notes [] number s = one s.segments
  where
    one : (xs : List MarkedSegment) → homes_at xs number ≡ cond (is_shelved xs number) (homes_at xs number) []
    one [] = refl
    one (x ∷ xs) = elim (nat_eq x.number number) as (λ b. cond b x.homes (homes_at xs number) ≡ cond (b || is_shelved xs number) (cond b x.homes (homes_at xs number)) []) [
      | true ↦ refl
      | false ↦ one xs
    ]
homes_after notes (Row position ∷ pending) number s =
    homes_after notes pending number (with_shown s (put_at notes position))
    ∙ ap (λ l. homes_with l pending number) (segments_shown s (put_at notes position))
homes_after notes (Closed other ∷ pending) number s =
    homes_after notes pending number (with_closed s other)
    ∙ ap₂ (λ b l. cond b l (cond (list_any (is_closing number) pending) (Leader ∷ []) []))
    (shelved-append s.segments (record { number = other; homes = Leader ∷ []; rows = s.tail } ∷ []) number)
    (homes-append s.segments (record { number = other; homes = Leader ∷ []; rows = s.tail } ∷ []) number)
    ∙ both (is_shelved s.segments number) (nat_eq other number)
  where
    both : (b c : Bool) → cond (b || (c || false)) (cond b (homes_at s.segments number) (cond c (Leader ∷ []) [])) (cond (list_any (is_closing number) pending) (Leader ∷ []) [])
        ≡ cond b (homes_at s.segments number) (cond (c || list_any (is_closing number) pending) (Leader ∷ []) [])
    both true c = refl
    both false true = refl
    both false false = refl

pub homes_caught : (channel : Channel) (notes : List Note) (pending : List Pending) (ds : List (ℕ × Timestamp)) (s : Shelves) (number : ℕ) → caught_up notes pending ds s ≡ shelves_of channel notes
    → homes_with s.segments pending number ≡ homes_in (layout_of channel notes).segments number
homes_caught channel notes pending ds s number is =
    sym (homes_after notes pending number s)
    ∙ sym (homes_marked ds (after_all notes s pending).segments number)
    ∙ ap (λ (z : Shelves). homes_at z.segments number) is
    ∙ homes_shown notes (layout_of channel notes).segments number

-- whether a segment is there once all is brought up
there_after : (notes : List Note) (pending : List Pending) (number : ℕ) (s : Shelves) → is_shelved (after_all notes s pending).segments number ≡ is_there_with s.segments pending number
there_after notes [] number s = one (is_shelved s.segments number)
  where
    one : (b : Bool) → b ≡ (b || false)
    one true = refl
    one false = refl
there_after notes (Row position ∷ pending) number s =
    there_after notes pending number (with_shown s (put_at notes position))
    ∙ ap (λ l. is_there_with l pending number) (segments_shown s (put_at notes position))
there_after notes (Closed other ∷ pending) number s =
    there_after notes pending number (with_closed s other)
    ∙ ap (λ b. b || list_any (is_closing number) pending) (shelved-append s.segments (record { number = other; homes = Leader ∷ []; rows = s.tail } ∷ []) number)
    ∙ both (is_shelved s.segments number) (nat_eq other number)
  where
    both : (b c : Bool) → ((b || (c || false)) || list_any (is_closing number) pending) ≡ (b || (c || list_any (is_closing number) pending))
    both true c = refl
    both false true = refl
    both false false = refl

pub there_caught : (channel : Channel) (notes : List Note) (pending : List Pending) (ds : List (ℕ × Timestamp)) (s : Shelves) (number : ℕ) → caught_up notes pending ds s ≡ shelves_of channel notes
    → is_there_with s.segments pending number ≡ is_there (layout_of channel notes) number
there_caught channel notes pending ds s number is =
    sym (there_after notes pending number s)
    ∙ sym (shelved_marked ds (after_all notes s pending).segments number)
    ∙ ap (λ (z : Shelves). is_shelved z.segments number) is
    ∙ shelved_shown notes (layout_of channel notes).segments number
