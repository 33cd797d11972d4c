-- What the next row and the next boundary that are pending meet: the tail so far is the front of a piece.
use Rattle.std.proofs.Common.{◌≡◌, ℕ, ◌+◌, ◌<◌, ◌≤◌, List, [], ◌∷◌, ◌++◌, map, length, Option, Some, None, refl, sym, ap, subst, ◌∙◌, inl, inr, ◌⊎◌, ⊎_elim, arith, append-nil, append_assoc}
use Rattle.std.specs.List.{AllByRecursion}
use Rattle.std.proofs.lemmas.List.{map-append, length-append, length-map}
use Rattle.log_model.specs.Places.{Placed}
use Rattle.journal_model.specs.declared.notes.Home.TheVariants.{Leader}
use Rattle.journal_model.specs.declared.notes.Note.{Note}
use Rattle.journal_model.specs.Puts.{put_at}
use Rattle.journal_model.specs.Layouts.{Channel, Segment, rows_in, layout_of}
use Rattle.journal_model.specs.Lists.{IsIn}
use Rattle.journal_model.specs.Runs.{State, Rise, IsSegment, IsSound}
use Rattle.journal_model.specs.Counts.{IsSized}
use Rattle.journal_model.specs.Invariants.{NumbersRise, IsTaken}
use Rattle.journal_model.specs.Views.{Shown, shown}
use Rattle.journal_model.proofs.ListLaws.{in_left, in_right, in_last, in_map, out_map, all_in, all_front, all_from}
use Rattle.journal_model.proofs.SizeLaws.{sizes}
use Rattle.journal_model.proofs.NumberLaws.{numbers}
use Rattle.seg_sealed.specs.Parts.{shown_as}
use Rattle.channel_pieces.specs.Pieces.{MarkedSegment, marked_by, placed_of, segment_marked}
use Rattle.hybrid_time.specs.declared.times.Timestamp.{Timestamp}
use Rattle.shard_core.specs.declared.pending.Pending.{Pending}
use Rattle.shard_core.specs.declared.pending.Pending.TheVariants.{Row, Closed}
use Rattle.shard_core.specs.Shelves.{Shelves, shelf_of, shelves_of}
use Rattle.shard_core.specs.Steps.{with_shown, with_closed, after_all, caught_up}
use Rattle.shard_core.specs.Lagging.{IsBehind, Fits, Closes}
use Rattle.shard_core.proofs.ShelfLaws.{map_twice}

-- ---- once all is brought up, a tail is the front of a tail or of a segment

abbrev IsFront : List Shown → Shelves → Type 0
IsFront rows u = (rest : List Shown) × ((u.tail ≡ rows ++ rest) ⊎ ((s : MarkedSegment) × IsIn s u.segments × (s.rows ≡ rows ++ rest)))

abbrev Begins : List MarkedSegment → List MarkedSegment → Type 0
Begins xs ys = (more : List MarkedSegment) × (ys ≡ xs ++ more)

segments_begin : (notes : List Note) (pending : List Pending) (t : Shelves) → Begins t.segments (after_all notes t pending).segments
segments_begin notes [] t = ([], sym (append-nil t.segments))
segments_begin notes (Row position ∷ pending) t = subst (λ l. Begins l (after_all notes (with_shown t (put_at notes position)) pending).segments) (same (put_at notes position)) (segments_begin notes pending (with_shown t (put_at notes position)))
  where
    same : (o : Option Placed) → (with_shown t o).segments ≡ t.segments
    same None = refl
    same (Some x) = refl
segments_begin notes (Closed number ∷ pending) t =
    let s : MarkedSegment = record { number = number; homes = Leader ∷ []; rows = t.tail } in
    let rest = segments_begin notes pending (with_closed t number) in
    (s ∷ rest.0, rest.1 ∙ append_assoc t.segments (s ∷ []) rest.0)

-- a row more at the end of the tail
front_row : (t : Shelves) (o : Option Placed) (u : Shelves) → IsFront (with_shown t o).tail u → IsFront t.tail u
front_row t None u f = f
front_row t (Some x) u f = (
  shown_as x None ∷ f.0,
  ⊎_elim
      (λ e. inl (e ∙ append_assoc t.tail (shown_as x None ∷ []) f.0))
      (λ h. inr (h.0, h.1, h.2 ∙ append_assoc t.tail (shown_as x None ∷ []) f.0))
      f.1,
)

front : (notes : List Note) (pending : List Pending) (t : Shelves) → IsFront t.tail (after_all notes t pending)
front notes [] t = ([], inl (sym (append-nil t.tail)))
front notes (Row position ∷ pending) t = front_row t (put_at notes position) (after_all notes (with_shown t (put_at notes position)) pending) (front notes pending (with_shown t (put_at notes position)))
front notes (Closed number ∷ pending) t =
    let s : MarkedSegment = record { number = number; homes = Leader ∷ []; rows = t.tail } in
    let more = segments_begin notes pending (with_closed t number) in
    ([], inr (s, subst (IsIn s) (sym more.1) (in_left s (t.segments ++ s ∷ []) more.0 (in_last s t.segments)), sym (append-nil t.tail)))

-- ---- the rows of shelves by their places

places_kept : (ds : List (ℕ × Timestamp)) (rows : List Shown) → map placed_of (map (marked_by ds) rows) ≡ map placed_of rows
places_kept ds rows = map_twice (marked_by ds) placed_of placed_of (λ r. refl) rows

pub places_back : (notes : List Note) (xs : List Placed) → map placed_of (map (shown notes) xs) ≡ xs
places_back notes [] = refl
places_back notes (x ∷ xs) = ap (λ l. x ∷ l) (places_back notes xs)

-- ---- numbers that rise

abbrev Climb : List MarkedSegment → Type 0
Climb [] = Unit {0}
Climb (s ∷ segments) = AllByRecursion (λ other. s.number < other.number) segments × Climb segments

lower : (xs : List MarkedSegment) (s : MarkedSegment) (rest : List MarkedSegment) → Climb (xs ++ s ∷ rest) → AllByRecursion (λ z. z.number < s.number) xs
lower [] s rest c = tt
lower (z ∷ xs) s rest c = (all_in (λ y. z.number < y.number) (xs ++ s ∷ rest) s c.0 (in_right s xs (s ∷ rest) (inl refl)), lower xs s rest c.1)

all_above : (ds : List (ℕ × Timestamp)) (notes : List Note) (n : ℕ) (xs : List MarkedSegment) (ss : List Segment) → map (segment_marked ds) xs ≡ map (shelf_of notes) ss → AllByRecursion (λ s. n < s.number) ss → AllByRecursion (λ x. n < x.number) xs
all_above ds notes n [] ss e a = tt
all_above ds notes n (x ∷ xs) [] e a = cc
all_above ds notes n (x ∷ xs) (s ∷ ss) e a =
    let first : segment_marked ds x ≡ shelf_of notes s = cc in
    let rest : map (segment_marked ds) xs ≡ map (shelf_of notes) ss = cc in
    (subst (λ m. n < m) (ap (λ (z : MarkedSegment). z.number) (sym first)) a.0, all_above ds notes n xs ss rest a.1)

climbs : (ds : List (ℕ × Timestamp)) (notes : List Note) (xs : List MarkedSegment) (ss : List Segment) → map (segment_marked ds) xs ≡ map (shelf_of notes) ss → NumbersRise ss → Climb xs
climbs ds notes [] ss e a = tt
climbs ds notes (x ∷ xs) [] e a = cc
climbs ds notes (x ∷ xs) (s ∷ ss) e a =
    let first : segment_marked ds x ≡ shelf_of notes s = cc in
    let rest : map (segment_marked ds) xs ≡ map (shelf_of notes) ss = cc in
    let same : s.number ≡ x.number = ap (λ (z : MarkedSegment). z.number) (sym first) in
    (subst (λ m. AllByRecursion (λ y. m < y.number) xs) same (all_above ds notes s.number xs ss rest a.0), climbs ds notes xs ss rest a.1)

-- ---- a piece, and its fronts

rise_front : (xs ys : List Placed) → Rise (xs ++ ys) → Rise xs
rise_front [] ys r = tt
rise_front (x ∷ xs) ys r = (all_front (λ y. x.position < y.position) xs ys r.0, rise_front xs ys r.1)

module _ (channel : Channel) (st : State) (positive : 0 < channel.seal_rows) (sound : IsSound channel st) where
  fits_front : (xs ys : List Placed) → Fits channel st.notes (xs ++ ys) → Fits channel st.notes xs
  fits_front xs ys f = record {
    rises = rise_front xs ys f.rises;
    put = all_front (λ x. put_at st.notes x.position ≡ Some x) xs ys f.put;
    few = let most : length (xs ++ ys) ≤ channel.seal_rows = f.few in let both : length (xs ++ ys) ≡ length xs + length ys = length-append xs ys in omega arith;
  }

  sized : IsSized channel (layout_of channel st.notes)
  sized = sizes channel positive st.notes sound.lawful

  tail_fits : Fits channel st.notes (layout_of channel st.notes).tail
  tail_fits = record {
    rises = sound.tail;
    put = all_from (λ x. put_at st.notes x.position ≡ Some x) (layout_of channel st.notes).tail (λ x i. sound.rows.correct x (in_right x (rows_in (layout_of channel st.notes).segments) (layout_of channel st.notes).tail i));
    few = let least : length (layout_of channel st.notes).tail < channel.seal_rows = sized.tail in omega arith;
  }

  in_rows : (x : Placed) (s : Segment) (segments : List Segment) → IsIn s segments → IsIn x s.piece → IsIn x (rows_in segments)
  in_rows x s [] i j = absurd i
  in_rows x s (z ∷ segments) (inl e) j = in_left x z.piece (rows_in segments) (subst (λ y. IsIn x y.piece) e j)
  in_rows x s (z ∷ segments) (inr i) j = in_right x z.piece (rows_in segments) (in_rows x s segments i j)

  piece_fits : (s : Segment) → IsIn s (layout_of channel st.notes).segments → Fits channel st.notes s.piece
  piece_fits s i = record {
    rises = (all_in IsSegment (layout_of channel st.notes).segments s sound.segments i).rises;
    put = all_from (λ x. put_at st.notes x.position ≡ Some x) s.piece (λ x j. sound.rows.correct x (in_left x (rows_in (layout_of channel st.notes).segments) (layout_of channel st.notes).tail (in_rows x s (layout_of channel st.notes).segments i j)));
    few = all_in (λ z. length z.piece ≤ channel.seal_rows) (layout_of channel st.notes).segments s sized.pieces i;
  }

  -- the tail so far is a front of a piece of the journal
  pub tail_so_far : (pending : List Pending) (deaths : List (ℕ × Timestamp)) (t : Shelves) → caught_up st.notes pending deaths t ≡ shelves_of channel st.notes → Fits channel st.notes (map placed_of t.tail)
  tail_so_far pending deaths t is =
      let f = front st.notes pending t in
      let u : Shelves = after_all st.notes t pending in
      ⊎_elim
      (λ e.
      let all : map placed_of t.tail ++ map placed_of f.0 ≡ (layout_of channel st.notes).tail =
      sym (map-append placed_of t.tail f.0) ∙ ap (map placed_of) (sym e) ∙ sym (places_kept deaths u.tail) ∙ ap (λ (z : Shelves). map placed_of z.tail) is ∙ places_back st.notes (layout_of channel st.notes).tail in
      fits_front (map placed_of t.tail) (map placed_of f.0) (subst (Fits channel st.notes) (sym all) tail_fits))
      (λ h.
      let there : IsIn (segment_marked deaths h.0) (map (shelf_of st.notes) (layout_of channel st.notes).segments) =
      subst (λ (z : Shelves). IsIn (segment_marked deaths h.0) z.segments) is (in_map (segment_marked deaths) h.0 u.segments h.1) in
      let out = out_map (shelf_of st.notes) (segment_marked deaths h.0) (layout_of channel st.notes).segments there in
      let all : map placed_of t.tail ++ map placed_of f.0 ≡ out.0.piece =
      sym (map-append placed_of t.tail f.0) ∙ ap (map placed_of) (sym h.2) ∙ sym (places_kept deaths h.0.rows) ∙ ap (λ (z : MarkedSegment). map placed_of z.rows) out.2 ∙ places_back st.notes out.0.piece in
      fits_front (map placed_of t.tail) (map placed_of f.0) (subst (Fits channel st.notes) (sym all) (piece_fits out.0 out.1)))
      f.1

  -- a row that is pending
  pub row_fits : (position : ℕ) (pending : List Pending) (deaths : List (ℕ × Timestamp)) (t : Shelves) (x : Placed) → IsBehind channel st.notes (Row position ∷ pending) deaths t → put_at st.notes position ≡ Some x
      → Fits channel st.notes (map placed_of t.tail ++ x ∷ [])
  row_fits position pending deaths t x k put =
      subst (Fits channel st.notes) (map-append placed_of t.tail (shown_as x None ∷ []))
      (tail_so_far pending deaths (with_shown t (Some x)) (ap (λ o. caught_up st.notes pending deaths (with_shown t o)) (sym put) ∙ k.is))

-- a boundary that is pending
module _ (channel : Channel) (st : State) (sound : IsSound channel st) where
  pub end_fits : (number : ℕ) (pending : List Pending) (deaths : List (ℕ × Timestamp)) (t : Shelves) → IsBehind channel st.notes (Closed number ∷ pending) deaths t → Closes channel st.notes t number
  end_fits number pending deaths t k =
      let s : MarkedSegment = record { number = number; homes = Leader ∷ []; rows = t.tail } in
      let more = segments_begin st.notes pending (with_closed t number) in
      let u : Shelves = after_all st.notes (with_closed t number) pending in
      let numbered = numbers channel st.notes sound.lawful in
      let shows : map (segment_marked deaths) u.segments ≡ map (shelf_of st.notes) (layout_of channel st.notes).segments = ap (λ (z : Shelves). z.segments) k.is in
      let at : IsIn s u.segments = subst (IsIn s) (sym more.1) (in_left s (t.segments ++ s ∷ []) more.0 (in_last s t.segments)) in
      let out = out_map (shelf_of st.notes) (segment_marked deaths s) (layout_of channel st.notes).segments (subst (IsIn (segment_marked deaths s)) shows (in_map (segment_marked deaths) s u.segments at)) in
      let same : out.0.number ≡ number = ap (λ (z : MarkedSegment). z.number) (sym out.2) in
      record {
        rows = let some : 0 < length out.0.piece = (all_in IsSegment (layout_of channel st.notes).segments out.0 sound.segments out.1).some in
            let rows_are : map placed_of t.tail ≡ out.0.piece = sym (places_kept deaths t.tail) ∙ ap (λ (z : MarkedSegment). map placed_of z.rows) out.2 ∙ places_back st.notes out.0.piece in
            subst (λ n. 0 < n) (sym (ap length rows_are) ∙ length-map t.tail placed_of) some;
        above = lower t.segments s more.0 (subst Climb (more.1 ∙ append_assoc t.segments (s ∷ []) more.0) (climbs deaths st.notes u.segments (layout_of channel st.notes).segments shows numbered.rise));
        taken = subst (IsTaken channel (layout_of channel st.notes).taken) same (all_in (λ z. IsTaken channel (layout_of channel st.notes).taken z.number) (layout_of channel st.notes).segments out.0 numbered.taken out.1);
      }
