-- Parts stand for pieces: as the journal goes on, and through a merge.
use Rattle.std.proofs.Common.{◌≡◌, ℕ, Bool, true, false, cond, not, Option, Some, List, [], ◌∷◌, ◌++◌, map, refl, sym, ap, ap₂, subst, ◌∙◌, inl, inr, arith, length, take}
use Rattle.std.specs.Prelude.{nat_le}
use Rattle.std.specs.List.{filter, list_all}
use Rattle.std.proofs.lemmas.List.{map-append, take_all}
use Rattle.journal_model.specs.declared.notes.Note.{Note}
use Rattle.log_model.specs.Places.{Placed}
use Rattle.journal_model.specs.Puts.{put_at, is_dead_by}
use Rattle.journal_model.specs.Layouts.{Channel, Segment, BegunMerge, rows_in, is_among, sources_in, is_kept, kept_in, merged_piece, layout_of}
use Rattle.journal_model.specs.Lawful.{is_there, is_lawful}
use Rattle.journal_model.specs.Lists.{IsIn, joined, insert_by, rising_by}
use Rattle.journal_model.specs.Views.{Shown, shown, StandsFor, advanced, merged_parts}
use Rattle.journal_model.specs.Runs.{AreCorrect, IsFloorUpTo, IsSound}
use Rattle.journal_model.specs.Invariants.{IsValid}
use Rattle.journal_model.proofs.WalkLaws.{each-front}
use Rattle.journal_model.proofs.PutLaws.{dead_at-append, put_within}
use Rattle.journal_model.proofs.ListLaws.{in_left, in_right, out_filter, all_front}
use Rattle.journal_model.proofs.PieceLaws.{rows_in-some, by_position_in}
use Rattle.journal_model.proofs.LayoutLaws.{held}
use Rattle.journal_model.proofs.StayLaws.{piece_stays, product_same}

-- a part whose marks were advanced stands for its piece in the longer journal
pub stands_later : (notes more : List Note) (part : List Shown) (piece : List Placed) → AreCorrect notes piece → StandsFor notes part piece → StandsFor (notes ++ more) (map (advanced more) part) piece
stands_later notes more part piece correct is = ap (map (advanced more)) is ∙ go piece correct
  where
    go : (xs : List Placed) → AreCorrect notes xs → map (advanced more) (map (shown notes) xs) ≡ map (shown (notes ++ more)) xs
    go [] c = refl
    go (x ∷ xs) c =
        let put : put_at notes x.position ≡ Some x = c x (inl refl) in
        let mark = dead_at-append notes more x.position x.row.key.0 (put_within notes x x.position put) in
        ap₂ (λ (m : Option ℕ) (l : List Shown). record { position = x.position; ts = x.ts; row = x.row; mark = m } ∷ l) (sym mark) (go xs (λ y i. c y (inr i)))

module _ {X Y : Type 0} (f : X → Y) (at : X → ℕ) (to : Y → ℕ) (same : (x : X) → to (f x) ≡ at x) where
  map-insert_by : (x : X) (xs : List X) → map f (insert_by at x xs) ≡ insert_by to (f x) (map f xs)
  map-insert_by x [] = refl
  map-insert_by x (y ∷ ys) =
      ap₂ (λ a b. map f (cond (nat_le a b) (x ∷ y ∷ ys) (y ∷ insert_by at x ys))) (sym (same x)) (sym (same y))
      ∙ elim (nat_le (to (f x)) (to (f y))) as (λ b. map f (cond b (x ∷ y ∷ ys) (y ∷ insert_by at x ys)) ≡ cond b (f x ∷ f y ∷ map f ys) (f y ∷ insert_by to (f x) (map f ys))) [
        | true ↦ refl
        | false ↦ ap (λ l. f y ∷ l) (map-insert_by x ys)
      ]

  map-rising_by : (xs : List X) → map f (rising_by at xs) ≡ rising_by to (map f xs)
  map-rising_by [] = refl
  map-rising_by (x ∷ xs) = map-insert_by x (rising_by at xs) ∙ ap (insert_by to (f x)) (map-rising_by xs)

filter-map : {X Y : Type 0} (f : X → Y) (p : Y → Bool) (xs : List X) → filter p (map f xs) ≡ map f (filter (λ x. p (f x)) xs)
filter-map f p [] = refl
filter-map f p (x ∷ xs) = elim (p (f x)) as (λ b. cond b (f x ∷ filter p (map f xs)) (filter p (map f xs)) ≡ map f (cond b (x ∷ filter (λ z. p (f z)) xs) (filter (λ z. p (f z)) xs))) [
  | true ↦ ap (λ l. f x ∷ l) (filter-map f p xs)
  | false ↦ filter-map f p xs
]

rows_in-joined : (segments : List Segment) → rows_in segments ≡ joined (map (λ s. s.piece) segments)
rows_in-joined [] = refl
rows_in-joined (s ∷ segments) = ap (λ l. s.piece ++ l) (rows_in-joined segments)

-- the merge of the parts of some segments stands for the piece that a merge of the segments keeps
pub merge_stands : (notes : List Note) (floor : ℕ) (segments : List Segment) → StandsFor notes (merged_parts floor (map (λ s. map (shown notes) s.piece) segments)) (kept_in notes floor segments)
merge_stands notes floor segments =
    ap (λ l. rising_by (λ (s : Shown). s.position) (filter (λ s. not (is_dead_by floor s.mark)) l)) (parts segments)
    ∙ ap (rising_by (λ (s : Shown). s.position)) (filter-map (shown notes) (λ s. not (is_dead_by floor s.mark)) (rows_in segments))
    ∙ sym (map-rising_by (shown notes) (λ x. x.position) (λ s. s.position) (λ x. refl) (filter (is_kept notes floor) (rows_in segments)))
  where
    parts : (ss : List Segment) → joined (map (λ s. map (shown notes) s.piece) ss) ≡ map (shown notes) (rows_in ss)
    parts [] = refl
    parts (s ∷ ss) = ap (λ l. map (shown notes) s.piece ++ l) (parts ss) ∙ sym (map-append (shown notes) s.piece (rows_in ss))

-- ---- work that began on an older journal

in_rows : (x : Placed) (s : Segment) (segments : List Segment) → IsIn s segments → IsIn x s.piece → IsIn x (rows_in segments)
in_rows x s [] i k = absurd i
in_rows x s (t ∷ segments) (inl e) k = in_left x t.piece (rows_in segments) (subst (λ z. IsIn x z.piece) e k)
in_rows x s (t ∷ segments) (inr i) k = in_right x t.piece (rows_in segments) (in_rows x s segments i k)

module _ (channel : Channel) (floor : ℕ) (before more : List Note) (sound : IsSound channel (record { notes = before ++ more; floor = floor })) where
  older : IsValid before floor (layout_of channel before)
  older = held channel floor before (each-front (λ b n. is_lawful channel b n ≡ true) before more sound.lawful) (all_front (λ note. IsFloorUpTo floor note.kind) before more sound.floors)

  -- a part that was moved stands for the piece of its segment
  pub moved_stands : (s t : Segment) → IsIn s (layout_of channel before).segments → IsIn t (layout_of channel (before ++ more)).segments → t.number ≡ s.number
      → (part : List Shown) → StandsFor before part s.piece → StandsFor (before ++ more) (map (advanced more) part) t.piece
  moved_stands s t i j same part stands = subst (StandsFor (before ++ more) (map (advanced more) part)) (sym (piece_stays channel before more sound.lawful s t i j same))
      (stands_later before more part s.piece (λ x k. older.rows.correct x (in_left x (rows_in (layout_of channel before).segments) (layout_of channel before).tail (in_rows x s (layout_of channel before).segments i k))) stands)

  -- the merge of parts stands for the piece of the merge
  pub merged_stands : (sources : List ℕ) (b : BegunMerge) → b.at ≡ length before → list_all (is_there (layout_of channel before)) sources ≡ true → list_all (is_there (layout_of channel (before ++ more))) sources ≡ true
      → StandsFor (before ++ more) (map (advanced more) (merged_parts b.floor (map (λ s. map (shown before) s.piece) (sources_in sources (layout_of channel before).segments))))
      (merged_piece (before ++ more) (layout_of channel (before ++ more)) sources b)
  merged_stands sources b at there still =
      let whole : take b.at before ≡ before = take_all b.at before (omega arith) in
      let same : merged_piece (before ++ more) (layout_of channel (before ++ more)) sources b ≡ kept_in before b.floor (sources_in sources (layout_of channel before).segments) =
      product_same channel floor before more sources b sound.lawful sound.floors (omega arith) there still ∙ ap (λ l. kept_in l b.floor (sources_in sources (layout_of channel before).segments)) whole in
      let correct : AreCorrect before (kept_in before b.floor (sources_in sources (layout_of channel before).segments)) = λ x k. older.rows.correct x (in_left x (rows_in (layout_of channel before).segments) (layout_of channel before).tail
      (rows_in-some (is_among sources) x (layout_of channel before).segments (out_filter (is_kept before b.floor) x (rows_in (sources_in sources (layout_of channel before).segments)) (by_position_in x (filter (is_kept before b.floor) (rows_in (sources_in sources (layout_of channel before).segments))) k)).0)) in
      subst (StandsFor (before ++ more) (map (advanced more) (merged_parts b.floor (map (λ s. map (shown before) s.piece) (sources_in sources (layout_of channel before).segments))))) (sym same)
      (stands_later before more (merged_parts b.floor (map (λ s. map (shown before) s.piece) (sources_in sources (layout_of channel before).segments))) (kept_in before b.floor (sources_in sources (layout_of channel before).segments)) correct
      (merge_stands before b.floor (sources_in sources (layout_of channel before).segments)))
