-- Merges that were begun: their parts, and that they stay begun while the journal goes on.
use Rattle.std.proofs.Common.{◌≡◌, ℕ, suc, ◌+◌, ◌*◌, ◌^◌, ◌<◌, ◌≤◌, true, not, List, [], ◌∷◌, ◌++◌, length, map, take, get_or, Option, Some, None, refl, sym, ap, ap₂, subst, ◌∙◌, append_assoc, append-nil, arith}
use Rattle.std.specs.List.{AllByRecursion, list_any, sum_by}
use Rattle.std.proofs.lemmas.List.{map-append, take_more, length_push}
use Rattle.hybrid_time.specs.declared.times.Timestamp.{Timestamp}
use Rattle.row_types.specs.declared.rows.Kind.{Kind as ColumnKind}
use Rattle.log_model.specs.Places.{Placed}
use Rattle.journal_model.specs.declared.notes.Home.TheVariants.{Leader}
use Rattle.journal_model.specs.declared.notes.Kind.TheVariants.{Number}
use Rattle.journal_model.specs.declared.notes.Note.{Note}
use Rattle.journal_model.specs.Layouts.{Channel, Segment, BegunMerge, is_home, number_at, rows_in, sources_in, layout_after, layout_of}
use Rattle.journal_model.specs.Puts.{ended}
use Rattle.journal_model.specs.Lawful.{homes_in, IsBegun}
use Rattle.journal_model.specs.Refusals.{first_without, begin_merge_refusal}
use Rattle.journal_model.specs.Groups.{kept_rows}
use Rattle.journal_model.specs.Lists.{joined}
use Rattle.journal_model.specs.Runs.{State, IsSound, is_step}
use Rattle.journal_model.specs.Views.{Shown, shown, merged_parts}
use Rattle.journal_model.proofs.LayoutLaws.{layout-snoc}
use Rattle.journal_model.proofs.NumberLaws.{numbers}
use Rattle.journal_model.proofs.BegunLaws.{begun_origin}
use Rattle.journal_model.proofs.RunLaws.{append_sound}
use Rattle.seg_sealed.specs.Parts.{SegmentPart, shown_from, shown_rows}
use Rattle.seg_sealed.specs.Parts as parts
use Rattle.seg_merge.specs.Merges.{IsLike, AreAlike, AreInOrder, all_rows, rows_of}
use Rattle.channel_journal.specs.Notes.{with_note}
use Rattle.channel_pieces.specs.Pieces.{MarkedSegment, MarkedLayout, HasShape, placed_of}
use Rattle.shard_core.specs.Shelves.{Shelves, shelves_of, shelves_in_pieces}
use Rattle.shard_core.specs.Found.{rows_found, found_of}
use Rattle.shard_core.specs.Merging.{AreRising, BegunMerging, sources_of, begun_as, IsMergingOf}
use Rattle.shard_core.proofs.MoveLaws.{same_shown}
use Rattle.shard_core.proofs.LendLaws.{lent_are}
use Rattle.shard_core.proofs.OrderedLaws.{sources_ordered, merged_count}

-- ---- lending part by part

pub lent_more : (segments : List MarkedSegment) (ns : List ℕ) (i d : ℕ) (lent : List SegmentPart) (part : SegmentPart) → i < length ns → found_of lent ≡ map (rows_found segments) (take i ns)
    → Some (shown_rows part) ≡ rows_found segments (get_or ns i d) → found_of (lent ++ part ∷ []) ≡ map (rows_found segments) (take (i + 1) ns)
lent_more segments ns i d lent part lt is one =
    ap (map (λ (rows : List Shown). Some rows)) (map-append shown_rows lent (part ∷ []))
    ∙ map-append (λ (rows : List Shown). Some rows) (map shown_rows lent) (shown_rows part ∷ [])
    ∙ ap₂ (λ l (o : Option (List Shown)). l ++ o ∷ []) is one
    ∙ sym (map-append (rows_found segments) (take i ns) (get_or ns i d ∷ []))
    ∙ sym (ap (map (rows_found segments)) (take_more ns i d lt))

pub numbers_more : (ns : List ℕ) (i d : ℕ) (lent : List SegmentPart) (part : SegmentPart) → i < length ns → map (λ (p : SegmentPart). p.sealed.number) lent ≡ take i ns → part.sealed.number ≡ get_or ns i d
    → map (λ (p : SegmentPart). p.sealed.number) (lent ++ part ∷ []) ≡ take (i + 1) ns
numbers_more ns i d lent part lt is one =
    map-append (λ (p : SegmentPart). p.sealed.number) lent (part ∷ []) ∙ ap₂ (λ l (n : ℕ). l ++ n ∷ []) is one ∙ sym (take_more ns i d lt)

pub all_push : {X : Type 0} (P : X → Type 0) (xs : List X) (x : X) → AllByRecursion P xs → P x → AllByRecursion P (xs ++ x ∷ [])
all_push P [] x all one = (one, tt)
all_push P (y ∷ xs) x all one = (all.0, all_push P xs x all.1 one)

-- ---- the parts of a merge

last_holds : {X : Type 0} (P : X → Type 0) (xs : List X) (y : X) → AllByRecursion P (xs ++ y ∷ []) → P y
last_holds P [] y all = all.0
last_holds P (x ∷ xs) y all = last_holds P xs y all.1

placed_shown : (deaths : List (ℕ × ℕ)) (i : ℕ) (rows : List Placed) → map placed_of (shown_from deaths i rows) ≡ rows
placed_shown deaths i [] = refl
placed_shown deaths i (x ∷ rows) = ap (λ l. x ∷ l) (placed_shown deaths (suc i) rows)

placed_piece : (notes : List Note) (rows : List Placed) → map placed_of (map (shown notes) rows) ≡ rows
placed_piece notes [] = refl
placed_piece notes (x ∷ rows) = ap (λ l. x ∷ l) (placed_piece notes rows)

lent_rows : (lent : List SegmentPart) → map (map placed_of) (map shown_rows lent) ≡ map rows_of lent
lent_rows [] = refl
lent_rows (part ∷ lent) = ap₂ (λ (rows : List Placed) l. rows ∷ l) (placed_shown part.deaths 0 part.sealed.rows) (lent_rows lent)

piece_rows : (notes : List Note) (segments : List Segment) → joined (map (map placed_of) (map (λ (s : Segment). map (shown notes) s.piece) segments)) ≡ rows_in segments
piece_rows notes [] = refl
piece_rows notes (s ∷ segments) = ap₂ (λ (rows l : List Placed). rows ++ l) (placed_piece notes s.piece) (piece_rows notes segments)

alike_all : (dim begun : ℕ) (kinds : List ColumnKind) (first : SegmentPart) (lent : List SegmentPart) → HasShape dim kinds first → first.applied ≡ begun
    → AllByRecursion (HasShape dim kinds) lent → AllByRecursion (λ part. part.applied ≡ begun) lent → AllByRecursion (IsLike first) lent
alike_all dim begun kinds first [] shape at shapes applied = tt
alike_all dim begun kinds first (part ∷ lent) shape at shapes applied = (
  record { dim = shapes.0.dim_is ∙ sym shape.dim_is; kinds = shapes.0.kinds_are ∙ sym shape.kinds_are; applied = applied.0 ∙ sym at },
  alike_all dim begun kinds first lent shape at shapes.1 applied.1,
)

alike : (dim begun : ℕ) (kinds : List ColumnKind) (lent : List SegmentPart) → AllByRecursion (HasShape dim kinds) lent → AllByRecursion (λ part. part.applied ≡ begun) lent → AreAlike lent
alike dim begun kinds [] shapes applied = tt
alike dim begun kinds (first ∷ lent) shapes applied = alike_all dim begun kinds first lent shapes.0 applied.0 shapes.1 applied.1

numbers_length : (lent : List SegmentPart) → length (map (λ (p : SegmentPart). p.sealed.number) lent) ≡ length lent
numbers_length [] = refl
numbers_length (part ∷ lent) = ap suc (numbers_length lent)

-- what is known of a merge that begins with a note
pub record Begins (channel : Channel) (s : State) (note : Note) (pieces : MarkedLayout) (sources : List ℕ) (m : BegunMerging) : Type 0 where
  pub sound : IsSound channel s
  pub step : is_step channel s note ≡ true
  pub shows : shelves_in_pieces pieces ≡ shelves_of channel s.notes
  pub low : channel.number < 16
  pub few_notes : length s.notes < 2 ^ 56
  pub taken : (layout_of channel s.notes).taken ≤ length s.notes
  pub at : Timestamp
  pub kind : note.kind ≡ Number m.number at
  pub floor : at.0 ≡ m.floor
  pub by : note.by ≡ m.by
  pub number : m.number ≡ number_at channel (layout_of channel s.notes).taken
  pub begun : m.begun ≡ length s.notes + 1
  pub rise : AreRising sources
  pub some : 0 < length sources
  pub free : begin_merge_refusal (layout_of channel s.notes) sources ≡ None
  pub few : sum_by (kept_rows s.notes m.floor) (sources_in sources (layout_of channel s.notes).segments) ≤ channel.seal_rows
  pub found : found_of m.parts ≡ map (rows_found pieces.segments) sources
  pub numbers_are : sources_of m ≡ sources
  pub applied : AllByRecursion (λ part. part.applied ≡ m.begun) m.parts
  pub shapes : AllByRecursion (HasShape pieces.dim pieces.kinds) m.parts

module _ (channel : Channel) (s : State) (note : Note) (pieces : MarkedLayout) (sources : List ℕ) (m : BegunMerging) (b : Begins channel s note pieces sources m) where
  abbrev before : List Note
  before = s.notes ++ note ∷ []

  abbrev segments : List Segment
  segments = (layout_of channel s.notes).segments

  laid : layout_of channel before ≡ layout_after channel s.notes note.by (layout_of channel s.notes) (Number m.number b.at)
  laid = layout-snoc channel s.notes note ∙ ap (layout_after channel s.notes note.by (layout_of channel s.notes)) b.kind

  same_segments : (layout_of channel before).segments ≡ segments
  same_segments = ap (λ l. l.segments) laid

  -- at the end of the journal, without the merge's note
  lent : map shown_rows m.parts ≡ map (λ (t : Segment). map (shown s.notes) t.piece) (sources_in sources segments)
  lent = lent_are s.notes segments sources (map shown_rows m.parts) (numbers channel s.notes b.sound.lawful).rise b.rise
      (b.found ∙ ap (λ (z : Shelves). map (rows_found z.segments) sources) b.shows)

  shown_then : (ts : List Segment) → map (λ (t : Segment). map (shown before) t.piece) ts ≡ map (λ (t : Segment). map (shown s.notes) t.piece) ts
  shown_then [] = refl
  shown_then (t ∷ ts) = ap₂ (λ (x : List Shown) l. x ∷ l) (same_shown s.notes note (λ key. ap (ended key) b.kind) t.piece) (shown_then ts)

  joins : IsBegun before (begun_as m)
  joins =
      let sound : IsSound channel (with_note s note) = append_sound channel s note b.sound b.step in
      let begun : AllByRecursion (λ x. IsBegun before x) ((layout_of channel s.notes).begun ++ record { number = m.number; by = note.by; floor = b.at.0; at = length s.notes + 1 } ∷ []) =
      subst (λ l. AllByRecursion (λ x. IsBegun before x) l.begun) laid (begun_origin channel before sound.lawful) in
      let own = last_holds (λ x. IsBegun before x) (layout_of channel s.notes).begun (record { number = m.number; by = note.by; floor = b.at.0; at = length s.notes + 1 }) begun in
      let same : ◌≡◌ {A = BegunMerge} (record { number = m.number; by = note.by; floor = b.at.0; at = length s.notes + 1 }) (begun_as m) =
      ap₂ (λ (y f : ℕ). record { number = m.number; by = y; floor = f; at = length s.notes + 1 }) b.by b.floor ∙ ap (λ (n : ℕ). record { number = m.number; by = m.by; floor = m.floor; at = n }) (sym b.begun) in
      subst (IsBegun before) same own

  rows_are : all_rows m.parts ≡ rows_in (sources_in sources segments)
  rows_are =
      ap joined (sym (lent_rows m.parts))
      ∙ ap (λ l. joined (map (map placed_of) l)) lent
      ∙ piece_rows s.notes (sources_in sources segments)

  pub merging_begun : IsMergingOf channel before m
  merging_begun =
      let count : length (parts.kept_rows m.floor m.parts) ≡ sum_by (kept_rows s.notes m.floor) (sources_in sources segments) =
      ap (λ l. length (merged_parts m.floor l)) lent ∙ merged_count s.notes m.floor (sources_in sources segments) in
      let few : sum_by (kept_rows s.notes m.floor) (sources_in sources segments) ≤ channel.seal_rows = b.few in
      let many : length (map (λ (p : SegmentPart). p.sealed.number) m.parts) ≡ length m.parts = numbers_length m.parts in
      let some : 0 < length sources = b.some in
      let named : length (map (λ (p : SegmentPart). p.sealed.number) m.parts) ≡ length sources = ap length b.numbers_are in
      let number : m.number ≡ (layout_of channel s.notes).taken * 16 + channel.number = b.number in
      let low : channel.number < 16 = b.low in
      let notes : length s.notes < 2 ^ 56 = b.few_notes in
      let taken : (layout_of channel s.notes).taken ≤ length s.notes = b.taken in
      let length_before : length before ≡ length s.notes + 1 = length_push s.notes note in
      record {
        before = before;
        more = [];
        is = sym (append-nil before);
        begun = b.begun ∙ sym length_before;
        taken = joins;
        rise = subst AreRising (sym b.numbers_are) b.rise;
        some = omega arith;
        free = ap₂ (λ (l : List Segment) (ns : List ℕ). first_without (λ n. list_any (λ home. not (is_home Leader home)) (homes_in l n)) ns) same_segments b.numbers_are ∙ b.free;
        stands = lent ∙ sym (shown_then (sources_in sources segments)) ∙ ap₂ (λ (ns : List ℕ) (l : List Segment). map (λ (t : Segment). map (shown before) t.piece) (sources_in ns l)) (sym b.numbers_are) (sym same_segments);
        applied = b.applied;
        low = omega arith;
        few = omega arith;
        alike = alike pieces.dim m.begun pieces.kinds m.parts b.shapes b.applied;
        order = subst AreInOrder (sym rows_are) (sources_ordered channel s b.sound sources);
      }

-- a merge that was begun stays one while the journal goes on
pub merging_later : (channel : Channel) (notes more : List Note) (m : BegunMerging) → IsMergingOf channel notes m → IsMergingOf channel (notes ++ more) m
merging_later channel notes more m h = record {
  before = h.before;
  more = h.more ++ more;
  is = ap (λ (l : List Note). l ++ more) h.is ∙ append_assoc h.before h.more more;
  begun = h.begun;
  taken = h.taken;
  rise = h.rise;
  some = h.some;
  free = h.free;
  stands = h.stands;
  applied = h.applied;
  low = h.low;
  few = h.few;
  alike = h.alike;
  order = h.order;
}
