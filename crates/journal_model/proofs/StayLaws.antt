-- A segment's piece stays as long as the segment is there, so what a merge keeps is known where it begins.
use Rattle.std.proofs.Common.{◌≡◌, ◌≢◌, ℕ, ◌+◌, ◌<◌, ◌≤◌, Bool, true, false, cond, not, List, [], ◌∷◌, ◌++◌, length, take, Option, Some, None, refl, sym, ap, ap₂, subst, ◌∙◌, inl, inr, ⊎_elim, arith, append-nil, append_assoc, eqb-true}
use Rattle.std.specs.Prelude.{nat_eq}
use Rattle.std.specs.List.{filter, list_any, list_all, AllByRecursion}
use Rattle.std.proofs.lemmas.Bool.{and_parts, false≢true, or_cases}
use Rattle.std.proofs.lemmas.List.{take-append-le}
use Rattle.log_model.proofs.LogLaws.{each-append, each_implied}
use Rattle.journal_model.specs.declared.notes.Home.{Home}
use Rattle.journal_model.specs.declared.notes.Home.TheVariants.{Node}
use Rattle.journal_model.specs.declared.notes.Kind.{Kind}
use Rattle.journal_model.specs.declared.notes.Kind.TheVariants.{Put, Seal, Number, Load, Release, Merge}
use Rattle.journal_model.specs.declared.notes.Note.{Note}
use Rattle.log_model.specs.Places.{Placed}
use Rattle.journal_model.specs.Puts.{effective_put}
use Rattle.journal_model.specs.Layouts.{Channel, Segment, BegunMerge, Layout, number_at, waiting_segment, after_boundary, with_tail, with_row, after_seal, homes_after_load, homes_after_release, with_homes, rehome, with_segments, rows_in, is_among, sources_in, others_in, by_position, is_kept, kept_in, merged_piece, begun_merge, with_merged, after_merge, after_number, layout_after, layout_of}
use Rattle.journal_model.specs.Lawful.{is_there, is_allowed, is_lawful, IsLawful}
use Rattle.journal_model.specs.Lists.{IsIn}
use Rattle.journal_model.specs.Runs.{IsFloorUpTo, Rise, FloorsUpTo}
use Rattle.journal_model.specs.Invariants.{NumbersRise, IsTaken, IsFresh}
use Rattle.journal_model.proofs.WalkLaws.{by_snoc, each-parts, each-front}
use Rattle.journal_model.proofs.ListLaws.{all_front, in_left, in_right, in_cases, in_filter, out_filter, all_in}
use Rattle.journal_model.proofs.PieceLaws.{each_filter, each_with_segment, by_position_in, in_by_position}
use Rattle.journal_model.proofs.LayoutLaws.{layout-snoc, held, product_rises}
use Rattle.journal_model.proofs.NumberLaws.{numbers, found, taken_more, taken_low}

-- ---- one list in rising order has its elements

pub rise_same : (xs ys : List Placed) → Rise xs → Rise ys → ((x : Placed) → IsIn x xs → IsIn x ys) → ((x : Placed) → IsIn x ys → IsIn x xs) → xs ≡ ys
rise_same [] [] r q f g = refl
rise_same [] (y ∷ ys) r q f g = absurd (g y (inl refl))
rise_same (x ∷ xs) [] r q f g = absurd (f x (inl refl))
rise_same (x ∷ xs) (y ∷ ys) r q f g =
    let same : x ≡ y = ⊎_elim (λ e. e) (λ i. ⊎_elim (λ e. sym e) (λ j.
    let a : y.position < x.position = all_in (λ z. y.position < z.position) ys x q.0 i in
    let b : x.position < y.position = all_in (λ z. x.position < z.position) xs y r.0 j in
    absurd (omega arith)) (g y (inl refl))) (f x (inl refl)) in
    ap₂ (λ z zs. z ∷ zs) same (rise_same xs ys r.1 q.1
    (λ z i. ⊎_elim (λ e.
    let a : x.position < z.position = all_in (λ w. x.position < w.position) xs z r.0 i in
    let at : z.position ≡ x.position = ap (λ w. w.position) (e ∙ sym same) in absurd (omega arith)) (λ j. j) (f z (inr i)))
    (λ z i. ⊎_elim (λ e.
    let a : y.position < z.position = all_in (λ w. y.position < w.position) ys z q.0 i in
    let at : z.position ≡ y.position = ap (λ w. w.position) (e ∙ same) in absurd (omega arith)) (λ j. j) (g z (inr i))))

-- ---- the piece of a number

-- whatever segment has the number has this piece, and no merge will give the number to another
pub record Keeps (channel : Channel) (number : ℕ) (piece : List Placed) (layout : Layout) : Type 0 where
  pub pieces : AllByRecursion (λ s. s.number ≡ number → s.piece ≡ piece) layout.segments
  pub begun : AllByRecursion (λ b. b.number ≢ number) layout.begun
  pub taken : IsTaken channel layout.taken number

module _ (channel : Channel) (number : ℕ) (piece : List Placed) where
  close_stays : (layout : Layout) (rows : List Placed) → Keeps channel number piece layout → Keeps channel number piece (after_boundary channel layout rows)
  close_stays layout rows k = record {
    pieces = each-append (λ s. s.number ≡ number → s.piece ≡ piece) layout.segments (waiting_segment (number_at channel layout.taken) rows ∷ []) k.pieces
        ((λ same. let low : number < number_at channel layout.taken = taken_low channel layout.taken number k.taken in absurd (omega arith)), tt);
    begun = k.begun;
    taken = taken_more channel layout.taken number k.taken;
  }

  row_stays : (layout : Layout) (o : Option Placed) → Keeps channel number piece layout → Keeps channel number piece (with_row channel layout o)
  row_stays layout None k = k
  row_stays layout (Some x) k = elim (nat_eq (length (layout.tail ++ x ∷ [])) channel.seal_rows) as (λ b. Keeps channel number piece (cond b (after_boundary channel layout (layout.tail ++ x ∷ [])) (with_tail layout (layout.tail ++ x ∷ [])))) [
    | true ↦ close_stays layout (layout.tail ++ x ∷ []) k
    | false ↦ record { pieces = k.pieces; begun = k.begun; taken = k.taken }
  ]

  seal_stays : (layout : Layout) → Keeps channel number piece layout → Keeps channel number piece (after_seal channel layout)
  seal_stays layout k = elim (nat_eq (length layout.tail) 0) as (λ b. Keeps channel number piece (cond b layout (after_boundary channel layout layout.tail))) [
    | true ↦ k
    | false ↦ close_stays layout layout.tail k
  ]

  rehome_pieces : (n : ℕ) (change : List Home → List Home) (segments : List Segment) → AllByRecursion (λ s. s.number ≡ number → s.piece ≡ piece) segments → AllByRecursion (λ s. s.number ≡ number → s.piece ≡ piece) (rehome n change segments)
  rehome_pieces n change [] a = tt
  rehome_pieces n change (s ∷ segments) a = elim (nat_eq s.number n) as (λ b. AllByRecursion (λ z. z.number ≡ number → z.piece ≡ piece) (cond b (with_homes change s ∷ segments) (s ∷ rehome n change segments))) [
    | true ↦ a
    | false ↦ (a.0, rehome_pieces n change segments a.1)
  ]

  rehome_stays : (layout : Layout) (n : ℕ) (change : List Home → List Home) → Keeps channel number piece layout → Keeps channel number piece (with_segments layout (rehome n change layout.segments))
  rehome_stays layout n change k = record { pieces = rehome_pieces n change layout.segments k.pieces; begun = k.begun; taken = k.taken }

  number_stays : (notes : List Note) (by : ℕ) (layout : Layout) (segment floor : ℕ) → segment ≡ number_at channel layout.taken → Keeps channel number piece layout → Keeps channel number piece (after_number notes by layout segment floor)
  number_stays notes by layout segment floor is k = record {
    pieces = k.pieces;
    begun = each-append (λ b. b.number ≢ number) layout.begun (record { number = segment; by = by; floor = floor; at = length notes + 1 } ∷ []) k.begun
        ((λ same. let low : number < number_at channel layout.taken = taken_low channel layout.taken number k.taken in absurd (omega arith)), tt);
    taken = taken_more channel layout.taken number k.taken;
  }

  product_stays : (notes : List Note) (by : ℕ) (layout : Layout) (sources : List ℕ) (n node : ℕ) (o : Option BegunMerge) → begun_merge layout by n ≡ o → Keeps channel number piece layout
      → AllByRecursion (λ s. s.number ≡ number → s.piece ≡ piece) (with_merged notes layout sources node o (others_in sources layout.segments))
  product_stays notes by layout sources n node None e k = each_filter (λ s. s.number ≡ number → s.piece ≡ piece) (λ s. not (is_among sources s)) layout.segments k.pieces
  product_stays notes by layout sources n node (Some b) e k =
      let f = found (λ c. c.number ≢ number) by n layout.begun b k.begun e in
      each_with_segment (λ s. s.number ≡ number → s.piece ≡ piece) (record { number = b.number; piece = merged_piece notes layout sources b; homes = Node node ∷ [] }) (others_in sources layout.segments)
      (λ same. absurd (f.fact same)) (each_filter (λ s. s.number ≡ number → s.piece ≡ piece) (λ s. not (is_among sources s)) layout.segments k.pieces)

  merge_stays : (notes : List Note) (by : ℕ) (layout : Layout) (sources : List ℕ) (segment : Option ℕ) (node : ℕ) → Keeps channel number piece layout → Keeps channel number piece (after_merge notes by layout sources segment node)
  merge_stays notes by layout sources None node k = record { pieces = each_filter (λ s. s.number ≡ number → s.piece ≡ piece) (λ s. not (is_among sources s)) layout.segments k.pieces; begun = k.begun; taken = k.taken }
  merge_stays notes by layout sources (Some n) node k = record {
    pieces = product_stays notes by layout sources n node (begun_merge layout by n) refl k;
    begun = each_filter (λ b. b.number ≢ number) (λ b. not (nat_eq b.number n)) layout.begun k.begun;
    taken = k.taken;
  }

  note_stays : (notes : List Note) (by : ℕ) (layout : Layout) (kind : Kind) → is_allowed channel notes by layout kind ≡ true → Keeps channel number piece layout → Keeps channel number piece (layout_after channel notes by layout kind)
  note_stays notes by layout (Put ts how row) ok k = row_stays layout (effective_put notes ts.0 how row) k
  note_stays notes by layout (Seal ts) ok k = seal_stays layout k
  note_stays notes by layout (Number segment floor) ok k = number_stays notes by layout segment floor.0 (eqb-true segment (number_at channel layout.taken) ok) k
  note_stays notes by layout (Load segment node) ok k = rehome_stays layout segment (homes_after_load node) k
  note_stays notes by layout (Release segment node) ok k = rehome_stays layout segment (homes_after_release node) k
  note_stays notes by layout (Merge sources segment node) ok k = merge_stays notes by layout sources segment node k
  note_stays notes by layout _ ok k = k

  pub keeps_on : (notes more : List Note) → IsLawful channel (notes ++ more) → Keeps channel number piece (layout_of channel notes) → Keeps channel number piece (layout_of channel (notes ++ more))
  keeps_on notes = by_snoc (λ more. IsLawful channel (notes ++ more) → Keeps channel number piece (layout_of channel notes) → Keeps channel number piece (layout_of channel (notes ++ more)))
      (λ lawful k. subst (λ l. Keeps channel number piece (layout_of channel l)) (sym (append-nil notes)) k)
      (λ xs note f lawful k.
      let parts = each-parts (λ before n. is_lawful channel before n ≡ true) (notes ++ xs) note (subst (IsLawful channel) (sym (append_assoc notes xs (note ∷ []))) lawful) in
      subst (λ l. Keeps channel number piece (layout_of channel l)) (append_assoc notes xs (note ∷ []))
      (subst (Keeps channel number piece) (sym (layout-snoc channel (notes ++ xs) note))
      (note_stays (notes ++ xs) note.by (layout_of channel (notes ++ xs)) note.kind parts.1 (f parts.0 k))))

-- a segment that rises among others is the only one of its number
pub one_piece : (segments : List Segment) (s : Segment) → NumbersRise segments → IsIn s segments → AllByRecursion (λ t. t.number ≡ s.number → t.piece ≡ s.piece) segments
one_piece [] s r i = tt
one_piece (x ∷ segments) s r (inl e) = ((λ same. ap (λ z. z.piece) (sym e)), each_implied (λ t. x.number < t.number) (λ t. t.number ≡ s.number → t.piece ≡ s.piece) (λ t lt same. let at : s.number ≡ x.number = ap (λ z. z.number) e in absurd (omega arith)) segments r.0)
one_piece (x ∷ segments) s r (inr i) = ((λ same. let lt : x.number < s.number = all_in (λ t. x.number < t.number) segments s r.0 i in absurd (omega arith)), one_piece segments s r.1 i)

-- as long as a number is there it has its piece
pub piece_stays : (channel : Channel) (notes more : List Note) → IsLawful channel (notes ++ more) → (s t : Segment) → IsIn s (layout_of channel notes).segments → IsIn t (layout_of channel (notes ++ more)).segments
    → t.number ≡ s.number → t.piece ≡ s.piece
piece_stays channel notes more lawful s t i j same =
    let n = numbers channel notes (each-front (λ before note. is_lawful channel before note ≡ true) notes more lawful) in
    let k : Keeps channel s.number s.piece (layout_of channel notes) = record {
      pieces = one_piece (layout_of channel notes).segments s n.rise i;
      begun = each_implied (λ b. IsFresh channel (layout_of channel notes) b.number) (λ b. b.number ≢ s.number) (λ b f same. all_in (λ z. z.number ≢ b.number) (layout_of channel notes).segments s f.1 i (sym same)) (layout_of channel notes).begun n.fresh;
      taken = all_in (λ z. IsTaken channel (layout_of channel notes).taken z.number) (layout_of channel notes).segments s n.taken i;
    } in
    all_in (λ z. z.number ≡ s.number → z.piece ≡ s.piece) (layout_of channel (notes ++ more)).segments t (keeps_on channel s.number s.piece notes more lawful k).pieces j same

-- ---- the product of a merge

pub record Source (sources : List ℕ) (segments : List Segment) (x : Placed) : Type 0 where
  pub segment : Segment
  pub there : IsIn segment segments
  pub among : is_among sources segment ≡ true
  pub row : IsIn x segment.piece

pub source_of : (sources : List ℕ) (segments : List Segment) (x : Placed) → IsIn x (rows_in (sources_in sources segments)) → Source sources segments x
source_of sources [] x i = absurd i
source_of sources (s ∷ segments) x i = elim (is_among sources s) as (λ b. is_among sources s ≡ b → IsIn x (rows_in (cond b (s ∷ sources_in sources segments) (sources_in sources segments))) → Source sources (s ∷ segments) x) [
  | true ↦ λ e h. ⊎_elim (λ l. record { segment = s; there = inl refl; among = e; row = l }) (λ r. more (source_of sources segments x r)) (in_cases x s.piece (rows_in (sources_in sources segments)) h)
  | false ↦ λ e h. more (source_of sources segments x h)
] refl i
  where
    more : Source sources segments x → Source sources (s ∷ segments) x
    more f = record { segment = f.segment; there = inr f.there; among = f.among; row = f.row }

pub of_source : (sources : List ℕ) (segments : List Segment) (x : Placed) → Source sources segments x → IsIn x (rows_in (sources_in sources segments))
of_source sources segments x f = go segments f.there
  where
    go : (ss : List Segment) → IsIn f.segment ss → IsIn x (rows_in (sources_in sources ss))
    go [] i = absurd i
    go (s ∷ ss) (inl e) = subst (λ b. IsIn x (rows_in (cond b (s ∷ sources_in sources ss) (sources_in sources ss)))) (sym (ap (is_among sources) (sym e) ∙ f.among)) (in_left x s.piece (rows_in (sources_in sources ss)) (subst (λ z. IsIn x z.piece) e f.row))
    go (s ∷ ss) (inr i) = elim (is_among sources s) as (λ b. IsIn x (rows_in (cond b (s ∷ sources_in sources ss) (sources_in sources ss)))) [
      | true ↦ in_right x s.piece (rows_in (sources_in sources ss)) (go ss i)
      | false ↦ go ss i
    ]

among_there : (P : ℕ → Bool) (n : ℕ) (sources : List ℕ) → list_any (λ number. nat_eq n number) sources ≡ true → list_all P sources ≡ true → P n ≡ true
among_there P n [] any all = absurd (false≢true any)
among_there P n (m ∷ sources) any all =
    let parts = and_parts (P m) (list_all P sources) all in
    ⊎_elim (λ e. ap P (eqb-true n m e) ∙ parts.0) (λ r. among_there P n sources r parts.1) (or_cases (nat_eq n m) (list_any (λ number. nat_eq n number) sources) any)

pub there_is : (number : ℕ) (segments : List Segment) → list_any (λ s. nat_eq s.number number) segments ≡ true → (s : Segment) × IsIn s segments × (s.number ≡ number)
there_is number [] any = absurd (false≢true any)
there_is number (s ∷ segments) any = ⊎_elim
    (λ e. (s, inl refl, eqb-true s.number number e))
    (λ r. let f = there_is number segments r in (f.0, inr f.1, f.2))
    (or_cases (nat_eq s.number number) (list_any (λ z. nat_eq z.number number) segments) any)

-- what a merge keeps is the same list from its beginning to its commit
pub product_same : (channel : Channel) (floor : ℕ) (notes more : List Note) (sources : List ℕ) (b : BegunMerge) → IsLawful channel (notes ++ more) → FloorsUpTo floor (notes ++ more) → b.at ≤ length notes
    → list_all (is_there (layout_of channel notes)) sources ≡ true → list_all (is_there (layout_of channel (notes ++ more))) sources ≡ true
    → merged_piece (notes ++ more) (layout_of channel (notes ++ more)) sources b ≡ merged_piece notes (layout_of channel notes) sources b
product_same channel floor notes more sources b lawful floors within there still =
    let low : FloorsUpTo floor notes = all_front (λ note. IsFloorUpTo floor note.kind) notes more floors in
    let front : IsLawful channel notes = each-front (λ before note. is_lawful channel before note ≡ true) notes more lawful in
    let old : Layout = layout_of channel notes in
    let new : Layout = layout_of channel (notes ++ more) in
    let cut : take b.at (notes ++ more) ≡ take b.at notes = take-append-le b.at notes more within in
    ap (λ l. kept_in l b.floor (sources_in sources (layout_of channel (notes ++ more)).segments)) cut
    ∙ rise_same (kept_in (take b.at notes) b.floor (sources_in sources (layout_of channel (notes ++ more)).segments)) (merged_piece notes (layout_of channel notes) sources b)
    (subst (λ l. Rise (kept_in l b.floor (sources_in sources (layout_of channel (notes ++ more)).segments))) cut (product_rises (notes ++ more) floor (layout_of channel (notes ++ more)) sources (held channel floor (notes ++ more) lawful floors) b))
    (product_rises notes floor (layout_of channel notes) sources (held channel floor notes front low) b)
    (λ x i. back front cut x i) (λ x i. forth front x i)
  where
    swap : (p : Placed → Bool) (x : Placed) (xs ys : List Placed) → (IsIn x xs → IsIn x ys) → IsIn x (by_position (filter p xs)) → IsIn x (by_position (filter p ys))
    swap p x xs ys f i = let o = out_filter p x xs (by_position_in x (filter p xs) i) in in_by_position x (filter p ys) (in_filter p x ys (f o.0) o.1)

    back : IsLawful channel notes → take b.at (notes ++ more) ≡ take b.at notes → (x : Placed) → IsIn x (kept_in (take b.at notes) b.floor (sources_in sources (layout_of channel (notes ++ more)).segments)) → IsIn x (merged_piece notes (layout_of channel notes) sources b)
    back front cut x i = swap (is_kept (take b.at notes) b.floor) x (rows_in (sources_in sources (layout_of channel (notes ++ more)).segments)) (rows_in (sources_in sources (layout_of channel notes).segments)) (λ j.
        let f = source_of sources (layout_of channel (notes ++ more)).segments x j in
        let g = there_is f.segment.number (layout_of channel notes).segments (among_there (is_there (layout_of channel notes)) f.segment.number sources f.among there) in
        let same : f.segment.piece ≡ g.0.piece = piece_stays channel notes more lawful g.0 f.segment g.1 f.there (sym g.2) in
        of_source sources (layout_of channel notes).segments x (record { segment = g.0; there = g.1; among = ap (λ n. list_any (λ number. nat_eq n number) sources) g.2 ∙ f.among; row = subst (IsIn x) same f.row })) i

    forth : IsLawful channel notes → (x : Placed) → IsIn x (merged_piece notes (layout_of channel notes) sources b) → IsIn x (kept_in (take b.at notes) b.floor (sources_in sources (layout_of channel (notes ++ more)).segments))
    forth front x i = swap (is_kept (take b.at notes) b.floor) x (rows_in (sources_in sources (layout_of channel notes).segments)) (rows_in (sources_in sources (layout_of channel (notes ++ more)).segments)) (λ j.
        let f = source_of sources (layout_of channel notes).segments x j in
        let g = there_is f.segment.number (layout_of channel (notes ++ more)).segments (among_there (is_there (layout_of channel (notes ++ more))) f.segment.number sources f.among still) in
        let same : g.0.piece ≡ f.segment.piece = piece_stays channel notes more lawful f.segment g.0 f.there g.1 g.2 in
        of_source sources (layout_of channel (notes ++ more)).segments x (record { segment = g.0; there = g.1; among = ap (λ n. list_any (λ number. nat_eq n number) sources) g.2 ∙ f.among; row = subst (IsIn x) (sym same) f.row })) i
