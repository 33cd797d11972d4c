-- What every lawful journal keeps: tail and pieces are correct, cover and stand apart, and each segment has its homes.
use Rattle.std.proofs.Common.{◌≡◌, ℕ, ◌+◌, ◌<◌, ◌≤◌, Bool, true, false, cond, not, ◌&&◌, ◌||◌, List, [], ◌∷◌, ◌++◌, length, take, drop, Option, Some, None, refl, sym, ap, subst, ◌∙◌, inl, inr, ◌⊎◌, ⊎_elim, arith, append-nil, append_assoc, eqb-true, leb-true, take-append-drop}
use Rattle.std.specs.Prelude.{nat_eq, option_to_list}
use Rattle.std.specs.List.{filter, find, list_any, AllByRecursion, count_by}
use Rattle.std.proofs.lemmas.List.{length_push, nil_from_length}
use Rattle.std.proofs.lemmas.Bool.{false≢true, and_parts, not-true, eqb-false, or_cases, le-leb}
use Rattle.journal_model.specs.declared.notes.Home.{Home}
use Rattle.journal_model.specs.declared.notes.Home.TheVariants.{Leader, Node}
use Rattle.journal_model.specs.declared.notes.Kind.{Kind}
use Rattle.journal_model.specs.declared.notes.Kind.TheVariants.{Put, Seal, Number, Load, Release, Merge}
use Rattle.journal_model.specs.declared.notes.Note.{Note}
use Rattle.log_model.specs.Places.{Placed}
use Rattle.journal_model.specs.Puts.{effective, effective_put, death, is_dead_by}
use Rattle.journal_model.specs.Layouts.{Channel, Segment, BegunMerge, Layout, empty_layout, number_at, waiting_segment, after_boundary, with_tail, with_row, after_seal, is_home, homes_after_load, homes_after_release, with_homes, rehome, with_segments, rows_in, is_among, sources_in, others_in, is_kept, merged_piece, with_segment, without_begun, begun_merge, with_merged, after_merge, after_number, layout_after, next_layout, layout_of}
use Rattle.journal_model.specs.Lawful.{homes_in, is_at, is_elsewhere, is_allowed, is_lawful, IsLawful}
use Rattle.journal_model.specs.Lists.{IsIn}
use Rattle.journal_model.specs.Runs.{AreApart, Rise, IsNode, AreHomes, IsSegment, all_rows, IsFloorUpTo, FloorsUpTo, IsConsistent}
use Rattle.journal_model.specs.Invariants.{IsValid}
use Rattle.journal_model.proofs.AllowLaws.{merge_allowed, keeps_rows, is_product}
use Rattle.journal_model.proofs.WalkLaws.{walked-snoc, by_each}
use Rattle.journal_model.proofs.PutLaws.{put_within}
use Rattle.journal_model.proofs.IndexLaws.{effective_position}
use Rattle.journal_model.proofs.ListLaws.{in_left, in_right, in_cases, in_filter, out_filter, count-append, count_filter}
use Rattle.journal_model.proofs.RowLaws.{rows_added, rows_from, dead_longer}
use Rattle.journal_model.proofs.PieceLaws.{rows_in-append, rows_in-rehome, rows_in-some, rows_in-either, count-either, with_segment_in, in_with_segment, count-with_segment, each_with_segment, each_filter, by_position_in, in_by_position, count-by_position, by_position_rises, rise_push}

pub layout-snoc : (channel : Channel) (xs : List Note) (note : Note) → layout_of channel (xs ++ note ∷ []) ≡ next_layout channel xs (layout_of channel xs) note
unfolding layout_of
layout-snoc channel xs note = walked-snoc (next_layout channel) empty_layout xs note

-- ---- homes

nodes_homes : (homes : List Home) → AllByRecursion IsNode homes → 0 < length homes → AreHomes homes
nodes_homes [] nodes some = absurd (omega arith)
nodes_homes (Leader ∷ homes) nodes some = absurd nodes.0
nodes_homes (Node node ∷ homes) nodes some = nodes.1

loaded_homes : (node : ℕ) (homes : List Home) → AreHomes homes → AreHomes (homes_after_load node homes)
loaded_homes node [] h = absurd h
loaded_homes node (Leader ∷ homes) h = subst (λ l. AreHomes (filter (λ home. not (is_home Leader home)) l ++ Node node ∷ [])) (sym h) tt
loaded_homes node (Node other ∷ homes) h = add (filter (λ home. not (is_home Leader home)) homes) (each_filter IsNode (λ home. not (is_home Leader home)) homes h)
  where
    add : (nodes : List Home) → AllByRecursion IsNode nodes → AllByRecursion IsNode (nodes ++ Node node ∷ [])
    add [] a = (tt, tt)
    add (n ∷ nodes) a = (a.0, add nodes a.1)

any_filter : {X : Type 0} (p : X → Bool) (xs : List X) → list_any p xs ≡ true → 0 < length (filter p xs)
any_filter p [] h = absurd (false≢true h)
any_filter p (x ∷ xs) h = elim (p x) as (λ b. p x ≡ b → 0 < length (cond b (x ∷ filter p xs) (filter p xs))) [
  | true ↦ λ e. omega arith
  | false ↦ λ e. any_filter p xs (sym (ap (λ b. b || list_any p xs) e) ∙ h)
] refl

released_homes : (node : ℕ) (homes : List Home) → AreHomes homes → list_any (λ home. not (is_home (Node node) home)) homes ≡ true → AreHomes (homes_after_release node homes)
released_homes node [] h other = absurd h
released_homes node (Leader ∷ homes) h other = ap (filter (λ home. not (is_home (Node node) home))) h
released_homes node (Node n ∷ homes) h other =
    nodes_homes (homes_after_release node (Node n ∷ homes)) (each_filter IsNode (λ home. not (is_home (Node node) home)) (Node n ∷ homes) (tt, h)) (any_filter (λ home. not (is_home (Node node) home)) (Node n ∷ homes) other)

rehomed : (number : ℕ) (change : List Home → List Home) (segments : List Segment) → AllByRecursion IsSegment segments
    → ((homes : List Home) → homes_in segments number ≡ homes → AreHomes homes → AreHomes (change homes))
    → AllByRecursion IsSegment (rehome number change segments)
rehomed number change [] a f = tt
rehomed number change (s ∷ segments) a f =
    elim (nat_eq s.number number) as (λ b. ((homes : List Home) → cond b s.homes (homes_in segments number) ≡ homes → AreHomes homes → AreHomes (change homes)) → AllByRecursion IsSegment (cond b (with_homes change s ∷ segments) (s ∷ rehome number change segments))) [
      | true ↦ λ g. (record { homes = g s.homes refl a.0.homes; rises = a.0.rises; some = a.0.some }, a.1)
      | false ↦ λ g. (a.0, rehomed number change segments a.1 g)
    ] f

-- ---- a note that adds no row

abbrev AreBegun : List Note → ℕ → List BegunMerge → Type 0
AreBegun notes floor begun = AllByRecursion (λ b. (b.floor ≤ floor) × (b.at ≤ length notes)) begun

begun_longer : (notes : List Note) (floor : ℕ) (note : Note) (begun : List BegunMerge) → AreBegun notes floor begun → AreBegun (notes ++ note ∷ []) floor begun
begun_longer notes floor note [] a = tt
begun_longer notes floor note (b ∷ begun) a = ((a.0.0, let old = a.0.1 in omega (arith, length_push notes note)), begun_longer notes floor note begun a.1)

module _ (notes : List Note) (floor : ℕ) (note : Note) where
  same_rows : (rows : List Placed) → effective notes note.kind ≡ None → IsConsistent notes floor rows → IsConsistent (notes ++ note ∷ []) floor rows
  same_rows rows none s = subst (IsConsistent (notes ++ note ∷ []) floor) (ap (λ o. rows ++ option_to_list o) none ∙ append-nil rows) (rows_added notes floor note rows s)

  kept_as_is : (layout : Layout) → effective notes note.kind ≡ None → IsValid notes floor layout → IsValid (notes ++ note ∷ []) floor layout
  kept_as_is layout none h = record { rows = same_rows (all_rows layout) none h.rows; segments = h.segments; tail = h.tail; begun = begun_longer notes floor note layout.begun h.begun }

-- ---- a row at the end of the tail, and a boundary

push_segment : (segments : List Segment) (s : Segment) → AllByRecursion IsSegment segments → IsSegment s → AllByRecursion IsSegment (segments ++ s ∷ [])
push_segment [] s a h = (h, tt)
push_segment (x ∷ segments) s a h = (a.0, push_segment segments s a.1 h)

rows_closed : (channel : Channel) (layout : Layout) (rows : List Placed) → all_rows (after_boundary channel layout rows) ≡ rows_in layout.segments ++ rows
rows_closed channel layout rows =
    append-nil (rows_in (after_boundary channel layout rows).segments)
    ∙ rows_in-append layout.segments (waiting_segment (number_at channel layout.taken) rows ∷ [])
    ∙ ap (λ l. rows_in layout.segments ++ l) (append-nil rows)

close_keeps : (channel : Channel) (notes : List Note) (floor : ℕ) (layout : Layout) (rows : List Placed) → IsConsistent notes floor (rows_in layout.segments ++ rows)
    → AllByRecursion IsSegment layout.segments → Rise rows → 0 < length rows → AreBegun notes floor layout.begun → IsValid notes floor (after_boundary channel layout rows)
close_keeps channel notes floor layout rows stand segments rises some begun = record {
  rows = subst (IsConsistent notes floor) (sym (rows_closed channel layout rows)) stand;
  segments = push_segment layout.segments (waiting_segment (number_at channel layout.taken) rows) segments (record { homes = refl; rises = rises; some = some });
  tail = tt;
  begun = begun;
}

seal_keeps : (channel : Channel) (notes : List Note) (floor : ℕ) (layout : Layout) → IsValid notes floor layout → IsValid notes floor (after_seal channel layout)
seal_keeps channel notes floor layout h = elim (nat_eq (length layout.tail) 0) as (λ b. nat_eq (length layout.tail) 0 ≡ b → IsValid notes floor (cond b layout (after_boundary channel layout layout.tail))) [
  | true ↦ λ e. h
  | false ↦ λ e. let ne = eqb-false (length layout.tail) 0 e in close_keeps channel notes floor layout layout.tail h.rows h.segments h.tail (let some : 0 < length layout.tail = omega arith in some) h.begun
] refl

row_keeps : (channel : Channel) (notes : List Note) (floor : ℕ) (note : Note) (layout : Layout) (o : Option Placed) → effective notes note.kind ≡ o
    → IsValid notes floor layout → IsValid (notes ++ note ∷ []) floor (with_row channel layout o)
row_keeps channel notes floor note layout None e h = kept_as_is notes floor note layout e h
row_keeps channel notes floor note layout (Some x) e h =
    let rows : List Placed = layout.tail ++ x ∷ [] in
    let stand : IsConsistent (notes ++ note ∷ []) floor (rows_in layout.segments ++ (layout.tail ++ x ∷ [])) =
    subst (IsConsistent (notes ++ note ∷ []) floor) (ap (λ o. all_rows layout ++ option_to_list o) e ∙ append_assoc (rows_in layout.segments) layout.tail (x ∷ [])) (rows_added notes floor note (all_rows layout) h.rows) in
    let rises : Rise (layout.tail ++ x ∷ []) = rise_push layout.tail x h.tail (λ y i.
    let at = effective_position notes note.kind x e in
    let lt = put_within notes y y.position (h.rows.correct y (in_right y (rows_in layout.segments) layout.tail i)) in
    omega arith) in
    elim (nat_eq (length (layout.tail ++ x ∷ [])) channel.seal_rows) as (λ b. IsValid (notes ++ note ∷ []) floor (cond b (after_boundary channel layout (layout.tail ++ x ∷ [])) (with_tail layout (layout.tail ++ x ∷ [])))) [
      | true ↦ close_keeps channel (notes ++ note ∷ []) floor layout (layout.tail ++ x ∷ []) stand h.segments rises (omega (arith, length_push layout.tail x)) (begun_longer notes floor note layout.begun h.begun)
      | false ↦ record { rows = stand; segments = h.segments; tail = rises; begun = begun_longer notes floor note layout.begun h.begun }
    ]

rehome_keeps : (notes : List Note) (floor : ℕ) (layout : Layout) (number : ℕ) (change : List Home → List Home)
    → ((homes : List Home) → homes_in layout.segments number ≡ homes → AreHomes homes → AreHomes (change homes))
    → IsValid notes floor layout → IsValid notes floor (with_segments layout (rehome number change layout.segments))
rehome_keeps notes floor layout number change f h = record {
  rows = subst (λ l. IsConsistent notes floor (l ++ layout.tail)) (sym (rows_in-rehome number change layout.segments)) h.rows;
  segments = rehomed number change layout.segments h.segments f;
  tail = h.tail;
  begun = h.begun;
}

-- ---- merges

-- a row that a merge leaves out was dead at the floor
left_out : (at floor : ℕ) (begun : ℕ) (notes : List Note) (x : Placed) → begun ≤ floor → is_dead_by floor (death notes x) ≡ false → is_kept (take at notes) begun x ≡ true
left_out at floor begun notes x low alive = elim (is_dead_by begun (death (take at notes) x)) as (λ b. is_dead_by begun (death (take at notes) x) ≡ b → not b ≡ true) [
  | true ↦ λ e. absurd (
      let longer : is_dead_by begun (death (take at notes ++ drop at notes) x) ≡ true = dead_longer begun (take at notes) (drop at notes) x e in
      let dead : is_dead_by begun (death notes x) ≡ true = subst (λ l. is_dead_by begun (death l x) ≡ true) (take-append-drop at notes) longer in
      let later : is_dead_by floor (death notes x) ≡ true = dead_later (death notes x) dead in
      false≢true (sym alive ∙ later))
  | false ↦ λ e. refl
] refl
  where
    dead_later : (o : Option ℕ) → is_dead_by begun o ≡ true → is_dead_by floor o ≡ true
    dead_later None e = e
    dead_later (Some d) e = let le : d ≤ begun = leb-true d begun e in le-leb d floor (omega arith)

module _ (notes : List Note) (floor : ℕ) (layout : Layout) (sources : List ℕ) (h : IsValid notes floor layout) where
  others_stand : (piece : List Placed) (b : BegunMerge) → b.floor ≤ floor → merged_piece notes layout sources b ≡ piece
      → (segments : List Segment)
      → ((x : Placed) → IsIn x (rows_in segments) → IsIn x piece ⊎ IsIn x (rows_in (others_in sources layout.segments)))
      → ((x : Placed) → IsIn x piece ⊎ IsIn x (rows_in (others_in sources layout.segments)) → IsIn x (rows_in segments))
      → ((q : Placed → Bool) → count_by q (rows_in segments) ≡ count_by q piece + count_by q (rows_in (others_in sources layout.segments)))
      → IsConsistent notes floor (rows_in segments ++ layout.tail)
  others_stand piece b low is segments back into counts = rows_from notes floor (all_rows layout) (rows_in segments ++ layout.tail)
      (λ x i. ⊎_elim
      (λ l. ⊎_elim
      (λ p.
      let among = by_position_in x (filter (is_kept (take b.at notes) b.floor) (rows_in (sources_in sources layout.segments))) (subst (IsIn x) (sym is) p) in
      in_left x (rows_in layout.segments) layout.tail (rows_in-some (is_among sources) x layout.segments (out_filter (is_kept (take b.at notes) b.floor) x (rows_in (sources_in sources layout.segments)) among).0))
      (λ o. in_left x (rows_in layout.segments) layout.tail (rows_in-some (λ s. not (is_among sources s)) x layout.segments o))
      (back x l))
      (λ t. in_right x (rows_in layout.segments) layout.tail t)
      (in_cases x (rows_in segments) layout.tail i))
      (λ x i alive. ⊎_elim
      (λ l. in_left x (rows_in segments) layout.tail (into x (⊎_elim
      (λ s. inl (subst (IsIn x) is (in_by_position x (filter (is_kept (take b.at notes) b.floor) (rows_in (sources_in sources layout.segments)))
      (in_filter (is_kept (take b.at notes) b.floor) x (rows_in (sources_in sources layout.segments)) s (left_out b.at floor b.floor notes x low alive)))))
      (λ o. inr o)
      (rows_in-either (is_among sources) x layout.segments l))))
      (λ t. in_right x (rows_in segments) layout.tail t)
      (in_cases x (rows_in layout.segments) layout.tail i))
      (λ p.
      let q : Placed → Bool = λ x. nat_eq x.position p in
      let now : count_by (λ x. nat_eq x.position p) (rows_in segments ++ layout.tail) ≡ count_by (λ x. nat_eq x.position p) (rows_in segments) + count_by (λ x. nat_eq x.position p) layout.tail = count-append (λ x. nat_eq x.position p) (rows_in segments) layout.tail in
      let was : count_by (λ x. nat_eq x.position p) (all_rows layout) ≡ count_by (λ x. nat_eq x.position p) (rows_in layout.segments) + count_by (λ x. nat_eq x.position p) layout.tail = count-append (λ x. nat_eq x.position p) (rows_in layout.segments) layout.tail in
      let new : count_by (λ x. nat_eq x.position p) (rows_in segments) ≡ count_by (λ x. nat_eq x.position p) piece + count_by (λ x. nat_eq x.position p) (rows_in (others_in sources layout.segments)) = counts (λ x. nat_eq x.position p) in
      let both : count_by (λ x. nat_eq x.position p) (rows_in (sources_in sources layout.segments)) + count_by (λ x. nat_eq x.position p) (rows_in (others_in sources layout.segments)) ≡ count_by (λ x. nat_eq x.position p) (rows_in layout.segments) = count-either (λ x. nat_eq x.position p) (is_among sources) layout.segments in
      let of_piece : count_by (λ x. nat_eq x.position p) piece ≡ count_by (λ x. nat_eq x.position p) (filter (is_kept (take b.at notes) b.floor) (rows_in (sources_in sources layout.segments))) =
      ap (count_by (λ x. nat_eq x.position p)) (sym is) ∙ count-by_position (λ x. nat_eq x.position p) (filter (is_kept (take b.at notes) b.floor) (rows_in (sources_in sources layout.segments))) in
      let fewer : count_by (λ x. nat_eq x.position p) (filter (is_kept (take b.at notes) b.floor) (rows_in (sources_in sources layout.segments))) ≤ count_by (λ x. nat_eq x.position p) (rows_in (sources_in sources layout.segments)) = count_filter (λ x. nat_eq x.position p) (is_kept (take b.at notes) b.floor) (rows_in (sources_in sources layout.segments)) in
      omega arith)
      h.rows

  -- the rows that a merge keeps stand once each
  product_apart : (b : BegunMerge) → AreApart (filter (is_kept (take b.at notes) b.floor) (rows_in (sources_in sources layout.segments)))
  product_apart b p =
      let one = h.rows.apart p in
      let was : count_by (λ x. nat_eq x.position p) (all_rows layout) ≡ count_by (λ x. nat_eq x.position p) (rows_in layout.segments) + count_by (λ x. nat_eq x.position p) layout.tail = count-append (λ x. nat_eq x.position p) (rows_in layout.segments) layout.tail in
      let both : count_by (λ x. nat_eq x.position p) (rows_in (sources_in sources layout.segments)) + count_by (λ x. nat_eq x.position p) (rows_in (others_in sources layout.segments)) ≡ count_by (λ x. nat_eq x.position p) (rows_in layout.segments) = count-either (λ x. nat_eq x.position p) (is_among sources) layout.segments in
      let fewer : count_by (λ x. nat_eq x.position p) (filter (is_kept (take b.at notes) b.floor) (rows_in (sources_in sources layout.segments))) ≤ count_by (λ x. nat_eq x.position p) (rows_in (sources_in sources layout.segments)) = count_filter (λ x. nat_eq x.position p) (is_kept (take b.at notes) b.floor) (rows_in (sources_in sources layout.segments)) in
      omega arith

  -- they rise by position
  pub product_rises : (b : BegunMerge) → Rise (merged_piece notes layout sources b)
  product_rises b = by_position_rises (filter (is_kept (take b.at notes) b.floor) (rows_in (sources_in sources layout.segments))) (product_apart b)

  -- a merge that keeps no row
  gone_keeps : (by : ℕ) (bs : List BegunMerge) → AreBegun notes floor bs → list_any (λ b. nat_eq b.by by && nat_eq (length (merged_piece notes layout sources b)) 0) bs ≡ true
      → IsValid notes floor (with_segments layout (others_in sources layout.segments))
  gone_keeps by [] low any = absurd (false≢true any)
  gone_keeps by (b ∷ bs) low any = ⊎_elim
      (λ here.
      let parts = and_parts (nat_eq b.by by) (nat_eq (length (merged_piece notes layout sources b)) 0) here in
      let nil : merged_piece notes layout sources b ≡ [] = nil_from_length (merged_piece notes layout sources b) (eqb-true (length (merged_piece notes layout sources b)) 0 parts.1) in
      record {
        rows = others_stand [] b low.0.0 nil (others_in sources layout.segments) (λ x i. inr i) (λ x i. ⊎_elim (λ no. absurd no) (λ o. o) i) (λ q. omega arith);
        segments = each_filter IsSegment (λ s. not (is_among sources s)) layout.segments h.segments;
        tail = h.tail;
        begun = h.begun;
      })
      (λ there. gone_keeps by bs low.1 there)
      (or_cases (nat_eq b.by by && nat_eq (length (merged_piece notes layout sources b)) 0) (list_any (λ c. nat_eq c.by by && nat_eq (length (merged_piece notes layout sources c)) 0) bs) any)

  -- a merge that gives a segment
  given_keeps : (by number node : ℕ) (o : Option BegunMerge) → begun_merge layout by number ≡ o → keeps_rows notes layout sources o ≡ true
      → IsValid notes floor (record { tail = layout.tail; segments = with_merged notes layout sources node o (others_in sources layout.segments); begun = without_begun number layout.begun; taken = layout.taken })
  given_keeps by number node None e begun = absurd (false≢true begun)
  given_keeps by number node (Some b) e begun =
      let low : b.floor ≤ floor = found_low layout.begun h.begun e in
      let some : 0 < length (merged_piece notes layout sources b) = let ne = eqb-false (length (merged_piece notes layout sources b)) 0 (not-true (nat_eq (length (merged_piece notes layout sources b)) 0) begun) in omega arith in
      let s : Segment = record { number = b.number; piece = merged_piece notes layout sources b; homes = Node node ∷ [] } in
      record {
        rows = others_stand (merged_piece notes layout sources b) b low refl (with_segment s (others_in sources layout.segments))
            (λ x i. with_segment_in x s (others_in sources layout.segments) i) (λ x i. in_with_segment x s (others_in sources layout.segments) i) (λ q. count-with_segment q s (others_in sources layout.segments));
        segments = each_with_segment IsSegment s (others_in sources layout.segments)
            (record { homes = tt; rises = by_position_rises (filter (is_kept (take b.at notes) b.floor) (rows_in (sources_in sources layout.segments))) (product_apart b); some = some })
            (each_filter IsSegment (λ z. not (is_among sources z)) layout.segments h.segments);
        tail = h.tail;
        begun = each_filter (λ c. (c.floor ≤ floor) × (c.at ≤ length notes)) (λ c. not (nat_eq c.number number)) layout.begun h.begun;
      }
    where
      found_low : (bs : List BegunMerge) → AreBegun notes floor bs → find (λ c. nat_eq c.number number && nat_eq c.by by) bs ≡ Some b → b.floor ≤ floor
      found_low [] a f = cc
      found_low (c ∷ bs) a f = elim (nat_eq c.number number && nat_eq c.by by) as (λ t. cond t (Some c) (find (λ d. nat_eq d.number number && nat_eq d.by by) bs) ≡ Some b → b.floor ≤ floor) [
        | true ↦ λ g. let same : c ≡ b = cc in subst (λ d. d.floor ≤ floor) same a.0.0
        | false ↦ λ g. found_low bs a.1 g
      ] f

  merge_keeps : (by : ℕ) (segment : Option ℕ) (node : ℕ) → is_product notes by layout sources segment ≡ true → IsValid notes floor (after_merge notes by layout sources segment node)
  merge_keeps by None node ok = gone_keeps by layout.begun h.begun ok
  merge_keeps by (Some number) node ok = given_keeps by number node (begun_merge layout by number) refl ok

-- ---- one note more

number_keeps : (notes : List Note) (floor : ℕ) (note : Note) (layout : Layout) (segment begun : ℕ) → effective notes note.kind ≡ None → begun ≤ floor → IsValid notes floor layout → IsValid (notes ++ note ∷ []) floor (after_number notes note.by layout segment begun)
number_keeps notes floor note layout segment begun none low h = record {
  rows = same_rows notes floor note (all_rows layout) none h.rows;
  segments = h.segments;
  tail = h.tail;
  begun = push layout.begun h.begun;
}
  where
    push : (bs : List BegunMerge) → AreBegun notes floor bs → AreBegun (notes ++ note ∷ []) floor (bs ++ record { number = segment; by = note.by; floor = begun; at = length notes + 1 } ∷ [])
    push [] a = ((low, omega (arith, length_push notes note)), tt)
    push (b ∷ bs) a = ((a.0.0, let old = a.0.1 in omega (arith, length_push notes note)), push bs a.1)

pub note_keeps : (channel : Channel) (notes : List Note) (floor : ℕ) (note : Note) (layout : Layout) (kind : Kind) → note.kind ≡ kind
    → is_allowed channel notes note.by layout kind ≡ true → IsFloorUpTo floor kind → IsValid notes floor layout → IsValid (notes ++ note ∷ []) floor (layout_after channel notes note.by layout kind)
note_keeps channel notes floor note layout (Put ts how row) e ok low h = row_keeps channel notes floor note layout (effective_put notes ts.0 how row) (ap (effective notes) e) h
note_keeps channel notes floor note layout (Seal ts) e ok low h = kept_as_is notes floor note (after_seal channel layout) (ap (effective notes) e) (seal_keeps channel notes floor layout h)
note_keeps channel notes floor note layout (Number segment begun) e ok low h = number_keeps notes floor note layout segment begun.0 (ap (effective notes) e) low h
note_keeps channel notes floor note layout (Load segment node) e ok low h =
    kept_as_is notes floor note (with_segments layout (rehome segment (homes_after_load node) layout.segments)) (ap (effective notes) e) (rehome_keeps notes floor layout segment (homes_after_load node) (λ homes is are. loaded_homes node homes are) h)
note_keeps channel notes floor note layout (Release segment node) e ok low h =
    let parts = and_parts (is_at layout segment (Node node)) (is_elsewhere layout segment node) ok in
    kept_as_is notes floor note (with_segments layout (rehome segment (homes_after_release node) layout.segments)) (ap (effective notes) e)
    (rehome_keeps notes floor layout segment (homes_after_release node) (λ homes is are. released_homes node homes are (subst (λ l. list_any (λ home. not (is_home (Node node) home)) l ≡ true) is parts.1)) h)
note_keeps channel notes floor note layout (Merge sources segment node) e ok low h =
    let parts = merge_allowed channel notes note.by layout sources segment node ok in
    kept_as_is notes floor note (after_merge notes note.by layout sources segment node) (ap (effective notes) e) (merge_keeps notes floor layout sources h note.by segment node parts.own)
note_keeps channel notes floor note layout _ e ok low h = kept_as_is notes floor note layout (ap (effective notes) e) h

floors_parts : (floor : ℕ) (xs : List Note) (note : Note) → FloorsUpTo floor (xs ++ note ∷ []) → FloorsUpTo floor xs × IsFloorUpTo floor note.kind
floors_parts floor [] note h = (tt, h.0)
floors_parts floor (x ∷ xs) note h = let rest = floors_parts floor xs note h.1 in ((h.0, rest.0), rest.1)

pub nothing_held : (channel : Channel) (floor : ℕ) → IsValid [] floor (layout_of channel [])
unfolding layout_of
nothing_held channel floor = record { rows = record { correct = λ x i. absurd i; cover = λ x put alive. cc; apart = λ p. omega arith }; segments = tt; tail = tt; begun = tt }

-- in every lawful journal, at every floor that no merge's floor is above
pub held : (channel : Channel) (floor : ℕ) (notes : List Note) → IsLawful channel notes → FloorsUpTo floor notes → IsValid notes floor (layout_of channel notes)
held channel floor = by_each (λ before note. is_lawful channel before note ≡ true) (λ notes. FloorsUpTo floor notes → IsValid notes floor (layout_of channel notes))
    (λ low. nothing_held channel floor)
    (λ xs note each ok h low.
    let parts = floors_parts floor xs note low in
    subst (IsValid (xs ++ note ∷ []) floor) (sym (layout-snoc channel xs note)) (note_keeps channel xs floor note (layout_of channel xs) note.kind refl ok parts.1 (h parts.0)))
