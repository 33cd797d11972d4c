-- The pieces of a channel: what each call makes of them, and what they keep.
use Rattle.std.proofs.Common.{◌≡◌, ◌≢◌, ℕ, zero, suc, ◌+◌, ◌^◌, ◌<◌, ◌≤◌, nat_eq, nat_lt, Bool, true, false, cond, List, [], ◌∷◌, ◌++◌, length, map, take, get_or, Option, Some, None, refl, sym, ap, ap₂, subst, ◌∙◌, ⊎_elim, eq-eqb, ne_eqb, append_assoc, append-nil, Result, Ok, Err, IfOk, OnErr, arith}
use Rattle.std.specs.List.{AllByRecursion, filter}
use Rattle.std.specs.List.Sorted.{IsNonDecreasingBy}
use Rattle.std.specs.Option.{option_map}
use Rattle.std.specs.Ordering.{nat_cmp, eq_by_cmp}
use Rattle.std.specs.Cmp.{nat_cmp_total, eq_by_cmp_equiv, Equal-is}
use Rattle.std.specs.FinMap as fin
use Rattle.std.proofs.lemmas.Bool.{cases_eq, eqb-true, eqb-false}
use Rattle.hybrid_time.specs.declared.times.Timestamp.{Timestamp}
use Rattle.row_types.specs.Bits.{IsDimension}
use Rattle.row_types.specs.declared.rows.Kind.{Kind}
use Rattle.log_model.specs.Places.{Placed, PlacedBefore, Rise}
use Rattle.journal_model.specs.declared.notes.Home.{Home}
use Rattle.journal_model.specs.declared.notes.Home.TheVariants.{Leader}
use Rattle.journal_model.specs.Views.{Shown}
use Rattle.seg_sealed.specs.Segments.{SealedSegment, IsSealed, IsRowOf, sealed_rows, dim_of, kinds_of, kind_of}
use Rattle.seg_sealed.specs.Marks.{Marked}
use Rattle.seg_sealed.specs.Parts.{SegmentPart, shown_from, shown_rows}
use Rattle.place_table.specs.Tables.{Placement, Table, at_leader, with_added, no_segments}
use Rattle.channel_pieces.specs.Pieces.{MarkedSegment, MarkedLayout, placed_of, marked_by, death_in, segment_marked, after_close, after_deaths, segment_in, is_at, numbers_at, places_of}
use Rattle.channel_pieces.specs.Fields.{Climb, Piece, MarkedTail, homes_of, homed, seen, Fits, IsPiece, rows_at, numbers_of, KeepsPieces, readied, committed, settled, tail_readied, tail_committed, piece_of}
use Rattle.channel_pieces.proofs.MarkLaws.{marked_alike}

abbrev pub Places : Type 0
Places = fin.FinMap nat_cmp Placement

-- ---- rows that fit

pub fits_push : (P : Shown → Type 0) (rows : List Shown) (s : Shown) → AllByRecursion P rows → P s → AllByRecursion P (rows ++ s ∷ [])
fits_push P [] s all one = (one, tt)
fits_push P (r ∷ rows) s all one = (all.0, fits_push P rows s all.1 one)

pub fits_marked : (dim : ℕ) (kinds : List Kind) (deaths : List (ℕ × Timestamp)) (rows : List Shown) → AllByRecursion (Fits dim kinds) rows → AllByRecursion (Fits dim kinds) (map (marked_by deaths) rows)
fits_marked dim kinds deaths [] all = tt
fits_marked dim kinds deaths (s ∷ rows) all = (all.0, fits_marked dim kinds deaths rows all.1)

fits_placed : (dim : ℕ) (kinds : List Kind) (rows : List Shown) → AllByRecursion (Fits dim kinds) rows → AllByRecursion (IsRowOf dim kinds) (map placed_of rows)
fits_placed dim kinds [] all = tt
fits_placed dim kinds (s ∷ rows) all = (all.0, fits_placed dim kinds rows all.1)

pub length-map_rows : {X Y : Type 0} (f : X → Y) (xs : List X) → length (map f xs) ≡ length xs
length-map_rows f [] = refl
length-map_rows f (x ∷ xs) = ap suc (length-map_rows f xs)

-- what is known of a tail that is sealed
pub record IsSealable (number dim : ℕ) (kinds : List Kind) (rows : List Shown) : Type 0 where
  pub sealed : IsSealed (sealed_rows number (map placed_of rows))
  pub dim_is : dim_of (map placed_of rows) ≡ dim
  pub kinds_are : kinds_of (map placed_of rows) ≡ kinds

pub sealable : (number dim : ℕ) (kinds : List Kind) (rows : List Shown) → number < 2 ^ 60 → IsDimension dim → length kinds ≤ 16 → 0 < length rows → length rows ≤ 65536 → Rise (map placed_of rows) → AllByRecursion (Fits dim kinds) rows
    → IsSealable number dim kinds rows
sealable number dim kinds [] low is width some few up fit = absurd (omega arith)
sealable number dim kinds (s ∷ rows) low is width some few up fit =
    let all : AllByRecursion (IsRowOf dim kinds) (map placed_of (s ∷ rows)) = fits_placed dim kinds (s ∷ rows) fit in
    let d : length s.row.vector ≡ dim = fit.0.vector in
    let k : map kind_of s.row.fields ≡ kinds = fit.0.fields in
    let count : length (map placed_of (s ∷ rows)) ≡ length (s ∷ rows) = length-map_rows placed_of (s ∷ rows) in
    record {
      sealed = record {
        number = low;
        dim = subst IsDimension (sym d) is;
        width = subst (λ (l : List Kind). length l ≤ 16) (sym k) width;
        some = omega arith;
        few = omega arith;
        rise = up;
        rows = subst (λ (n : ℕ). AllByRecursion (IsRowOf n (map kind_of s.row.fields)) (map placed_of (s ∷ rows))) (sym d) (subst (λ (l : List Kind). AllByRecursion (IsRowOf dim l) (map placed_of (s ∷ rows))) (sym k) all);
        lists = tt;
      };
      dim_is = d;
      kinds_are = k;
    }

-- rows before a row, seen with their marks or without them
pub before_shown : (marks : List (ℕ × ℕ)) (i : ℕ) (x : Placed) (rows : List Placed) → AllByRecursion (λ s. PlacedBefore (placed_of s) x) (shown_from marks i rows) → AllByRecursion (λ y. PlacedBefore y x) rows
before_shown marks i x [] all = tt
before_shown marks i x (y ∷ rows) all = (all.0, before_shown marks (suc i) x rows all.1)

-- ---- numbers

pub none_at : (places : Places) (number : ℕ) (pieces : List Piece) → AllByRecursion (λ s. s.number < number) (map (homed places) pieces) → rows_at pieces number ≡ None
none_at places number [] all = refl
none_at places number (s ∷ pieces) all =
    ap (λ b. cond b (Some (length s.rows)) (rows_at pieces number)) (ne_eqb s.number number (λ e. let h = all.0 in absurd (omega arith)))
    ∙ none_at places number pieces all.1

pub below_number : (places : Places) (number : ℕ) (pieces : List Piece) → AllByRecursion (λ s. s.number < number) (map (homed places) pieces) → AllByRecursion (λ n. n < number) (numbers_of pieces)
below_number places number [] all = tt
below_number places number (s ∷ pieces) all = (all.0, below_number places number pieces all.1)

pub absent : (o : Option Placement) → option_map (λ p. p.rows) o ≡ None → o ≡ None
absent None e = refl
absent (Some p) e = absurd (let h : Some p.rows ≡ None = e in cc)

pub climb_push : (ps : List ℕ) (p : ℕ) → Climb ps → AllByRecursion (λ n. n < p) ps → Climb (ps ++ p ∷ [])
climb_push [] p c all = (tt, tt)
climb_push (q ∷ ps) p c all = (go ps c.0, climb_push ps p c.1 all.1)
  where
    go : (rs : List ℕ) → AllByRecursion (λ r. q < r) rs → AllByRecursion (λ r. q < r) (rs ++ p ∷ [])
    go [] h = (all.0, tt)
    go (r ∷ rs) h = (h.0, go rs h.1)

numbers-push : (pieces : List Piece) (s : Piece) → numbers_of (pieces ++ s ∷ []) ≡ numbers_of pieces ++ s.number ∷ []
numbers-push [] s = refl
numbers-push (t ∷ pieces) s = ap (λ l. t.number ∷ l) (numbers-push pieces s)

-- ---- one segment more

same_of : (j k : ℕ) → eq_by_cmp nat_cmp j k ≡ true → j ≡ k
same_of j k e = fin.nat_cmp-IsAntisymmetric j k ((Equal-is (nat_cmp j k)).0 e)

pub get_same : (places : Places) (number : ℕ) (p : Placement) → fin.get (fin.insert places number p) number ≡ Some p
get_same places number p = fin.get-insert nat_cmp_total places number p number ∙ ap (λ b. cond b (Some p) (fin.get places number)) ((eq_by_cmp_equiv nat_cmp_total).refl number)

pub get_other : (places : Places) (number : ℕ) (p : Placement) (other : ℕ) → other ≢ number → fin.get (fin.insert places number p) other ≡ fin.get places other
get_other places number p other ne = fin.get-insert nat_cmp_total places number p other ∙ go (eq_by_cmp nat_cmp other number) refl
  where
    go : (b : Bool) → eq_by_cmp nat_cmp other number ≡ b → cond b (Some p) (fin.get places other) ≡ fin.get places other
    go true e = absurd (ne (same_of other number e))
    go false e = refl

homed_below : (places : Places) (number : ℕ) (p : Placement) (pieces : List Piece) → AllByRecursion (λ n. n < number) (numbers_of pieces) → map (homed (fin.insert places number p)) pieces ≡ map (homed places) pieces
homed_below places number p [] all = refl
homed_below places number p (s ∷ pieces) all =
    ap₂ (λ (hs : List Home) (l : List MarkedSegment). record { number = s.number; homes = hs; rows = s.rows } ∷ l) (ap homes_of (get_other places number p s.number (λ e. let h = all.0 in absurd (omega arith)))) (homed_below places number p pieces all.1)

homed-append : (places : Places) (xs ys : List Piece) → map (homed places) (xs ++ ys) ≡ map (homed places) xs ++ map (homed places) ys
homed-append places [] ys = refl
homed-append places (x ∷ xs) ys = ap (λ l. homed places x ∷ l) (homed-append places xs ys)

pub homed_push : (places : Places) (number rows : ℕ) (pieces : List Piece) (s : Piece) → AllByRecursion (λ n. n < number) (numbers_of pieces) → s.number ≡ number
    → map (homed (fin.insert places number (at_leader rows))) (pieces ++ s ∷ []) ≡ map (homed places) pieces ++ record { number = number; homes = Leader ∷ []; rows = s.rows } ∷ []
homed_push places number rows pieces s all e =
    homed-append (fin.insert places number (at_leader rows)) pieces (s ∷ [])
    ∙ ap₂ (λ (l : List MarkedSegment) m. l ++ m ∷ []) (homed_below places number (at_leader rows) pieces all)
    (ap₂ (λ (n : ℕ) (hs : List Home). record { number = n; homes = hs; rows = s.rows }) e (ap homes_of (ap (fin.get (fin.insert places number (at_leader rows))) e ∙ get_same places number (at_leader rows))))

rows_push : (pieces : List Piece) (s : Piece) (number : ℕ) → rows_at pieces s.number ≡ None → rows_at (pieces ++ s ∷ []) number ≡ cond (nat_eq s.number number) (Some (length s.rows)) (rows_at pieces number)
rows_push [] s number none = refl
rows_push (t ∷ pieces) s number none = go (nat_eq t.number s.number) refl (rows_push pieces s number)
  where
    some_none : {A : Type 0} (x : A) → Some x ≡ None → ⊥
    some_none x h = cc

    swap : (a b : Bool) → nat_eq t.number s.number ≡ false → nat_eq t.number number ≡ a → nat_eq s.number number ≡ b → cond a (Some (length t.rows)) (cond b (Some (length s.rows)) (rows_at pieces number)) ≡ cond b (Some (length s.rows)) (cond a (Some (length t.rows)) (rows_at pieces number))
    swap true true e f h = absurd (eqb-false t.number s.number e (eqb-true t.number number f ∙ sym (eqb-true s.number number h)))
    swap true false e f h = refl
    swap false true e f h = refl
    swap false false e f h = refl

    go : (b : Bool) → nat_eq t.number s.number ≡ b → (rows_at pieces s.number ≡ None → rows_at (pieces ++ s ∷ []) number ≡ cond (nat_eq s.number number) (Some (length s.rows)) (rows_at pieces number)) → rows_at ((t ∷ pieces) ++ s ∷ []) number ≡ cond (nat_eq s.number number) (Some (length s.rows)) (rows_at (t ∷ pieces) number)
    go true e rest = absurd (some_none (length t.rows) (sym (ap (λ b. cond b (Some (length t.rows)) (rows_at pieces s.number)) e) ∙ none))
    go false e rest =
        ap (cond (nat_eq t.number number) (Some (length t.rows))) (rest (sym (ap (λ b. cond b (Some (length t.rows)) (rows_at pieces s.number)) e) ∙ none))
        ∙ swap (nat_eq t.number number) (nat_eq s.number number) e refl refl

fits_all_push : (P : Piece → Type 0) (pieces : List Piece) (s : Piece) → AllByRecursion P pieces → P s → AllByRecursion P (pieces ++ s ∷ [])
fits_all_push P [] s all one = (one, tt)
fits_all_push P (t ∷ pieces) s all one = (all.0, fits_all_push P pieces s all.1 one)

pub close_keeps : (kinds : List Kind) (tail next : MarkedTail) (pieces : List Piece) (places : Table) (number rows : ℕ) (s : Piece)
    → KeepsPieces kinds tail pieces places → next.dim ≡ tail.dim → next.rows ≡ [] → AllByRecursion (λ n. n < number) (numbers_of pieces) → rows_at pieces number ≡ None
    → s.number ≡ number → s.dim ≡ tail.dim → s.kinds ≡ kinds → length s.rows ≡ rows
    → KeepsPieces kinds next (pieces ++ s ∷ []) (with_added places number rows)
close_keeps kinds tail next pieces places number rows s kept dim none below absent_one number_is dim_is kinds_are rows_are = record {
  dim = subst IsDimension (sym dim) kept.dim;
  width = kept.width;
  tail_fits = subst (AllByRecursion (Fits next.dim kinds)) (sym none) tt;
  pieces_fit = subst (λ (n : ℕ). AllByRecursion (IsPiece n kinds) (pieces ++ s ∷ [])) (sym dim) (fits_all_push (IsPiece tail.dim kinds) pieces s kept.pieces_fit (record { dim_is = dim_is; kinds_are = kinds_are }));
  rise = subst Climb (sym (numbers-push pieces s ∙ ap (λ (n : ℕ). numbers_of pieces ++ n ∷ []) number_is)) (climb_push (numbers_of pieces) number kept.rise below);
  placed = λ k. ⊎_elim
      (λ (e : k ≡ number).
      ap (λ n. option_map (λ p. p.rows) (fin.get (fin.insert places.segments number (at_leader rows)) n)) e ∙ ap (option_map (λ p. p.rows)) (get_same places.segments number (at_leader rows))
      ∙ ap (λ n. Some n) (sym rows_are)
      ∙ sym (rows_push pieces s k (ap (rows_at pieces) number_is ∙ absent_one) ∙ ap (λ b. cond b (Some (length s.rows)) (rows_at pieces k)) (eq-eqb s.number k (number_is ∙ sym e))))
      (λ (ne : k ≢ number).
      ap (option_map (λ p. p.rows)) (get_other places.segments number (at_leader rows) k ne) ∙ kept.placed k
      ∙ sym (rows_push pieces s k (ap (rows_at pieces) number_is ∙ absent_one) ∙ ap (λ b. cond b (Some (length s.rows)) (rows_at pieces k)) (ne_eqb s.number k (λ e. ne (sym e ∙ number_is)))))
      (cases_eq k number);
}

-- ---- pieces that are the same but for what is prepared

numbers_settled : (pieces : List Piece) → numbers_of pieces ≡ numbers_of (map settled pieces)
numbers_settled [] = refl
numbers_settled (s ∷ pieces) = ap (λ l. s.number ∷ l) (numbers_settled pieces)

rows_settled : (number : ℕ) (pieces : List Piece) → rows_at pieces number ≡ rows_at (map settled pieces) number
rows_settled number [] = refl
rows_settled number (s ∷ pieces) = ap (cond (nat_eq s.number number) (Some (length s.rows))) (rows_settled number pieces)

homed_settled : (places : Places) (pieces : List Piece) → map (homed places) pieces ≡ map (homed places) (map settled pieces)
homed_settled places [] = refl
homed_settled places (s ∷ pieces) = ap (λ l. homed places s ∷ l) (homed_settled places pieces)

fit_settled : (dim : ℕ) (kinds : List Kind) (pieces : List Piece) → AllByRecursion (IsPiece dim kinds) pieces → AllByRecursion (IsPiece dim kinds) (map settled pieces)
fit_settled dim kinds [] all = tt
fit_settled dim kinds (s ∷ pieces) all = (record { dim_is = all.0.dim_is; kinds_are = all.0.kinds_are }, fit_settled dim kinds pieces all.1)

fit_back : (dim : ℕ) (kinds : List Kind) (pieces : List Piece) → AllByRecursion (IsPiece dim kinds) (map settled pieces) → AllByRecursion (IsPiece dim kinds) pieces
fit_back dim kinds [] all = tt
fit_back dim kinds (s ∷ pieces) all = (record { dim_is = all.0.dim_is; kinds_are = all.0.kinds_are }, fit_back dim kinds pieces all.1)

pub same_homed : (places : Places) (xs ys : List Piece) → map settled ys ≡ map settled xs → map (homed places) ys ≡ map (homed places) xs
same_homed places xs ys e = homed_settled places ys ∙ ap (map (homed places)) e ∙ sym (homed_settled places xs)

pub settled_keeps : (kinds : List Kind) (tail next : MarkedTail) (xs ys : List Piece) (places : Table) → KeepsPieces kinds tail xs places → next.dim ≡ tail.dim → next.rows ≡ tail.rows → map settled ys ≡ map settled xs → KeepsPieces kinds next ys places
settled_keeps kinds tail next xs ys places kept dim rows e = record {
  dim = subst IsDimension (sym dim) kept.dim;
  width = kept.width;
  tail_fits = subst (λ (n : ℕ). AllByRecursion (Fits n kinds) next.rows) (sym dim) (subst (AllByRecursion (Fits tail.dim kinds)) (sym rows) kept.tail_fits);
  pieces_fit = subst (λ (n : ℕ). AllByRecursion (IsPiece n kinds) ys) (sym dim) (fit_back tail.dim kinds ys (subst (AllByRecursion (IsPiece tail.dim kinds)) (sym e) (fit_settled tail.dim kinds xs kept.pieces_fit)));
  rise = subst Climb (sym (numbers_settled ys ∙ ap numbers_of e ∙ sym (numbers_settled xs))) kept.rise;
  placed = λ k. kept.placed k ∙ rows_settled k xs ∙ ap (λ l. rows_at l k) (sym e) ∙ sym (rows_settled k ys);
}

-- ---- pieces after deaths

abbrev pub after : List (ℕ × Timestamp) → List Piece → List Piece
after deaths pieces = map committed (map (readied deaths) pieces)

numbers_after : (deaths : List (ℕ × Timestamp)) (pieces : List Piece) → numbers_of (after deaths pieces) ≡ numbers_of pieces
numbers_after deaths [] = refl
numbers_after deaths (s ∷ pieces) = ap (λ l. s.number ∷ l) (numbers_after deaths pieces)

rows_after : (deaths : List (ℕ × Timestamp)) (number : ℕ) (pieces : List Piece) → rows_at (after deaths pieces) number ≡ rows_at pieces number
rows_after deaths number [] = refl
rows_after deaths number (s ∷ pieces) = ap₂ (λ (n : ℕ) (o : Option ℕ). cond (nat_eq s.number number) (Some n) o) (length-map_rows (marked_by deaths) s.rows) (rows_after deaths number pieces)

fit_after : (dim : ℕ) (kinds : List Kind) (deaths : List (ℕ × Timestamp)) (pieces : List Piece) → AllByRecursion (IsPiece dim kinds) pieces → AllByRecursion (IsPiece dim kinds) (after deaths pieces)
fit_after dim kinds deaths [] all = tt
fit_after dim kinds deaths (s ∷ pieces) all = (record { dim_is = all.0.dim_is; kinds_are = all.0.kinds_are }, fit_after dim kinds deaths pieces all.1)

pub marked_keeps : (kinds : List Kind) (tail : MarkedTail) (pieces : List Piece) (places : Table) (deaths : List (ℕ × Timestamp)) → KeepsPieces kinds tail pieces places → KeepsPieces kinds (tail_committed (tail_readied deaths tail)) (after deaths pieces) places
marked_keeps kinds tail pieces places deaths kept = record {
  dim = kept.dim;
  width = kept.width;
  tail_fits = fits_marked tail.dim kinds deaths tail.rows kept.tail_fits;
  pieces_fit = fit_after tail.dim kinds deaths pieces kept.pieces_fit;
  rise = subst Climb (sym (numbers_after deaths pieces)) kept.rise;
  placed = λ k. kept.placed k ∙ sym (rows_after deaths k pieces);
}

homed_after : (places : Places) (sorted deaths : List (ℕ × Timestamp)) (pieces : List Piece) → ((position : ℕ) → death_in sorted position ≡ death_in deaths position) → map (homed places) (after sorted pieces) ≡ map (segment_marked deaths) (map (homed places) pieces)
homed_after places sorted deaths [] same = refl
homed_after places sorted deaths (s ∷ pieces) same = ap₂ (λ (rows : List Shown) (l : List MarkedSegment). record { number = s.number; homes = homes_of (fin.get places s.number); rows = rows } ∷ l) (marked_alike sorted deaths s.rows same) (homed_after places sorted deaths pieces same)

pub marked_seen : (kinds : List Kind) (tail : MarkedTail) (pieces : List Piece) (places : Table) (sorted deaths : List (ℕ × Timestamp)) → ((position : ℕ) → death_in sorted position ≡ death_in deaths position)
    → seen kinds (tail_committed (tail_readied sorted tail)) (after sorted pieces) places ≡ after_deaths deaths (seen kinds tail pieces places)
marked_seen kinds tail pieces places sorted deaths same = ap₂ (λ (rows : List Shown) (l : List MarkedSegment). record { dim = tail.dim; kinds = kinds; nodes = places.nodes; tail = rows; segments = l }) (marked_alike sorted deaths tail.rows same) (homed_after places.segments sorted deaths pieces same)

pub marking_keeps : (kinds : List Kind) (tail next : MarkedTail) (pieces after_all : List Piece) (places : Table) (sorted : List (ℕ × Timestamp)) → KeepsPieces kinds tail pieces places → next ≡ tail_committed (tail_readied sorted tail) → after_all ≡ after sorted pieces → KeepsPieces kinds next after_all places
marking_keeps kinds tail next pieces after_all places sorted kept t p =
    subst (λ (m : MarkedTail). KeepsPieces kinds m after_all places) (sym t) (subst (λ (l : List Piece). KeepsPieces kinds (tail_committed (tail_readied sorted tail)) l places) (sym p) (marked_keeps kinds tail pieces places sorted kept))

pub marking_seen : (kinds : List Kind) (tail next : MarkedTail) (pieces after_all : List Piece) (places : Table) (sorted deaths : List (ℕ × Timestamp)) → next ≡ tail_committed (tail_readied sorted tail) → after_all ≡ after sorted pieces → ((position : ℕ) → death_in sorted position ≡ death_in deaths position)
    → seen kinds next after_all places ≡ after_deaths deaths (seen kinds tail pieces places)
marking_seen kinds tail next pieces after_all places sorted deaths t p same = ap₂ (λ (m : MarkedTail) (l : List Piece). seen kinds m l places) t p ∙ marked_seen kinds tail pieces places sorted deaths same

abbrev made : List Kind → ℕ → ℕ → List Shown → List MarkedSegment → MarkedLayout
made kinds nodes dim rows segments = record { dim = dim; kinds = kinds; nodes = nodes; tail = rows; segments = segments }

pub same_seen : (kinds : List Kind) (tail next : MarkedTail) (xs ys : List Piece) (places : Table) → next.dim ≡ tail.dim → next.rows ≡ tail.rows → map settled ys ≡ map settled xs → seen kinds next ys places ≡ seen kinds tail xs places
same_seen kinds tail next xs ys places dim rows e =
    ap₂ (λ (n : ℕ) (r : List Shown). made kinds places.nodes n r (map (homed places.segments) ys)) dim rows ∙ ap (made kinds places.nodes tail.dim tail.rows) (same_homed places.segments xs ys e)

-- ---- a tail that was closed

-- what is known of the piece that a tail became
pub record IsClosed (number : ℕ) (kinds : List Kind) (tail : MarkedTail) (s : Piece) : Type 0 where
  pub number_is : s.number ≡ number
  pub dim_is : s.dim ≡ tail.dim
  pub kinds_are : s.kinds ≡ kinds
  pub rows_are : s.rows ≡ tail.rows

pub closed : (number : ℕ) (kinds : List Kind) (tail : MarkedTail) (sealed : SealedSegment) (marks : Marked) (s : Piece) → IsSealable number tail.dim kinds tail.rows → s ≡ piece_of sealed marks None → sealed ≡ sealed_rows number (map placed_of tail.rows)
    → shown_from marks.deaths 0 (map placed_of tail.rows) ≡ tail.rows → IsClosed number kinds tail s
closed number kinds tail sealed marks s able is rows shown = record {
  number_is = ap (λ (p : Piece). p.number) is ∙ ap (λ (x : SealedSegment). x.number) rows;
  dim_is = ap (λ (p : Piece). p.dim) is ∙ ap (λ (x : SealedSegment). x.dim) rows ∙ able.dim_is;
  kinds_are = ap (λ (p : Piece). p.kinds) is ∙ ap (λ (x : SealedSegment). x.kinds) rows ∙ able.kinds_are;
  rows_are = ap (λ (p : Piece). p.rows) is ∙ ap (λ (x : SealedSegment). shown_from marks.deaths 0 x.rows) rows ∙ shown;
}

-- what is known before and after
pub record IsClosing (kinds : List Kind) (tail next : MarkedTail) (pieces : List Piece) (places : Table) (number rows : ℕ) (s : Piece) : Type 0 where
  pub kept : KeepsPieces kinds tail pieces places
  pub above : AllByRecursion (λ m. m.number < number) (map (homed places.segments) pieces)
  pub dim : next.dim ≡ tail.dim
  pub none : next.rows ≡ []
  pub rows_are : length tail.rows ≡ rows
  pub closed_is : IsClosed number kinds tail s

pub closing_keeps : (kinds : List Kind) (tail next : MarkedTail) (pieces more : List Piece) (places after_all : Table) (number rows : ℕ) (s : Piece) → IsClosing kinds tail next pieces places number rows s → more ≡ pieces ++ s ∷ [] → after_all ≡ with_added places number rows → KeepsPieces kinds next more after_all
closing_keeps kinds tail next pieces more places after_all number rows s h p t =
    subst (λ (l : List Piece). KeepsPieces kinds next l after_all) (sym p) (subst (λ (m : Table). KeepsPieces kinds next (pieces ++ s ∷ []) m) (sym t)
    (close_keeps kinds tail next pieces places number rows s h.kept h.dim h.none (below_number places.segments number pieces h.above) (none_at places.segments number pieces h.above)
    h.closed_is.number_is h.closed_is.dim_is h.closed_is.kinds_are (ap length h.closed_is.rows_are ∙ h.rows_are)))

pub closing_seen : (kinds : List Kind) (tail next : MarkedTail) (pieces more : List Piece) (places after_all : Table) (number rows : ℕ) (s : Piece) → IsClosing kinds tail next pieces places number rows s → more ≡ pieces ++ s ∷ [] → after_all ≡ with_added places number rows
    → seen kinds next more after_all ≡ after_close number (seen kinds tail pieces places)
closing_seen kinds tail next pieces more places after_all number rows s h p t =
    ap₂ (λ (l : List Piece) (m : Table). seen kinds next l m) p t
    ∙ ap₂ (λ (n : ℕ) (r : List Shown). made kinds places.nodes n r (map (homed (with_added places number rows).segments) (pieces ++ s ∷ []))) h.dim h.none
    ∙ ap (made kinds places.nodes tail.dim []) (homed_push places.segments number rows pieces s (below_number places.segments number pieces h.above) h.closed_is.number_is
    ∙ ap (λ (r : List Shown). map (homed places.segments) pieces ++ record { number = number; homes = Leader ∷ []; rows = r } ∷ []) h.closed_is.rows_are)

-- ---- parts

pub if_ok : {T E : Type 0} (r : Result T E) (P Q : T → Type 0) → ((x : T) → P x → Q x) → IfOk r P → IfOk r Q
if_ok (Ok x) P Q f p = f x p
if_ok (Err e) P Q f p = tt

pub if_err : {T E : Type 0} (r : Result T E) (P : Type 0) → P → OnErr r P
if_err (Ok x) P p = tt
if_err (Err e) P p = p

pub places_more : (places : Places) (pieces : List Piece) (i : ℕ) (s : Piece) → i < length pieces → get_or pieces i s ≡ s → places_of (map (homed places) (take i pieces)) ++ map (λ home. s.rows) (homed places s).homes ≡ places_of (map (homed places) (take (i + 1) pieces))
places_more places [] i s lt is = absurd (omega arith)
places_more places (p ∷ pieces) zero s lt is = ap (λ (q : Piece). map (λ home. q.rows) (homed places q).homes) (sym is) ∙ sym (append-nil (map (λ home. p.rows) (homed places p).homes))
places_more places (p ∷ pieces) (suc i) s lt is =
    let e : suc i + 1 ≡ suc (i + 1) = omega arith in
    append_assoc (map (λ home. p.rows) (homed places p).homes) (places_of (map (homed places) (take i pieces))) (map (λ home. s.rows) (homed places s).homes)
    ∙ ap (λ l. map (λ home. p.rows) (homed places p).homes ++ l) (places_more places pieces i s (omega arith) is)
    ∙ ap (λ n. places_of (map (homed places) (take n (p ∷ pieces)))) (sym e)

pub fits_at : (P : Piece → Type 0) (pieces : List Piece) (i : ℕ) (s : Piece) → AllByRecursion P pieces → i < length pieces → get_or pieces i s ≡ s → P s
fits_at P [] i s all lt is = absurd (omega arith)
fits_at P (p ∷ pieces) zero s all lt is = subst P is all.0
fits_at P (p ∷ pieces) (suc i) s all lt is = fits_at P pieces i s all.1 (omega arith) is

pub new_keeps : (dim : ℕ) (kinds : List Kind) (nodes : ℕ) (tail : MarkedTail) (pieces : List Piece) (places : Table) → IsDimension dim → length kinds ≤ 16 → tail.dim ≡ dim → tail.rows ≡ [] → pieces ≡ [] → places ≡ no_segments nodes → KeepsPieces kinds tail pieces places
new_keeps dim kinds nodes tail pieces places is width d none empty e = record {
  dim = subst IsDimension (sym d) is;
  width = width;
  tail_fits = subst (AllByRecursion (Fits tail.dim kinds)) (sym none) tt;
  pieces_fit = subst (AllByRecursion (IsPiece tail.dim kinds)) (sym empty) tt;
  rise = subst (λ (l : List Piece). Climb (numbers_of l)) (sym empty) tt;
  placed = λ k. ap (λ (t : Table). option_map (λ p. p.rows) (fin.get t.segments k)) e ∙ ap (option_map (λ p. p.rows)) (fin.get-empty nat_cmp k) ∙ ap (λ (l : List Piece). rows_at l k) (sym empty);
}

pub parts_push : (parts old : List SegmentPart) (homes : List Home) (k : ℕ) (rows : List Shown) (part : SegmentPart) (home : Home) → map shown_rows parts ≡ map shown_rows old ++ map (λ (h : Home). rows) (take k homes) → k < length homes → shown_rows part ≡ rows
    → map shown_rows (parts ++ part ∷ []) ≡ map shown_rows old ++ map (λ (h : Home). rows) (take (k + 1) homes)
parts_push parts old homes k rows part home done lt is =
    shown_append parts
    ∙ ap₂ (λ (l : List (List Shown)) (r : List Shown). l ++ r ∷ []) done is
    ∙ append_assoc (map shown_rows old) (map (λ (h : Home). rows) (take k homes)) (rows ∷ [])
    ∙ ap (λ (l : List (List Shown)). map shown_rows old ++ l) (homes_more homes k lt)
  where
    shown_append : (xs : List SegmentPart) → map shown_rows (xs ++ part ∷ []) ≡ map shown_rows xs ++ shown_rows part ∷ []
    shown_append [] = refl
    shown_append (x ∷ xs) = ap (λ (l : List (List Shown)). shown_rows x ∷ l) (shown_append xs)

    homes_more : (hs : List Home) (j : ℕ) → j < length hs → map (λ (h : Home). rows) (take j hs) ++ rows ∷ [] ≡ map (λ (h : Home). rows) (take (j + 1) hs)
    homes_more [] j h = absurd (omega arith)
    homes_more (g ∷ hs) zero h = refl
    homes_more (g ∷ hs) (suc j) h = ap (λ (l : List (List Shown)). rows ∷ l) (homes_more hs j (omega arith)) ∙ ap (λ n. map (λ (h : Home). rows) (take n (g ∷ hs))) (let e : suc (j + 1) ≡ suc j + 1 = omega arith in e)

pub all_push : {X : Type 0} (P : X → Type 0) (xs : List X) (x : X) → AllByRecursion P xs → P x → AllByRecursion P (xs ++ x ∷ [])
all_push P [] x all one = (one, tt)
all_push P (y ∷ xs) x all one = (all.0, all_push P xs x all.1 one)

-- ---- looking a piece up

pub pieces_order : (pieces : List Piece) → Climb (numbers_of pieces) → IsNonDecreasingBy (λ (s : Piece). s.number) pieces
pieces_order [] c i j d le lt = absurd (omega arith)
pieces_order (s ∷ pieces) c zero zero d le lt = omega arith
pieces_order (s ∷ pieces) c zero (suc j) d le lt = let h = above s.number pieces j c.0 (omega arith) in omega arith
  where
    above : (n : ℕ) (ps : List Piece) (k : ℕ) → AllByRecursion (λ q. n < q) (numbers_of ps) → k < length ps → n < (get_or ps k d).number
    above n [] k all h = absurd (omega arith)
    above n (p ∷ ps) zero all h = all.0
    above n (p ∷ ps) (suc k) all h = above n ps k all.1 (omega arith)
pieces_order (s ∷ pieces) c (suc i) zero d le lt = absurd (omega arith)
pieces_order (s ∷ pieces) c (suc i) (suc j) d le lt = pieces_order pieces c.1 i j d (omega arith) (omega arith)

pub numbers_below : (pieces : List Piece) (n number : ℕ) → n ≤ length pieces → ((k : ℕ) (d : Piece) → k < n → nat_lt (get_or pieces k d).number number ≡ true) → AllByRecursion (λ s. s.number < number) (take n pieces)
numbers_below pieces zero number le h = tt
numbers_below [] (suc n) number le h = tt
numbers_below (s ∷ pieces) (suc n) number le h = (let f = h 0 s (omega arith) in is_below s.number number f, numbers_below pieces n number (omega arith) (λ k d lt. h (suc k) d (omega arith)))
  where
    is_below : (a b : ℕ) → nat_lt a b ≡ true → a < b
    is_below a b f = grind arith

rows_above : (pieces : List Piece) (number low : ℕ) → number < low → AllByRecursion (λ n. low < n) (numbers_of pieces) → rows_at pieces number ≡ None
rows_above [] number low lt all = refl
rows_above (s ∷ pieces) number low lt all = ap (λ b. cond b (Some (length s.rows)) (rows_at pieces number)) (ne_eqb s.number number (λ e. let h = all.0 in absurd (omega arith))) ∙ rows_above pieces number low lt all.1

pub rows_missing : (pieces : List Piece) (at number : ℕ) (d : Piece) → AllByRecursion (λ s. s.number < number) (take at pieces) → (at < length pieces → number < (get_or pieces at d).number) → Climb (numbers_of pieces) → rows_at pieces number ≡ None
rows_missing [] at number d below here c = refl
rows_missing (s ∷ pieces) zero number d below here c =
    let lt : number < s.number = here (omega arith) in
    ap (λ b. cond b (Some (length s.rows)) (rows_at pieces number)) (ne_eqb s.number number (λ e. absurd (omega arith))) ∙ rows_above pieces number s.number lt c.0
rows_missing (s ∷ pieces) (suc at) number d below here c =
    ap (λ b. cond b (Some (length s.rows)) (rows_at pieces number)) (ne_eqb s.number number (λ e. let h = below.0 in absurd (omega arith))) ∙ rows_missing pieces at number d below.1 (λ lt. here (omega arith)) c.1

pub segment_missing : (places : Places) (pieces : List Piece) (number : ℕ) → rows_at pieces number ≡ None → segment_in (map (homed places) pieces) number ≡ None
segment_missing places [] number e = refl
segment_missing places (s ∷ pieces) number e = go (nat_eq s.number number) refl (segment_missing places pieces number)
  where
    some_none : {A : Type 0} (x : A) → Some x ≡ None → ⊥
    some_none x h = cc

    go : (b : Bool) → nat_eq s.number number ≡ b → (rows_at pieces number ≡ None → segment_in (map (homed places) pieces) number ≡ None) → segment_in (map (homed places) (s ∷ pieces)) number ≡ None
    go true f rest = absurd (some_none (length s.rows) (sym (ap (λ b. cond b (Some (length s.rows)) (rows_at pieces number)) f) ∙ e))
    go false f rest = ap (λ b. cond b (Some (homed places s)) (segment_in (map (homed places) pieces) number)) f ∙ rest (sym (ap (λ b. cond b (Some (length s.rows)) (rows_at pieces number)) f) ∙ e)

pub segment_found : (places : Places) (pieces : List Piece) (at number : ℕ) (s : Piece) → Climb (numbers_of pieces) → at < length pieces → get_or pieces at s ≡ s → s.number ≡ number → segment_in (map (homed places) pieces) number ≡ Some (homed places s)
segment_found places [] at number s c lt is e = absurd (omega arith)
segment_found places (p ∷ pieces) zero number s c lt is e = ap (λ b. cond b (Some (homed places p)) (segment_in (map (homed places) pieces) number)) (eq-eqb p.number number (ap (λ (q : Piece). q.number) is ∙ e)) ∙ ap (λ (q : Piece). Some (homed places q)) is
segment_found places (p ∷ pieces) (suc at) number s c lt is e =
    let h = above p.number pieces at c.0 (omega arith) in
    let g : (get_or pieces at s).number ≡ number = ap (λ (q : Piece). q.number) is ∙ e in
    ap (λ b. cond b (Some (homed places p)) (segment_in (map (homed places) pieces) number)) (ne_eqb p.number number (λ f. absurd (omega arith))) ∙ segment_found places pieces at number s c.1 (omega arith) is e
  where
    above : (n : ℕ) (ps : List Piece) (k : ℕ) → AllByRecursion (λ q. n < q) (numbers_of ps) → k < length ps → n < (get_or ps k s).number
    above n [] k all h = absurd (omega arith)
    above n (q ∷ ps) zero all h = all.0
    above n (q ∷ ps) (suc k) all h = above n ps k all.1 (omega arith)

pub numbers_more : (places : Places) (home : Home) (pieces : List Piece) (k : ℕ) (s : Piece) → k < length pieces → get_or pieces k s ≡ s → numbers_at home (map (homed places) (take (k + 1) pieces)) ≡ numbers_at home (map (homed places) (take k pieces)) ++ cond (is_at home (homed places s)) (s.number ∷ []) []
numbers_more places home [] k s lt is = absurd (omega arith)
numbers_more places home (p ∷ pieces) zero s lt is = ap (λ (q : Piece). numbers_at home (homed places q ∷ [])) is ∙ one (is_at home (homed places s))
  where
    one : (b : Bool) → map (λ (m : MarkedSegment). m.number) (cond b (homed places s ∷ []) []) ≡ cond b (s.number ∷ []) []
    one true = refl
    one false = refl
numbers_more places home (p ∷ pieces) (suc k) s lt is =
    let e : suc k + 1 ≡ suc (k + 1) = omega arith in
    ap (λ n. numbers_at home (map (homed places) (take n (p ∷ pieces)))) e ∙ step (is_at home (homed places p)) (numbers_more places home pieces k s (omega arith) is)
  where
    step : (b : Bool) → numbers_at home (map (homed places) (take (k + 1) pieces)) ≡ numbers_at home (map (homed places) (take k pieces)) ++ cond (is_at home (homed places s)) (s.number ∷ []) []
        → map (λ (m : MarkedSegment). m.number) (cond b (homed places p ∷ filter (is_at home) (map (homed places) (take (k + 1) pieces))) (filter (is_at home) (map (homed places) (take (k + 1) pieces))))
        ≡ map (λ (m : MarkedSegment). m.number) (cond b (homed places p ∷ filter (is_at home) (map (homed places) (take k pieces))) (filter (is_at home) (map (homed places) (take k pieces)))) ++ cond (is_at home (homed places s)) (s.number ∷ []) []
    step true rest = ap (λ l. p.number ∷ l) rest
    step false rest = rest
