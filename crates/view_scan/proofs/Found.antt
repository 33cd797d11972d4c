-- A row of a key in rows, one list of rows after another.
use Rattle.std.proofs.Common.{◌≡◌, ◌≢◌, ◌⊎◌, inl, inr, ℕ, ℤ, zero, suc, ◌+◌, ◌<◌, ◌≤◌, Bool, true, false, ◌&&◌, List, [], ◌∷◌, ◌++◌, length, map, take, slice_get, Option, Some, None, refl, sym, ap, subst, ◌∙◌, add-one, append-nil, append_assoc, arith}
use Rattle.std.proofs.lemmas.Bool.{false≢true}
use Rattle.std.proofs.lemmas.Bool.Decides.{Decides-int_eq}
use Rattle.std.specs.List.{AllByRecursion}
use Rattle.std.specs.Ordering.{int_eq}
use Rattle.std.specs.Option.{option_map}
use Rattle.std.specs.FinMap as fin
use Rattle.row_types.specs.declared.rows.Row.{Row}
use Rattle.log_model.specs.Logs.{live}
use Rattle.log_model.specs.Places.{Placed}
use Rattle.journal_model.specs.declared.notes.Note.{Note}
use Rattle.journal_model.specs.Notes.{log_of}
use Rattle.journal_model.specs.Journals.{IsJournal}
use Rattle.journal_model.specs.Lists.{IsIn, joined}
use Rattle.journal_model.specs.Views.{Shown, View, is_visible, IsExact}
use Rattle.view_laws.proofs.Shows.{exact_stays, is_live, not_live}
use Rattle.row_types.specs.declared.rows.Kind.{Kind}
use Rattle.seg_sealed.specs.Segments.{IsRowOf}
use Rattle.seg_sealed.specs.Parts.{SegmentPart, shown_from, shown_rows}
use Rattle.flat_scan.specs.KeyPlaces.{shows_key}
use Rattle.view_scan.specs.Lookups.{IsRowSeen}
use Rattle.view_scan.specs.Searches.{HaveVectorsOf}

some_same : {A : Type 0} (x y : A) → Some x ≡ Some y → x ≡ y
some_same x y e = cc

none_some : {A : Type 0} (x : A) → None ≡ Some x → ⊥
none_some x e = cc

-- ---- elements

in_front : {X : Type 0} (x : X) (xs ys : List X) → IsIn x xs → IsIn x (xs ++ ys)
in_front x [] ys h = absurd h
in_front x (y ∷ xs) ys (inl e) = inl e
in_front x (y ∷ xs) ys (inr h) = inr (in_front x xs ys h)

in_back : {X : Type 0} (x : X) (xs ys : List X) → IsIn x ys → IsIn x (xs ++ ys)
in_back x [] ys h = h
in_back x (y ∷ xs) ys h = inr (in_back x xs ys h)

in_either : {X : Type 0} (x : X) (xs ys : List X) → IsIn x (xs ++ ys) → IsIn x xs ⊎ IsIn x ys
in_either x [] ys h = inr h
in_either x (y ∷ xs) ys (inl e) = inl (inl e)
in_either x (y ∷ xs) ys (inr h) = by (in_either x xs ys h)
  where
    by : IsIn x xs ⊎ IsIn x ys → IsIn x (y ∷ xs) ⊎ IsIn x ys
    by (inl h) = inl (inr h)
    by (inr h) = inr h

in_at : (rows : List Shown) (i : ℕ) (s : Shown) → slice_get rows i ≡ Some s → IsIn s rows
in_at [] i s e = absurd (none_some s e)
in_at (x ∷ rows) zero s e = inl (sym (some_same x s e))
in_at (x ∷ rows) (suc i) s e = inr (in_at rows i s e)

all_in : (P : Shown → Type 0) (rows : List Shown) (s : Shown) → AllByRecursion P rows → IsIn s rows → P s
all_in P [] s a h = absurd h
all_in P (x ∷ rows) s a (inl e) = subst P (sym e) a.0
all_in P (x ∷ rows) s a (inr h) = all_in P rows s a.1 h

-- ---- rows that show a key

both_true : (a b : Bool) → a && b ≡ true → (a ≡ true) × (b ≡ true)
both_true true b e = (refl, e)
both_true false b e = cc

first_false : (a b : Bool) → a && b ≡ false → b ≡ true → a ≡ false
first_false true b e f = cc
first_false false b e f = refl

-- a row at its place is seen
pub seen_at : (ts : ℕ) (key : ℤ) (rows : List Shown) (i : ℕ) (s : Shown) (row : Row) → slice_get rows i ≡ Some s → shows_key ts key s ≡ true → s.row ≡ row → IsRowSeen ts key rows (Some row)
seen_at ts key rows i s row there shows same =
    let both = both_true (int_eq s.row.key.0 key) (is_visible ts s) shows in
    let key_is : s.row.key.0 ≡ key = (Decides-int_eq s.row.key.0 key).0 both.0 in
    (subst (λ (r : Row). r.key.0 ≡ key) same key_is, (s, in_at rows i s there, both.1, same))

-- where no row shows the key, none is seen
pub none_seen : (ts : ℕ) (key : ℤ) (rows : List Shown) → AllByRecursion (λ s. shows_key ts key s ≡ false) rows → IsRowSeen ts key rows None
none_seen ts key rows none = λ s h visible same.
    let apart : int_eq s.row.key.0 key ≡ false = first_false (int_eq s.row.key.0 key) (is_visible ts s) (all_in (λ x. shows_key ts key x ≡ false) rows s none h) visible in
    false≢true (sym apart ∙ (Decides-int_eq s.row.key.0 key).1 same)

-- ---- one list after another

pub seen_front : (ts : ℕ) (key : ℤ) (rows more : List Shown) (row : Row) → IsRowSeen ts key rows (Some row) → IsRowSeen ts key (rows ++ more) (Some row)
seen_front ts key rows more row h = (h.0, (h.1.0, in_front h.1.0 rows more h.1.1, h.1.2, h.1.3))

pub seen_behind : (ts : ℕ) (key : ℤ) (rows more : List Shown) (found : Option Row) → IsRowSeen ts key rows None → IsRowSeen ts key more found → IsRowSeen ts key (rows ++ more) found
seen_behind ts key rows more None none h = λ s there visible. by s visible (in_either s rows more there)
  where
    by : (s : Shown) → is_visible ts s ≡ true → IsIn s rows ⊎ IsIn s more → s.row.key.0 ≢ key
    by s visible (inl here) = none s here visible
    by s visible (inr here) = h s here visible
seen_behind ts key rows more (Some row) none h = (h.0, (h.1.0, in_back h.1.0 rows more h.1.1, h.1.2, h.1.3))

-- ---- places

pub within : (deaths : List (ℕ × ℕ)) (from : ℕ) (rows : List Placed) (i : ℕ) (s : Shown) → slice_get (shown_from deaths from rows) i ≡ Some s → i < length rows
within deaths from [] i s e = absurd (none_some s e)
within deaths from (x ∷ rows) zero s e = omega arith
within deaths from (x ∷ rows) (suc i) s e = omega (arith, within deaths (suc from) rows i s e)

pub row_same : (deaths : List (ℕ × ℕ)) (from : ℕ) (rows : List Placed) (i : ℕ) (s : Shown) (row : Row) → slice_get (shown_from deaths from rows) i ≡ Some s → option_map (λ (x : Placed). x.row) (slice_get rows i) ≡ Some row → s.row ≡ row
row_same deaths from [] i s row e f = absurd (none_some s e)
row_same deaths from (x ∷ rows) zero s row e f = sym (ap (λ (t : Shown). t.row) (some_same _ s e)) ∙ some_same x.row row f
row_same deaths from (x ∷ rows) (suc i) s row e f = row_same deaths (suc from) rows i s row e f

-- ---- parts

pub joined-next : (parts : List SegmentPart) (i : ℕ) (part : SegmentPart) → slice_get parts i ≡ Some part → joined (map shown_rows (take (i + 1) parts)) ≡ joined (map shown_rows (take i parts)) ++ shown_rows part
joined-next parts i part e = rw add-one (one parts i e)
  where
    one : (parts : List SegmentPart) (i : ℕ) → slice_get parts i ≡ Some part → joined (map shown_rows (take (suc i) parts)) ≡ joined (map shown_rows (take i parts)) ++ shown_rows part
    one [] i e = absurd (none_some part e)
    one (p ∷ parts) zero e = append-nil (shown_rows p) ∙ ap shown_rows (some_same p part e)
    one (p ∷ parts) (suc i) e = ap (λ l. shown_rows p ++ l) (one parts i e) ∙ sym (append_assoc (shown_rows p) (joined (map shown_rows (take i parts))) (shown_rows part))

in_parts : (parts : List SegmentPart) (i : ℕ) (part : SegmentPart) (s : Shown) → slice_get parts i ≡ Some part → IsIn s (shown_rows part) → IsIn s (joined (map shown_rows parts))
in_parts [] i part s e h = absurd (none_some part e)
in_parts (p ∷ parts) zero part s e h = in_front s (shown_rows p) (joined (map shown_rows parts)) (subst (λ (q : SegmentPart). IsIn s (shown_rows q)) (sym (some_same p part e)) h)
in_parts (p ∷ parts) (suc i) part s e h = in_back s (shown_rows p) (joined (map shown_rows parts)) (in_parts parts i part s e h)

pub seen_part : (ts : ℕ) (key : ℤ) (parts : List SegmentPart) (i : ℕ) (part : SegmentPart) (row : Row) → slice_get parts i ≡ Some part → IsRowSeen ts key (shown_rows part) (Some row) → IsRowSeen ts key (joined (map shown_rows parts)) (Some row)
seen_part ts key parts i part row e h = (h.0, (h.1.0, in_parts parts i part h.1.0 e h.1.1, h.1.2, h.1.3))

pub dim_same : (dim other : ℕ) (kinds : List Kind) (rows : List Placed) → 1 ≤ length rows → AllByRecursion (IsRowOf other kinds) rows → HaveVectorsOf dim rows → dim ≡ other
dim_same dim other kinds [] some own fit = absurd (omega (arith, some))
dim_same dim other kinds (x ∷ rows) some own fit = sym fit.0 ∙ own.0.vector

-- ---- what is seen in an exact view is what is live

pub seen_live : (view : View) (ts : ℕ) (key : ℤ) (found : Option Row) (notes more : List Note) → view.floor ≤ ts → ts ≤ view.tick → IsRowSeen ts key (joined view.parts) found → IsExact notes view → IsJournal (notes ++ more)
    → fin.get (live (log_of (notes ++ more)) ts) key ≡ found
seen_live view ts key None notes more low high none exact journal =
    not_live (notes ++ more) view ts key (exact_stays notes more view exact journal) low high
    (λ row seen same. none seen.0 seen.1 seen.2 (ap (λ (r : Row). r.key.0) seen.3 ∙ same))
seen_live view ts key (Some row) notes more low high h exact journal =
    subst (λ k. fin.get (live (log_of (notes ++ more)) ts) k ≡ Some row) h.0 (is_live (notes ++ more) view ts row (exact_stays notes more view exact journal) low high h.1)
