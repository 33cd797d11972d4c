-- Reading the row numbers of lists, with a mark for each row that stood before.
use Rattle.std.proofs.Common.{◌≡◌, ℕ, ◌-◌, ◌+◌, ◌≤◌, ◌<◌, Bool, true, false, not, cond, ltb, ◌||◌, List, [], ◌∷◌, ◌++◌, length, get_or, set, take, drop, nat_eq, Option, None, Some, Result, Ok, Err, refl, sym, ap, subst, ◌∙◌, append_assoc, arith, inl, inr, add-one, zero-add, replicate}
use Rattle.std.specs.Int.{w32}
use Rattle.std.specs.Prelude.{sum}
use Rattle.std.specs.List.{concat, AllByRecursion}
use Rattle.std.proofs.lemmas.Bool.{cases_lt, cases_eq, ne_eqb, eq-eqb, lt-ltb, le-ltb, le-leb, lt-leb}
use Rattle.std.proofs.Math.Bool.{or_assoc, or-true}
use Rattle.std.proofs.Math.Nat.{sub-zero}
use Rattle.std.proofs.lemmas.List.{append-nil, length-set, get_or-set_same, get_or-set_other, length-append, get_or-replicate, length-replicate, take_more}
use Rattle.std.proofs.lemmas.List.Concat.{concat_is}
use Rattle.std.proofs.lemmas.List.Folds.{concat-append, length-flat_map-take}
use Rattle.std.proofs.lemmas.List.Sums.{sum_by-append}
use Rattle.std.proofs.Math.Seq.{drop-cons}
use Rattle.byte_fields.specs.Unread.{Unread}
use Rattle.binlog_format.specs.declared.refusals.FormatKind.{FormatKind}
use Rattle.binlog_format.specs.declared.refusals.FormatKind.TheVariants.{Range, Order}
use Rattle.binlog_format.specs.declared.refusals.FormatError.{FormatError}
use Rattle.binlog_format.specs.Reading.{Fault, go_on, refuse_at, number, items, Fails}
use Rattle.binlog_format.specs.Lists.{stands_in, row_rule, row_at, after_row, Filling, first, rest, list_at, after_list, IsSeen, marked_rule, marked_row, IsShortList}
use Rattle.binlog_format.proofs.ReadLoop.{Continues, starts, continues, fails, is_done}

by_mark : (b : Bool) (o : Option FormatKind) → cond (not b) o (Some Range) ≡ cond b (Some Range) o
by_mark true o = refl
by_mark false o = refl

-- the rule by marks is the rule by what stood before
rule_same : (rows : ℕ) (before : List ℕ) (seen : List Bool) (least row : ℕ) → IsSeen rows before seen → marked_rule seen least row ≡ row_rule rows (record { before = before; least = least }) row
rule_same rows before seen least row h =
    elim (cases_lt row rows) [
      | inl lt ↦ rw (h.for_each, lt-ltb row rows lt, lt-leb rows row lt, h.marks row lt) (by_mark (stands_in row before) (cond (ltb row least) (Some Order) None))
      | inr le ↦ rw (h.for_each, le-ltb row rows le, le-leb rows row le) refl
    ]

checked_same : {A : Type 0} (place : ℕ) (rule other : A → Option FormatKind) → ((x : A) → rule x ≡ other x) → (r : Result (A × Unread) Fault) → go_on r (λ x. refuse_at place (rule x) x) ≡ go_on r (λ x. refuse_at place (other x) x)
checked_same {A} place rule other same (Ok x) = ap (λ (o : Option FormatKind). refuse_at place o x.0 x.1) (same x.0)
checked_same place rule other same (Err e) = refl

pub row_same : (rows : ℕ) (before : List ℕ) (seen : List Bool) (least : ℕ) (u : Unread) → IsSeen rows before seen → marked_row seen least u ≡ row_at rows (record { before = before; least = least }) u
unfolding row_at
row_same rows before seen least u h = checked_same u.place (marked_rule seen least) (row_rule rows (record { before = before; least = least })) (λ row. rule_same rows before seen least row h) (number w32 u)

or_false : (b : Bool) → (b || false) ≡ b
or_false true = refl
or_false false = refl

any_push : (row : ℕ) (rows : List ℕ) (last : ℕ) → stands_in row (rows ++ last ∷ []) ≡ (stands_in row rows || nat_eq row last)
any_push row [] last = or_false (nat_eq row last)
any_push row (x ∷ xs) last = ap (λ (b : Bool). nat_eq row x || b) (any_push row xs last) ∙ sym (or_assoc (nat_eq row x) (stands_in row xs) (nat_eq row last))

marked_same : (before : List ℕ) (row other : ℕ) → other ≡ row → true ≡ (stands_in other before || nat_eq other row)
marked_same before row other e = sym (ap (λ (b : Bool). stands_in other before || b) (eq-eqb other row e) ∙ or-true (stands_in other before))

-- one more mark
pub seen_more : (rows : ℕ) (before : List ℕ) (seen : List Bool) (row : ℕ) → row < rows → IsSeen rows before seen → IsSeen rows (before ++ row ∷ []) (set seen row true)
seen_more rows before seen row lt h = record {
  for_each = length-set seen row true ∙ h.for_each;
  marks = λ other below. elim (cases_eq other row) [
    | inl e ↦ ap (λ (k : ℕ). get_or (set seen row true) k false) e ∙ get_or-set_same seen row true false (rw h.for_each lt) ∙ marked_same before row other e ∙ sym (any_push other before row)
    | inr ne ↦ get_or-set_other seen row other true false ne ∙ h.marks other below ∙ sym (or_false (stands_in other before)) ∙ ap (λ (b : Bool). stands_in other before || b) (sym (ne_eqb other row ne)) ∙ sym (any_push other before row)
  ];
}

-- ---- the row numbers of one list

abbrev pub RowsSoFar : ℕ → List ℕ → List Bool → List ℕ → ℕ → ℕ → Unread → Result (List ℕ × Unread) Fault → Type 0
RowsSoFar rows before seen found left least u total = IsSeen rows (before ++ found) seen × Continues (row_at rows) after_row found left (record { before = before ++ found; least = least }) u total

pub rows_start : (rows : ℕ) (before : List ℕ) (seen : List Bool) (found : List ℕ) (count : ℕ) (u : Unread) → found ≡ [] → IsSeen rows before seen → RowsSoFar rows before seen found (count - 0) 0 u (items (row_at rows) after_row count (record { before = before; least = 0 }) u)
rows_start rows before seen found count u e h =
    let start : RowsSoFar rows before seen [] count 0 u (items (row_at rows) after_row count (record { before = before; least = 0 }) u) =
    subst (λ (bs : List ℕ). IsSeen rows bs seen × Continues (row_at rows) after_row [] count (record { before = bs; least = 0 }) u (items (row_at rows) after_row count (record { before = before; least = 0 }) u)) (sym (append-nil before)) (h, starts (row_at rows) after_row count (record { before = before; least = 0 }) u) in
    rw (e, sub-zero) start

pub rows_more : (rows : ℕ) (before : List ℕ) (seen : List Bool) (found : List ℕ) (count i least : ℕ) (u : Unread) (row : ℕ) (v : Unread) (total : Result (List ℕ × Unread) Fault) → i < count → row < rows → marked_row seen least u ≡ Ok (row, v)
    → RowsSoFar rows before seen found (count - i) least u total → RowsSoFar rows before (set seen row true) (found ++ row ∷ []) (count - (i + 1)) (row + 1) v total
rows_more rows before seen found count i least u row v total lt below read h =
    let read_too : row_at rows (record { before = before ++ found; least = least }) u ≡ Ok (row, v) = sym (row_same rows (before ++ found) seen least u h.0) ∙ read in
    let more = continues (row_at rows) after_row found count i (record { before = before ++ found; least = least }) u row v total lt read_too h.1 in
    subst (λ (bs : List ℕ). IsSeen rows bs (set seen row true) × Continues (row_at rows) after_row (found ++ row ∷ []) (count - (i + 1)) (record { before = bs; least = row + 1 }) v total) (append_assoc before found (row ∷ []))
    (seen_more rows (before ++ found) seen row below h.0, more)

pub rows_fail : (e : FormatError) (rows : ℕ) (before : List ℕ) (seen : List Bool) (found : List ℕ) (count i least : ℕ) (u : Unread) (total : Result (List ℕ × Unread) Fault) → i < count → Fails e (marked_row seen least u)
    → RowsSoFar rows before seen found (count - i) least u total → Fails e total
rows_fail e rows before seen found count i least u total lt read h =
    fails (row_at rows) after_row e found count i (record { before = before ++ found; least = least }) u total lt (subst (Fails e) (row_same rows (before ++ found) seen least u h.0) read) h.1

pub rows_done : (rows : ℕ) (before : List ℕ) (seen : List Bool) (found : List ℕ) (count i least : ℕ) (u : Unread) (total : Result (List ℕ × Unread) Fault) → count ≤ i → RowsSoFar rows before seen found (count - i) least u total → total ≡ Ok (found, u)
rows_done rows before seen found count i least u total le h = is_done (row_at rows) after_row found count i (record { before = before ++ found; least = least }) u total le h.1

-- ---- one list after another

abbrev pub ListsSoFar : ℕ → List ℕ → List Bool → List (List ℕ) → ℕ → Unread → Result (List (List ℕ) × Unread) Fault → Type 0
ListsSoFar rows lengths seen found i u total = IsSeen rows (concat found) seen × Continues (list_at rows) after_list found (length lengths - i) (record { before = concat found; lengths = drop i lengths }) u total

rest_drop : (lengths : List ℕ) (i d : ℕ) → i < length lengths → (first (drop i lengths) ≡ get_or lengths i d) × (rest (drop i lengths) ≡ drop (i + 1) lengths)
rest_drop lengths i d lt = let e = drop-cons lengths i d lt in (ap first e, ap rest e ∙ ap (λ (k : ℕ). drop k lengths) (sym (add-one i)))

concat_push : (found : List (List ℕ)) (list : List ℕ) → concat (found ++ list ∷ []) ≡ concat found ++ list
concat_push found list = concat-append found (list ∷ []) ∙ ap (λ (xs : List ℕ). concat found ++ xs) (append-nil list)

pub lists_more : (rows : ℕ) (lengths : List ℕ) (seen after : List Bool) (found : List (List ℕ)) (i d : ℕ) (u : Unread) (list : List ℕ) (v : Unread) (total : Result (List (List ℕ) × Unread) Fault) → i < length lengths
    → items (row_at rows) after_row (get_or lengths i d) (record { before = concat found; least = 0 }) u ≡ Ok (list, v) → IsSeen rows (concat found ++ list) after
    → ListsSoFar rows lengths seen found i u total → ListsSoFar rows lengths after (found ++ list ∷ []) (i + 1) v total
lists_more rows lengths seen after found i d u list v total lt read marks h =
    let r = rest_drop lengths i d lt in
    let read_too : list_at rows (record { before = concat found; lengths = drop i lengths }) u ≡ Ok (list, v) = ap (λ (k : ℕ). items (row_at rows) after_row k (record { before = concat found; least = 0 }) u) r.0 ∙ read in
    let more = continues (list_at rows) after_list found (length lengths) i (record { before = concat found; lengths = drop i lengths }) u list v total lt read_too h.1 in
    let same : after_list (record { before = concat found; lengths = drop i lengths }) list ≡ record { before = concat (found ++ list ∷ []); lengths = drop (i + 1) lengths } = rw (r.1, concat_push found list) refl in
    (subst (λ (bs : List ℕ). IsSeen rows bs after) (sym (concat_push found list)) marks, subst (λ (state : Filling). Continues (list_at rows) after_list (found ++ list ∷ []) (length lengths - (i + 1)) state v total) same more)

pub lists_fail : (e : FormatError) (rows : ℕ) (lengths : List ℕ) (seen : List Bool) (found : List (List ℕ)) (i d : ℕ) (u : Unread) (total : Result (List (List ℕ) × Unread) Fault) → i < length lengths
    → Fails e (items (row_at rows) after_row (get_or lengths i d) (record { before = concat found; least = 0 }) u) → ListsSoFar rows lengths seen found i u total → Fails e total
lists_fail e rows lengths seen found i d u total lt read h =
    let r = rest_drop lengths i d lt in
    fails (list_at rows) after_list e found (length lengths) i (record { before = concat found; lengths = drop i lengths }) u total lt (subst (λ (k : ℕ). Fails e (items (row_at rows) after_row k (record { before = concat found; least = 0 }) u)) (sym r.0) read) h.1

pub lists_done : (rows : ℕ) (lengths : List ℕ) (seen : List Bool) (found : List (List ℕ)) (i : ℕ) (u : Unread) (total : Result (List (List ℕ) × Unread) Fault) → length lengths ≤ i → ListsSoFar rows lengths seen found i u total → total ≡ Ok (found, u)
lists_done rows lengths seen found i u total le h = is_done (list_at rows) after_list found (length lengths) i (record { before = concat found; lengths = drop i lengths }) u total le h.1

pub lists_start : (rows : ℕ) (lengths : List ℕ) (seen : List Bool) (found : List (List ℕ)) (u : Unread) → found ≡ [] → IsSeen rows [] seen → ListsSoFar rows lengths seen found 0 u (items (list_at rows) after_list (length lengths) (record { before = []; lengths = lengths }) u)
lists_start rows lengths seen found u e h = rw (e, sub-zero) (h, starts (list_at rows) after_list (length lengths) (record { before = []; lengths = lengths }) u)

-- the same by what reading one list gives for all rows that stood before
pub lists_fail_by : (e : FormatError) (n rows : ℕ) (lengths : List ℕ) (seen : List Bool) (found : List (List ℕ)) (i d : ℕ) (u : Unread) (total : Result (List (List ℕ) × Unread) Fault) → n ≡ rows → i < length lengths
    → ((before : List ℕ) → IsSeen n before seen → Fails e (items (row_at n) after_row (get_or lengths i d) (record { before = before; least = 0 }) u)) → ListsSoFar rows lengths seen found i u total → Fails e total
lists_fail_by e n rows lengths seen found i d u total same lt read h =
    let read_too = subst (λ (k : ℕ). (before : List ℕ) → IsSeen k before seen → Fails e (items (row_at k) after_row (get_or lengths i d) (record { before = before; least = 0 }) u)) same read in
    lists_fail e rows lengths seen found i d u total lt (read_too (concat found) h.0) h

pub lists_more_by : (n rows : ℕ) (lengths : List ℕ) (seen after : List Bool) (found : List (List ℕ)) (i d : ℕ) (u : Unread) (list : List ℕ) (v : Unread) (total : Result (List (List ℕ) × Unread) Fault) → n ≡ rows → i < length lengths
    → ((before : List ℕ) → IsSeen n before seen → items (row_at n) after_row (get_or lengths i d) (record { before = before; least = 0 }) u ≡ Ok (list, v))
    → ((before : List ℕ) → IsSeen n before seen → IsSeen n (before ++ list) after)
    → ListsSoFar rows lengths seen found i u total → ListsSoFar rows lengths after (found ++ list ∷ []) (i + 1) v total
lists_more_by n rows lengths seen after found i d u list v total same lt read marks h =
    let read_too = subst (λ (k : ℕ). (before : List ℕ) → IsSeen k before seen → items (row_at k) after_row (get_or lengths i d) (record { before = before; least = 0 }) u ≡ Ok (list, v)) same read in
    let marks_too = subst (λ (k : ℕ). (before : List ℕ) → IsSeen k before seen → IsSeen k (before ++ list) after) same marks in
    lists_more rows lengths seen after found i d u list v total lt (read_too (concat found) h.0) (marks_too (concat found) h.0) h

-- no mark is set
pub none_seen : (rows : ℕ) (seen : List Bool) → seen ≡ replicate rows false → IsSeen rows [] seen
none_seen rows seen e = record { for_each = ap (λ (xs : List Bool). length xs) e ∙ length-replicate rows false; marks = λ row lt. ap (λ (xs : List Bool). get_or xs row false) e ∙ get_or-replicate rows row false false lt }

-- ---- how many rows lists have

pub rows_more_of : (lists : List (List ℕ)) (i : ℕ) (d : List ℕ) → i < length lists → length (concat (take (i + 1) lists)) ≡ length (concat (take i lists)) + length (get_or lists i d)
rows_more_of lists i d lt = ap (λ (xs : List (List ℕ)). length (concat xs)) (take_more lists i d lt) ∙ ap (λ (xs : List ℕ). length xs) (concat_push (take i lists) (get_or lists i d)) ∙ length-append (concat (take i lists)) (get_or lists i d)

pub rows_below : (lists : List (List ℕ)) (i : ℕ) (d : List ℕ) → i < length lists → length (concat (take i lists)) + length (get_or lists i d) ≤ length (concat lists)
rows_below lists i d lt = rw (concat_is lists, concat_is (take i lists)) (length-flat_map-take (λ (xs : List ℕ). xs) lists i d lt)

pub short_lists : (lists : List (List ℕ)) → length (concat lists) ≤ 65536 → AllByRecursion IsShortList lists
short_lists [] h = tt
short_lists (x ∷ xs) h = let e = length-append x (concat xs) in (omega (arith, e), short_lists xs (omega (arith, e)))

-- ---- lengths

pub sum_push : (ns : List ℕ) (n : ℕ) → sum (ns ++ n ∷ []) ≡ sum ns + n
sum_push ns n = sum_by-append (λ x. x) ns (n ∷ []) ∙ ap (λ (k : ℕ). sum ns + k) (zero-add n)

pub sum_cons : (n : ℕ) (ns : List ℕ) → sum (n ∷ ns) ≡ n + sum ns
sum_cons n ns = sum_by-append (λ x. x) (n ∷ []) ns ∙ ap (λ (k : ℕ). k + sum ns) (zero-add n)

pub left_more : (ns : List ℕ) (n left rows : ℕ) → n ≤ left → sum ns + left ≡ rows → sum (ns ++ n ∷ []) + (left - n) ≡ rows
left_more ns n left rows le e = rw (sum_push ns n) (omega arith)
