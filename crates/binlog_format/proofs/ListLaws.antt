-- A list file is read exactly where it is spelled.
use Rattle.std.proofs.Common.{◌≡◌, ℕ, suc, ◌*◌, ◌+◌, ◌-◌, ◌^◌, ◌<◌, ◌≤◌, Bool, true, false, cond, eqb, ltb, leb, ◌||◌, List, [], ◌∷◌, ◌++◌, length, map, Some, None, Result, Ok, Err, refl, sym, ap, subst, ◌∙◌, arith}
use Rattle.std.specs.Prelude.{codes, IfOk, sum}
use Rattle.std.specs.Int.{w32, w64, to_le_bytes}
use Rattle.std.specs.List.{concat, flat_map}
use Rattle.std.proofs.lemmas.Bool.{ltb-false, leb-true, leb-false, le-leb, eqb-true, eq-eqb, lt-leb, le-ltb}
use Rattle.std.proofs.lemmas.List.{length-append, append-nil}
use Rattle.binlog_format.specs.declared.objects.ListFile.{ListFile}
use Rattle.binlog_format.specs.declared.refusals.FormatError.{FormatError}
use Rattle.binlog_format.specs.declared.refusals.FormatKind.TheVariants.{Range, Order, Sum}
use Rattle.binlog_format.specs.Reading.{everything, Answers, IsReadAs}
use Rattle.binlog_format.specs.Fields.{InTurn}
use Rattle.binlog_format.specs.Lists.{list_bytes, list_file_bytes, stands_in, Within, IsRow, after_row, IsList, joined, IsListFile, SpellsLists, length_at, left_after, lengths_at, row_rule, row_at, Filling, first, rest, list_at, after_list, lists_at, list_file, length_bytes}
use Rattle.binlog_format.proofs.ListReading.{sum_cons}
use Rattle.binlog_format.proofs.FieldLaws.{IsField, IsBytes, field_then, field_same, gives_field, unless_field, checked_field, number_field, whole_field, items_field, magic_field, segment_field, between_field, wide32, flat_map_long, small_bytes, accepted_field, everything_takes, everything_again, apart, read_back}

-- ---- lengths

abbrev FitsLength : ℕ → ℕ → Type 0
FitsLength left n = (n < 2 ^ 32) × (n ≤ left)

length_field : (left : ℕ) → IsField (length_at left) (to_le_bytes w32) (FitsLength left)
length_field left = unless_field Sum (λ n. leb n left) (number_field w32 (2 ^ 32) wide32) (λ n h e. (h, leb-true n left e)) (λ n h. (h.0, le-leb n left h.1))

-- lengths that sum to what is left are each at most that
fit_lengths : (ns : List ℕ) (left : ℕ) → left < 2 ^ 32 → sum ns ≡ left → InTurn FitsLength left_after left ns
fit_lengths [] left small e = tt
fit_lengths (n ∷ ns) left small e = let s = sum_cons n ns in ((omega (arith, s), omega (arith, s)), fit_lengths ns (left - n) (omega (arith, s)) (omega (arith, s)))

lengths_field : (count rows : ℕ) → rows < 2 ^ 32 → IsField (lengths_at count rows) (flat_map (to_le_bytes w32)) (λ ns. (length ns ≡ count) × (sum ns ≡ rows))
unfolding lengths_at
lengths_field count rows small = field_same
    (accepted_field Sum (λ ns. eqb (sum ns) rows) (whole_field (4 * count) (items_field length_field count rows) (λ ns h. let e = flat_map_long (to_le_bytes w32) 4 (λ n. refl) ns in omega (arith, e, h.0))))
    (λ ns h. (h.0.0, eqb-true _ _ h.1))
    (λ ns h. ((h.0, fit_lengths ns rows small h.1), eq-eqb _ _ h.1))

-- ---- row numbers

split_rule : (a b c : Bool) → cond (a || b) (Some Range) (cond c (Some Order) None) ≡ None → (a ≡ false) × (b ≡ false) × (c ≡ false)
split_rule true b c e = absurd cc
split_rule false true c e = absurd cc
split_rule false false true e = absurd cc
split_rule false false false e = (refl, refl, refl)

row_allowed : (rows : ℕ) (place : Within) (row : ℕ) → row_rule rows place row ≡ None → IsRow rows place row
row_allowed rows place row e =
    let h = split_rule (leb rows row) (stands_in row place.before) (ltb row place.least) e in
    record { below = leb-false rows row h.0; once = h.1; rises = ltb-false row place.least h.2 }

row_passes : (rows : ℕ) (place : Within) (row : ℕ) → IsRow rows place row → row_rule rows place row ≡ None
row_passes rows place row h = rw (lt-leb rows row h.below, h.once, le-ltb row place.least h.rises) refl

row_field : (rows : ℕ) → rows ≤ 65536 → (place : Within) → IsField (row_at rows place) (to_le_bytes w32) (IsRow rows place)
unfolding row_at
row_field rows small place = field_same (checked_field (row_rule rows place) (number_field w32 (2 ^ 32) wide32)) (λ row h. row_allowed rows place row h.1) (λ row h. let b = h.below in (omega arith, row_passes rows place row h))

-- a list of the first of the lengths
abbrev FitsList : ℕ → Filling → List ℕ → Type 0
FitsList rows state list = (length list ≡ first state.lengths) × IsList rows state.before list

list_field : (rows : ℕ) → rows ≤ 65536 → (state : Filling) → IsField (list_at rows state) list_bytes (FitsList rows state)
list_field rows small state = items_field {item = row_at rows} {after = after_row} {P = IsRow rows} (row_field rows small) (first state.lengths) (record { before = state.before; least = 0 })

abbrev filling : List ℕ → List ℕ → Filling
filling before lengths = record { before = before; lengths = lengths }

split_lists : (rows : ℕ) (lists : List (List ℕ)) (before lengths : List ℕ) → length lists ≡ length lengths → InTurn (FitsList rows) after_list (filling before lengths) lists → (map length lists ≡ lengths) × InTurn (IsList rows) joined before lists
split_lists rows [] before [] e h = (refl, tt)
split_lists rows [] before (n ∷ ns) e h = absurd (omega arith)
split_lists rows (x ∷ xs) before [] e h = absurd (omega arith)
split_lists rows (x ∷ xs) before (n ∷ ns) e h =
    let r = split_lists rows xs (before ++ x) ns (omega arith) h.1 in
    (ap (λ (k : ℕ). k ∷ map length xs) h.0.0 ∙ ap (λ (ks : List ℕ). n ∷ ks) r.0, (h.0.1, r.1))

join_lists : (rows : ℕ) (lists : List (List ℕ)) (before : List ℕ) → InTurn (IsList rows) joined before lists → InTurn (FitsList rows) after_list (filling before (map length lists)) lists
join_lists rows [] before h = tt
join_lists rows (x ∷ xs) before h = ((refl, h.0), join_lists rows xs (before ++ x) h.1)

length-lengths : (lists : List (List ℕ)) → length (map length lists) ≡ length lists
length-lengths [] = refl
length-lengths (x ∷ xs) = ap suc (length-lengths xs)

sum-lengths : (lists : List (List ℕ)) → sum (map length lists) ≡ length (concat lists)
sum-lengths [] = refl
sum-lengths (x ∷ xs) = sum_cons (length x) (map length xs) ∙ ap (λ (k : ℕ). length x + k) (sum-lengths xs) ∙ sym (length-append x (concat xs))

lists_long : (lists : List (List ℕ)) → length (flat_map list_bytes lists) ≡ 4 * length (concat lists)
lists_long [] = refl
lists_long (x ∷ xs) =
    let a = flat_map_long (to_le_bytes w32) 4 (λ n. refl) x in
    let b = length-append x (concat xs) in
    length-append (list_bytes x) (flat_map list_bytes xs) ∙ (rw (a, lists_long xs, b) (omega arith))

lists_field : (rows : ℕ) (lengths : List ℕ) → rows ≤ 65536 → sum lengths ≡ rows → IsField (lists_at rows lengths) (flat_map list_bytes) (λ lists. (map length lists ≡ lengths) × InTurn (IsList rows) joined [] lists)
unfolding lists_at
lists_field rows lengths small total = field_same
    (whole_field (4 * rows) (items_field {item = list_at rows} {after = after_list} {P = FitsList rows} (list_field rows small) (length lengths) (filling [] lengths))
    (λ lists h. let s = split_lists rows lists [] lengths h.0 h.1 in let a = lists_long lists in let b = sum-lengths lists in let e = ap (λ (ns : List ℕ). sum ns) s.0 in omega (arith, a, b, e, total)))
    (λ lists h. split_lists rows lists [] lengths h.0 h.1)
    (λ lists h. (sym (length-lengths lists) ∙ ap (λ (ns : List ℕ). length ns) h.0, subst (λ (ns : List ℕ). InTurn (FitsList rows) after_list (filling [] ns) lists) h.0 (join_lists rows lists [] h.1)))

-- ---- the whole file

abbrev Valid : ListFile → Type 0
Valid file = IsListFile file × (file.version < 2 ^ 32)

abbrev made : ℕ → ℕ → List (List ℕ) → ListFile
made segment version lists = record { segment = segment; version = version; lists = lists }

same_file : (segment version : ℕ) (lists : List (List ℕ)) (file : ListFile) → file.segment ≡ segment → file.version ≡ version → file.lists ≡ lists → made segment version lists ≡ file
same_file segment version lists file a b c = rw (← a, ← b, ← c) refl

name_fits : IsBytes (codes "MANULST1")
name_fits = λ i. small_bytes (codes "MANULST1") refl i

valid : (segment version count rows : ℕ) (lengths : List ℕ) (lists : List (List ℕ)) → segment < 2 ^ 60 → version < 2 ^ 32 → (1 ≤ count) × (count ≤ 1024) → (1 ≤ rows) × (rows ≤ 65536) → length lists ≡ count → length (concat lists) ≡ rows → InTurn (IsList rows) joined [] lists → Valid (made segment version lists)
valid segment version count rows lengths lists hs hv hc hr lc lr h = (
  record {
    segment = hs;
    some_lists = rw lc hc.0;
    count = rw lc hc.1;
    some_rows = rw lr hr.0;
    rows = rw lr hr.1;
    lists = subst (λ (k : ℕ). InTurn (IsList k) joined [] lists) (sym lr) h;
  },
  hv,
)

rows_are : (lists : List (List ℕ)) (lengths : List ℕ) (rows : ℕ) → map length lists ≡ lengths → sum lengths ≡ rows → length (concat lists) ≡ rows
rows_are lists lengths rows e h = sym (sum-lengths lists) ∙ ap (λ (ns : List ℕ). sum ns) e ∙ h

count_is : (lists : List (List ℕ)) (lengths : List ℕ) (count : ℕ) → map length lists ≡ lengths → length lengths ≡ count → length lists ≡ count
count_is lists lengths count e h = sym (length-lengths lists) ∙ ap (λ (ns : List ℕ). length ns) e ∙ h

pub lists_file_field : IsField list_file list_file_bytes Valid
unfolding list_file
lists_file_field = field_then (λ file. codes "MANULST1") (magic_field (codes "MANULST1") refl name_fits) (λ name hn.
    field_then (λ file. file.segment) segment_field (λ segment hs.
    field_then (λ file. file.version) (number_field w32 (2 ^ 32) wide32) (λ version hv.
    field_then (λ file. length file.lists) (between_field 1 1024 (omega arith)) (λ count hc.
    field_then (λ file. length (concat file.lists)) (between_field 1 65536 (omega arith)) (λ rows hr.
    field_then (λ file. map length file.lists) (lengths_field count rows (omega (arith, hr.1))) (λ lengths hl.
    field_then (λ file. file.lists) (lists_field rows lengths hr.1 hl.1) (λ lists hx.
    let lc = count_is lists lengths count hx.0 hl.0 in
    let lr = rows_are lists lengths rows hx.0 hl.1 in
    gives_field (made segment version lists)
    (refl, (hx.0, (lr, (lc, (refl, (refl, (sym hn, valid segment version count rows lengths lists hs hv hc hr lc lr hx.1)))))))
    (λ file e. same_file segment version lists file e.1.1.1.1.1.0 e.1.1.1.1.0 e.0))
    (λ file h. (h.0, subst (λ (k : ℕ). InTurn (IsList k) joined [] file.lists) h.1.0 h.1.1.1.1.1.1.0.lists)))
    (λ file h. (length-lengths file.lists ∙ h.1.0, sum-lengths file.lists ∙ h.0)))
    (λ file h. (h.1.1.1.1.0.some_rows, h.1.1.1.1.0.rows)))
    (λ file h. (h.1.1.1.0.some_lists, h.1.1.1.0.count)))
    (λ file h. h.1.1.1))
    (λ file h. h.1.0.segment))
    (λ file h. refl)

pub is_found : (bs : List ℕ) (r : Result ListFile FormatError) → IsBytes bs → Answers r (everything list_file bs) → IfOk r (λ file. SpellsLists bs file)
is_found bs (Ok file) fits given = let t = everything_takes lists_file_field bs file fits given in record { rules = t.1.0; fit = t.1.1; spelling = t.0 }
is_found bs (Err e) fits given = tt

pub is_only : (bs : List ℕ) (r : Result ListFile FormatError) (file : ListFile) → Answers r (everything list_file bs) → SpellsLists bs file → IsReadAs r file
is_only bs r file given s = read_back r file (everything list_file bs) given (ap (everything list_file) s.spelling ∙ everything_again lists_file_field file (s.rules, s.fit))

pub lists_apart : (a b : ListFile) (bs rest : List ℕ) → SpellsLists bs a → SpellsLists (bs ++ rest) b → (rest ≡ []) × (a ≡ b)
lists_apart a b bs rest x y = let t = apart lists_file_field a b rest (x.rules, x.fit) (y.rules, y.fit) (ap (λ (z : List ℕ). z ++ rest) (sym x.spelling) ∙ y.spelling) in (t.1, t.0)

-- the lengths of lists, written list by list
pub lengths_text : (lists : List (List ℕ)) → flat_map length_bytes lists ≡ flat_map (to_le_bytes w32) (map length lists)
lengths_text [] = refl
lengths_text (x ∷ xs) = ap (λ (bs : List ℕ). length_bytes x ++ bs) (lengths_text xs)

-- the fields of a list file, written one after another
pub written : (file : ListFile) (lists : List (List ℕ)) (rows : ℕ) (a b c d e f g h : List ℕ) → lists ≡ file.lists → rows ≡ length (concat lists) → a ≡ [] → b ≡ a ++ codes "MANULST1" → c ≡ b ++ to_le_bytes w64 file.segment → d ≡ c ++ to_le_bytes w32 file.version
    → e ≡ d ++ to_le_bytes w32 (length lists) → f ≡ e ++ to_le_bytes w32 rows → g ≡ f ++ flat_map length_bytes lists → h ≡ g ++ flat_map list_bytes lists → h ≡ list_file_bytes file
written file lists rows a b c d e f g h hl hr ha hb hc hd he hf hg hh =
    let header : List ℕ = codes "MANULST1" ++ to_le_bytes w64 file.segment ++ to_le_bytes w32 file.version ++ to_le_bytes w32 (length file.lists) ++ to_le_bytes w32 (length (concat file.lists)) in
    let ends : flat_map length_bytes file.lists ++ flat_map list_bytes file.lists ≡ flat_map (to_le_bytes w32) (map length file.lists) ++ (flat_map list_bytes file.lists ++ []) =
    ap (λ (bs : List ℕ). bs ++ flat_map list_bytes file.lists) (lengths_text file.lists) ∙ ap (λ (bs : List ℕ). flat_map (to_le_bytes w32) (map length file.lists) ++ bs) (sym (append-nil (flat_map list_bytes file.lists))) in
    rw (hh, hg, hf, he, hd, hc, hb, ha, hr, hl) (ap (λ (bs : List ℕ). header ++ bs) ends)
