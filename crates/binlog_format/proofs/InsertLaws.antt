-- An insert log is read exactly where it is spelled.
use Rattle.std.proofs.Common.{◌≡◌, ℕ, ℤ, zero, suc, ◌*◌, ◌/◌, ◌%◌, ◌^◌, ◌<◌, ◌≤◌, Bool, true, false, cond, eqb, leb, List, [], ◌∷◌, ◌++◌, length, Option, Some, None, Result, Ok, Err, refl, sym, ap, subst, ◌∙◌, arith, SFits, Fits}
use Rattle.std.proofs.Math.Nat.{mul_comm}
use Rattle.std.specs.Prelude.{codes, IfOk}
use Rattle.std.specs.Int.{w32, w64, to_le_bytes, cast_signed, cast_unsigned}
use Rattle.std.specs.Str.{is_utf8}
use Rattle.std.specs.List.{AllByRecursion, flat_map}
use Rattle.std.proofs.lemmas.Bool.{ltb-true, lt-ltb, leb-true, le-leb}
use Rattle.std.proofs.lemmas.Bool.Decides.{nat_tests}
use Rattle.std.proofs.Math.Facts.{of_z-to_z, to_z-of_z, sfits_to_z, Fits-of_z}
use Rattle.hybrid_time.specs.declared.times.Timestamp.{Timestamp}
use Rattle.row_types.specs.declared.rows.Key.{Key}
use Rattle.row_types.specs.Bits.{bits_in, bytes_of, IsDimension}
use Rattle.row_types.proofs.BitLists.{bytes-bits, bits-bytes, length-bytes_of, length-bits_in, IsBytes-bytes_of}
use Rattle.binlog_format.specs.declared.objects.Column.{Column}
use Rattle.binlog_format.specs.declared.objects.Column.TheVariants.{Ints, Bools, Texts}
use Rattle.binlog_format.specs.declared.objects.InsertLog.{InsertLog}
use Rattle.binlog_format.specs.declared.refusals.FormatError.{FormatError}
use Rattle.binlog_format.specs.declared.refusals.FormatKind.TheVariants.{Range, Order, Utf8}
use Rattle.binlog_format.specs.Reading.{everything, Answers, IsReadAs}
use Rattle.binlog_format.specs.Fields.{InTurn}
use Rattle.binlog_format.specs.Inserts.{stamp_bytes, int_bytes, key_bytes, bool_bytes, text_bytes, kind_byte, values, column_bytes, insert_bytes, IsAbove, after_position, IsStampFrom, after_stamp, IsShort, HasShortTexts, IsColumn, IsInsertLog, IsText, ColumnFits, InsertsFit, SpellsInserts, is_dimension, dimension, is_above, position_at, positions_at, stamp_at, stamps_at, int_at, key_at, keys_at, vector_at, vectors_at, ints_at, bool_at, bools_at, text_at, texts_at, values_at, column_at, insert_log}
use Rattle.binlog_format.proofs.FieldLaws.{IsField, IsBytes, field_then, field_as, field_same, field_text, gives_field, unless_field, bytes_field, number_field, whole_field, sized_field, run_field, byte_field, magic_field, segment_field, between_field, wide32, wide64, flat_map_long, flat_map_each, small_bytes, everything_takes, everything_again, apart, read_back}

dimension_field : IsField dimension (to_le_bytes w32) (λ dim. IsDimension dim)
dimension_field = unless_field Range is_dimension (number_field w32 (2 ^ 32) wide32)
    (λ n h e. record { bytes = grind (arith, nat_tests); least = grind (arith, nat_tests); most = grind (arith, nat_tests) })
    (λ n h. let a = h.bytes in let b = h.least in let c = h.most in (omega arith, grind (arith, nat_tests)))

-- ---- positions, timestamps, keys and vectors

above_true : (before : Option ℕ) (n : ℕ) → is_above before n ≡ true → IsAbove before n
above_true None n e = tt
above_true (Some b) n e = ltb-true b n e

true_above : (before : Option ℕ) (n : ℕ) → IsAbove before n → is_above before n ≡ true
true_above None n h = refl
true_above (Some b) n h = lt-ltb b n h

position_field : (before : Option ℕ) → IsField (position_at before) (to_le_bytes w64) (λ n. IsAbove before n × (n < 2 ^ 64))
unfolding position_at
position_field before = unless_field Order (is_above before) (number_field w64 (2 ^ 64) wide64) (λ n h e. (above_true before n e, h)) (λ n h. (h.1, true_above before n h.0))

positions_field : (n : ℕ) → IsField (positions_at n) (flat_map (to_le_bytes w64)) (λ xs. (length xs ≡ n) × InTurn IsAbove after_position None xs × AllByRecursion (λ x. x < 2 ^ 64) xs)
unfolding positions_at
positions_field n = whole_field (8 * n) (sized_field IsAbove (λ x. x < 2 ^ 64) position_field n None) (λ xs h. let e = flat_map_long (to_le_bytes w64) 8 (λ x. refl) xs in omega (arith, e, h.0))

stamp_field : (least : ℕ) → IsField (stamp_at least) stamp_bytes (λ ts. IsStampFrom least ts × (ts.0 < 2 ^ 64))
unfolding stamp_at
stamp_field least = field_as (λ n. record { 0 = n }) (λ ts. ts.0)
    (unless_field {Q = λ n. (least ≤ n) × (n < 2 ^ 64)} Order (λ n. leb least n) (number_field w64 (2 ^ 64) wide64) (λ n h e. (leb-true least n e, h)) (λ n h. (h.1, le-leb least n h.0)))
    (λ n h. (refl, h)) (λ ts h. (h, refl))

stamps_field : (n : ℕ) → IsField (stamps_at n) (flat_map stamp_bytes) (λ xs. (length xs ≡ n) × InTurn IsStampFrom after_stamp 0 xs × AllByRecursion (λ x. x.0 < 2 ^ 64) xs)
unfolding stamps_at
stamps_field n = whole_field (8 * n) (sized_field IsStampFrom (λ x. x.0 < 2 ^ 64) stamp_field n 0) (λ xs h. let e = flat_map_long stamp_bytes 8 (λ x. refl) xs in omega (arith, e, h.0))

fits64 : (n : ℕ) → n < 2 ^ 64 → Fits w64 n
fits64 n h = record { fits = h }

int_field : IsField int_at int_bytes (SFits w64)
unfolding int_at
int_field = field_as (cast_signed w64) (cast_unsigned w64) (number_field w64 (2 ^ 64) wide64) (λ n h. (of_z-to_z (fits64 n h), sfits_to_z (fits64 n h))) (λ n h. ((Fits-of_z {w = w64} {z = n} h).fits, to_z-of_z {w = w64} {z = n} h))

key_field : IsField key_at key_bytes (λ key. SFits w64 key.0)
unfolding key_at
key_field = field_as (λ n. record { 0 = n }) (λ key. key.0) int_field (λ n h. (refl, h)) (λ key h. (h, refl))

keys_field : (n : ℕ) → IsField (keys_at n) (flat_map key_bytes) (λ xs. (length xs ≡ n) × AllByRecursion (λ key. SFits w64 key.0) xs)
unfolding keys_at
keys_field n = whole_field (8 * n) (run_field key_field n) (λ xs h. let e = flat_map_long key_bytes 8 (λ x. refl) xs in omega (arith, e, h.0))

vector_long : (dim : ℕ) (vector : List Bool) → IsDimension dim → length vector ≡ dim → length (bytes_of vector) ≡ dim / 8
vector_long dim vector d h =
    let whole_bytes = d.bytes in
    let e = length-bytes_of vector (ap (λ (n : ℕ). n % 8) h ∙ d.bytes) in
    omega arith

vector_field : (dim : ℕ) → IsDimension dim → IsField (vector_at dim) bytes_of (λ vector. length vector ≡ dim)
unfolding vector_at
vector_field dim d = field_as (bits_in 8) bytes_of (bytes_field (dim / 8))
    (λ bs h. let b = d.bytes in let e = length-bits_in 8 bs in (bytes-bits bs h.1, omega (arith, e, h.0)))
    (λ vector h. ((vector_long dim vector d h, IsBytes-bytes_of vector), bits-bytes vector (ap (λ (n : ℕ). n % 8) h ∙ d.bytes)))

vectors_long : (dim n : ℕ) (xs : List (List Bool)) → length (flat_map bytes_of xs) ≡ dim / 8 * length xs → length xs ≡ n → n * (dim / 8) ≤ length (flat_map bytes_of xs)
vectors_long dim n xs e h = subst (λ (k : ℕ). k * (dim / 8) ≤ length (flat_map bytes_of xs)) h (rw e (omega (arith, mul_comm (length xs) (dim / 8))))

vectors_field : (dim n : ℕ) → IsDimension dim → IsField (vectors_at dim n) (flat_map bytes_of) (λ xs. (length xs ≡ n) × AllByRecursion (λ vector. length vector ≡ dim) xs)
unfolding vectors_at
vectors_field dim n d = whole_field (n * (dim / 8)) (run_field (vector_field dim d) n)
    (λ xs h. vectors_long dim n xs (flat_map_each bytes_of (λ vector. length vector ≡ dim) (dim / 8) (λ vector k. vector_long dim vector d k) xs h.1) h.0)

-- ---- columns

ints_field : (n : ℕ) → IsField (ints_at n) (flat_map int_bytes) (λ xs. (length xs ≡ n) × AllByRecursion (SFits w64) xs)
unfolding ints_at
ints_field n = whole_field (8 * n) (run_field int_field n) (λ xs h. let e = flat_map_long int_bytes 8 (λ x. refl) xs in omega (arith, e, h.0))

truth_is : (b : ℕ) → b ≤ 1 → cond (eqb b 1) 1 0 ≡ b
truth_is zero h = refl
truth_is (suc zero) h = refl
truth_is (suc (suc b)) h = absurd (omega arith)

truth_again : (t : Bool) → (cond t 1 0 ≤ 1) × (eqb (cond t 1 0) 1 ≡ t)
truth_again true = (omega arith, refl)
truth_again false = (omega arith, refl)

bool_field : IsField bool_at bool_bytes (λ truth. Unit {0})
unfolding bool_at
bool_field = field_as (λ b. eqb b 1) (λ truth. cond truth 1 0)
    (unless_field {Q = λ b. b ≤ 1} Range (λ b. leb b 1) byte_field (λ b h e. leb-true b 1 e) (λ b h. (omega arith, le-leb b 1 h)))
    (λ b h. (truth_is b h, tt)) (λ truth h. truth_again truth)

all_true : (xs : List Bool) → AllByRecursion (λ truth. Unit {0}) xs
all_true [] = tt
all_true (x ∷ xs) = (tt, all_true xs)

bools_field : (n : ℕ) → IsField (bools_at n) (flat_map bool_bytes) (λ xs. length xs ≡ n)
unfolding bools_at
bools_field n = field_same (whole_field n (run_field bool_field n) (λ xs h. let e = flat_map_long bool_bytes 1 (λ x. refl) xs in omega (arith, e, h.0))) (λ xs h. h.0) (λ xs h. (h, all_true xs))

abbrev IsShortText : List ℕ → Type 0
IsShortText text = (length text ≤ 1024) × IsText text

text_field : IsField text_at text_bytes IsShortText
unfolding text_at
text_field = field_then (λ text. length text) (between_field 0 1024 (omega arith))
    (λ len h. unless_field {Q = λ text. (length text ≡ len) × IsShortText text} Utf8 is_utf8 (bytes_field len)
    (λ text k e. (k.0, (omega (arith, h.1, k.0), record { utf8 = e; bytes = k.1 })))
    (λ text k. ((k.0, k.1.1.bytes), k.1.1.utf8)))
    (λ text h. (omega arith, h.0))

both_each : (xs : List (List ℕ)) → AllByRecursion IsShort xs → AllByRecursion IsText xs → AllByRecursion IsShortText xs
both_each [] h k = tt
both_each (x ∷ xs) h k = ((h.0, k.0), both_each xs h.1 k.1)

first_each : (xs : List (List ℕ)) → AllByRecursion IsShortText xs → AllByRecursion IsShort xs
first_each [] h = tt
first_each (x ∷ xs) h = (h.0.0, first_each xs h.1)

second_each : (xs : List (List ℕ)) → AllByRecursion IsShortText xs → AllByRecursion IsText xs
second_each [] h = tt
second_each (x ∷ xs) h = (h.0.1, second_each xs h.1)

texts_field : (n : ℕ) → IsField (texts_at n) (flat_map text_bytes) (λ xs. (length xs ≡ n) × AllByRecursion IsShortText xs)
texts_field n = run_field text_field n

-- a column of n rows, with the sizes of its values
abbrev FitsColumn : ℕ → Column → Type 0
FitsColumn n column = IsColumn n column × ColumnFits column

-- a column of this kind
abbrev OfKind : ℕ → ℕ → Column → Type 0
OfKind n kind column = (kind_byte column ≡ kind) × FitsColumn n column

abbrev ints_of : Column → List ℤ
ints_of (Ints ints) = ints
ints_of (Bools bools) = []
ints_of (Texts texts) = []

abbrev bools_of : Column → List Bool
bools_of (Ints ints) = []
bools_of (Bools bools) = bools
bools_of (Texts texts) = []

abbrev texts_of : Column → List (List ℕ)
texts_of (Ints ints) = []
texts_of (Bools bools) = []
texts_of (Texts texts) = texts

ints_back : (n : ℕ) (column : Column) → OfKind n 0 column → ((length (ints_of column) ≡ n) × AllByRecursion (SFits w64) (ints_of column)) × (Ints (ints_of column) ≡ column)
ints_back n (Ints ints) h = (h.1, refl)
ints_back n (Bools bools) h = absurd (omega (arith, h.0))
ints_back n (Texts texts) h = absurd (omega (arith, h.0))

ints_text : (n : ℕ) (column : Column) → OfKind n 0 column → flat_map int_bytes (ints_of column) ≡ values column
ints_text n (Ints ints) h = refl
ints_text n (Bools bools) h = absurd (omega (arith, h.0))
ints_text n (Texts texts) h = absurd (omega (arith, h.0))

bools_back : (n : ℕ) (column : Column) → OfKind n 1 column → (length (bools_of column) ≡ n) × (Bools (bools_of column) ≡ column)
bools_back n (Ints ints) h = absurd (omega (arith, h.0))
bools_back n (Bools bools) h = (h.1.0, refl)
bools_back n (Texts texts) h = absurd (omega (arith, h.0))

bools_text : (n : ℕ) (column : Column) → OfKind n 1 column → flat_map bool_bytes (bools_of column) ≡ values column
bools_text n (Ints ints) h = absurd (omega (arith, h.0))
bools_text n (Bools bools) h = refl
bools_text n (Texts texts) h = absurd (omega (arith, h.0))

texts_back : (n : ℕ) (column : Column) → OfKind n 2 column → ((length (texts_of column) ≡ n) × AllByRecursion IsShortText (texts_of column)) × (Texts (texts_of column) ≡ column)
texts_back n (Ints ints) h = absurd (omega (arith, h.0))
texts_back n (Bools bools) h = absurd (omega (arith, h.0))
texts_back n (Texts texts) h = ((h.1.0.0, both_each texts h.1.0.1 h.1.1), refl)

texts_text : (n : ℕ) (column : Column) → OfKind n 2 column → flat_map text_bytes (texts_of column) ≡ values column
texts_text n (Ints ints) h = absurd (omega (arith, h.0))
texts_text n (Bools bools) h = absurd (omega (arith, h.0))
texts_text n (Texts texts) h = refl

values_field : (n kind : ℕ) → kind ≤ 2 → IsField (values_at n kind) values (OfKind n kind)
unfolding values_at
values_field n zero k = field_text (field_as {Q = OfKind n 0} Ints ints_of (ints_field n) (λ xs h. (refl, (refl, h))) (ints_back n)) (ints_text n)
values_field n (suc zero) k = field_text (field_as {Q = OfKind n 1} Bools bools_of (bools_field n) (λ xs h. (refl, (refl, (h, tt)))) (bools_back n)) (bools_text n)
values_field n (suc (suc zero)) k = field_text (field_as {Q = OfKind n 2} Texts texts_of (texts_field n) (λ xs h. (refl, (refl, ((h.0, first_each xs h.1), second_each xs h.1)))) (texts_back n)) (texts_text n)
values_field n (suc (suc (suc kind))) k = absurd (omega arith)

kind_small : (column : Column) → kind_byte column ≤ 2
kind_small (Ints ints) = omega arith
kind_small (Bools bools) = omega arith
kind_small (Texts texts) = omega arith

column_field : (n : ℕ) → IsField (column_at n) column_bytes (FitsColumn n)
unfolding column_at
column_field n = field_then kind_byte (unless_field {Q = λ b. b ≤ 2} Range (λ b. leb b 2) byte_field (λ b h e. leb-true b 2 e) (λ b h. (omega arith, le-leb b 2 h))) (λ kind h. values_field n kind h) (λ column h. kind_small column)

-- ---- the whole log

abbrev Valid : InsertLog → Type 0
Valid log = IsInsertLog log × InsertsFit log

both_fit : (n : ℕ) (columns : List Column) → AllByRecursion (IsColumn n) columns → AllByRecursion ColumnFits columns → AllByRecursion (FitsColumn n) columns
both_fit n [] h k = tt
both_fit n (x ∷ xs) h k = ((h.0, k.0), both_fit n xs h.1 k.1)

first_fit : (n : ℕ) (columns : List Column) → AllByRecursion (FitsColumn n) columns → AllByRecursion (IsColumn n) columns
first_fit n [] h = tt
first_fit n (x ∷ xs) h = (h.0.0, first_fit n xs h.1)

second_fit : (n : ℕ) (columns : List Column) → AllByRecursion (FitsColumn n) columns → AllByRecursion ColumnFits columns
second_fit n [] h = tt
second_fit n (x ∷ xs) h = (h.0.1, second_fit n xs h.1)

-- what the fields say, one by one
pub record Parts (log : InsertLog) (dim n width : ℕ) : Type 0 where
  pub segment : log.segment < 2 ^ 60
  pub dim_is : log.dim ≡ dim
  pub dimension_ok : IsDimension dim
  pub rows_are : length log.positions ≡ n
  pub rows : (1 ≤ n) × (n ≤ 65536)
  pub width_is : length log.columns ≡ width
  pub few : width ≤ 16
  pub positions : InTurn IsAbove after_position None log.positions × AllByRecursion (λ x. x < 2 ^ 64) log.positions
  pub stamps : (length log.stamps ≡ n) × InTurn IsStampFrom after_stamp 0 log.stamps × AllByRecursion (λ x. x.0 < 2 ^ 64) log.stamps
  pub keys : (length log.keys ≡ n) × AllByRecursion (λ key. SFits w64 key.0) log.keys
  pub vectors : (length log.vectors ≡ n) × AllByRecursion (λ vector. length vector ≡ dim) log.vectors
  pub columns : AllByRecursion (FitsColumn n) log.columns

valid : (log : InsertLog) (dim n width : ℕ) → Parts log dim n width → Valid log
valid log dim n width p =
    let same = sym p.rows_are in (
      record {
        segment = p.segment;
        dim = subst IsDimension (sym p.dim_is) p.dimension_ok;
        some_rows = rw p.rows_are p.rows.0;
        rows = rw p.rows_are p.rows.1;
        width = rw p.width_is p.few;
        positions = p.positions.0;
        a_stamp_each = p.stamps.0 ∙ same;
        stamps = p.stamps.1;
        a_key_each = p.keys.0 ∙ same;
        a_vector_each = p.vectors.0 ∙ same;
        vectors = subst (λ (d : ℕ). AllByRecursion (λ vector. length vector ≡ d) log.vectors) (sym p.dim_is) p.vectors.1;
        columns = first_fit (length log.positions) log.columns (subst (λ (k : ℕ). AllByRecursion (FitsColumn k) log.columns) same p.columns);
      },
      record { positions = p.positions.1; stamps = p.stamps.2; keys = p.keys.1; columns = second_fit n log.columns p.columns },
    )

abbrev made : ℕ → ℕ → List ℕ → List Timestamp → List Key → List (List Bool) → List Column → InsertLog
made segment dim positions stamps keys vectors columns = record { segment = segment; dim = dim; positions = positions; stamps = stamps; keys = keys; vectors = vectors; columns = columns }

same_log : (segment dim : ℕ) (positions : List ℕ) (stamps : List Timestamp) (keys : List Key) (vectors : List (List Bool)) (columns : List Column) (log : InsertLog)
    → log.segment ≡ segment → log.dim ≡ dim → log.positions ≡ positions → log.stamps ≡ stamps → log.keys ≡ keys → log.vectors ≡ vectors → log.columns ≡ columns → made segment dim positions stamps keys vectors columns ≡ log
same_log segment dim positions stamps keys vectors columns log a b c d e f g = rw (← a, ← b, ← c, ← d, ← e, ← f, ← g) refl

name_fits : IsBytes (codes "MANUINS1")
name_fits = λ i. small_bytes (codes "MANUINS1") refl i

pub insert_field : IsField insert_log insert_bytes Valid
unfolding insert_log
insert_field = field_then (λ log. codes "MANUINS1") (magic_field (codes "MANUINS1") refl name_fits) (λ name hn.
    field_then (λ log. log.segment) segment_field (λ segment hs.
    field_then (λ log. log.dim) dimension_field (λ dim hd.
    field_then (λ log. length log.positions) (between_field 1 65536 (omega arith)) (λ n hr.
    field_then (λ log. length log.columns) (between_field 0 16 (omega arith)) (λ width hw.
    field_then (λ log. log.positions) (positions_field n) (λ positions hp.
    field_then (λ log. log.stamps) (stamps_field n) (λ stamps ht.
    field_then (λ log. log.keys) (keys_field n) (λ keys hk.
    field_then (λ log. log.vectors) (vectors_field dim n hd) (λ vectors hv.
    field_then (λ log. log.columns) (run_field (column_field n) width) (λ columns hc.
    gives_field (made segment dim positions stamps keys vectors columns)
    (refl, (refl, (refl, (refl, (refl, (hc.0, (hp.0, (refl, (refl, (sym hn, valid (made segment dim positions stamps keys vectors columns) dim n width (record { segment = hs; dim_is = refl; dimension_ok = hd; rows_are = hp.0; rows = hr; width_is = hc.0; few = hw.1; positions = (hp.1, hp.2); stamps = ht; keys = hk; vectors = hv; columns = hc.1 })))))))))))
    (λ log e. same_log segment dim positions stamps keys vectors columns log e.1.1.1.1.1.1.1.1.0 e.1.1.1.1.1.1.1.0 e.1.1.1.1.0 e.1.1.1.0 e.1.1.0 e.1.0 e.0))
    (λ log h. let v = h.1.1.1.1.1.1.1.1.1 in (h.1.1.1.1.0, subst (λ (k : ℕ). AllByRecursion (FitsColumn k) log.columns) h.1.1.1.1.1.0 (both_fit (length log.positions) log.columns v.0.columns v.1.columns))))
    (λ log h. let v = h.1.1.1.1.1.1.1.1 in (v.0.a_vector_each ∙ h.1.1.1.1.0, subst (λ (d : ℕ). AllByRecursion (λ vector. length vector ≡ d) log.vectors) h.1.1.1.1.1.0 v.0.vectors)))
    (λ log h. let v = h.1.1.1.1.1.1.1 in (v.0.a_key_each ∙ h.1.1.1.0, v.1.keys)))
    (λ log h. let v = h.1.1.1.1.1.1 in (v.0.a_stamp_each ∙ h.1.1.0, v.0.stamps, v.1.stamps)))
    (λ log h. let v = h.1.1.1.1.1 in (h.1.0, v.0.positions, v.1.positions)))
    (λ log h. (omega arith, h.1.1.1.1.0.width)))
    (λ log h. (h.1.1.1.0.some_rows, h.1.1.1.0.rows)))
    (λ log h. h.1.1.0.dim))
    (λ log h. h.1.0.segment))
    (λ log h. refl)

pub is_found : (bs : List ℕ) (r : Result InsertLog FormatError) → IsBytes bs → Answers r (everything insert_log bs) → IfOk r (λ log. SpellsInserts bs log)
is_found bs (Ok log) fits given = let t = everything_takes insert_field bs log fits given in record { rules = t.1.0; fit = t.1.1; spelling = t.0 }
is_found bs (Err e) fits given = tt

pub is_only : (bs : List ℕ) (r : Result InsertLog FormatError) (log : InsertLog) → Answers r (everything insert_log bs) → SpellsInserts bs log → IsReadAs r log
is_only bs r log given s = read_back r log (everything insert_log bs) given (ap (everything insert_log) s.spelling ∙ everything_again insert_field log (s.rules, s.fit))

pub inserts_apart : (a b : InsertLog) (bs rest : List ℕ) → SpellsInserts bs a → SpellsInserts (bs ++ rest) b → (rest ≡ []) × (a ≡ b)
inserts_apart a b bs rest x y = let t = apart insert_field a b rest (x.rules, x.fit) (y.rules, y.fit) (ap (λ (z : List ℕ). z ++ rest) (sym x.spelling) ∙ y.spelling) in (t.1, t.0)

short_texts : (n : ℕ) (column : Column) → IsColumn n column → HasShortTexts column
short_texts n (Ints ints) h = tt
short_texts n (Bools bools) h = tt
short_texts n (Texts texts) h = h.1

-- what writing asks of the columns
pub all_short : (n : ℕ) (columns : List Column) → AllByRecursion (IsColumn n) columns → AllByRecursion HasShortTexts columns
all_short n [] h = tt
all_short n (x ∷ xs) h = (short_texts n x h.0, all_short n xs h.1)
