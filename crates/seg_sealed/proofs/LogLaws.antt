-- Segments and their insert logs.
use Rattle.std.proofs.Common.{◌≡◌, ℕ, zero, suc, ◌+◌, ◌<◌, ◌≤◌, Bool, List, [], ◌∷◌, ◌++◌, length, map, Option, Some, None, refl, sym, ap, subst, ◌∙◌, arith}
use Rattle.std.specs.List.{AllByRecursion}
use Rattle.std.proofs.lemmas.List.{length-map}
use Rattle.hybrid_time.specs.declared.times.Timestamp.{Timestamp}
use Rattle.row_types.specs.declared.rows.Key.{Key}
use Rattle.row_types.specs.declared.rows.Kind.{Kind}
use Rattle.row_types.specs.declared.rows.Kind.TheVariants as kind
use Rattle.row_types.specs.declared.rows.Field.{Field}
use Rattle.row_types.specs.declared.rows.Field.TheVariants as field
use Rattle.log_model.specs.Places.{Placed, placed, PlacedBefore, Rise, vector_of}
use Rattle.binlog_format.specs.declared.objects.Column.{Column}
use Rattle.binlog_format.specs.declared.objects.Column.TheVariants.{Ints, Bools, Texts}
use Rattle.binlog_format.specs.declared.objects.InsertLog.{InsertLog}
use Rattle.binlog_format.specs.Fields.{InTurn}
use Rattle.binlog_format.specs.Inserts.{IsInsertLog, IsAbove, after_position, IsStampFrom, after_stamp, IsColumn, IsShort}
use Rattle.seg_sealed.specs.Segments.{SealedSegment, IsSealed, IsRowOf, IsShortField, kind_of, with_lists, int_of, bool_of, text_of, column_of, field_at, columns_from, position_of, stamp_of, key_of, fields_of, log_of}
use Rattle.seg_sealed.specs.Fields.{kind_in, first_in, others_in, rows_in, sealed_of}
use Rattle.seg_sealed.proofs.ColumnLaws.{cons_same, AreSide, rows_back, kinds_of-columns, positions_back, stamps_back, keys_back, vectors_back, columns_of-rows}

-- ---- a segment is read back from its log

pub sealed_back : (s : SealedSegment) → IsSealed s → sealed_of (log_of s) ≡ with_lists s None
sealed_back s is i = record { number = s.number; dim = s.dim; kinds = kinds_of-columns 0 s.kinds (map fields_of s.rows) i; rows = rows_back s.dim s.kinds s.rows is.rows i; lists = None }

-- ---- a log is the log of its segment

sides : (log : InsertLog) → IsInsertLog log → AreSide (length log.positions) log.stamps log.keys log.vectors
sides log is = record { stamps = is.a_stamp_each; keys = is.a_key_each; vectors = is.a_vector_each }

pub log_back : (log : InsertLog) → IsInsertLog log → log_of (sealed_of log) ≡ log
log_back log is i = record {
  segment = log.segment;
  dim = log.dim;
  positions = positions_back log.positions log.stamps log.keys log.vectors log.columns (sides log is) i;
  stamps = stamps_back log.positions log.stamps log.keys log.vectors log.columns (sides log is) i;
  keys = keys_back log.positions log.stamps log.keys log.vectors log.columns (sides log is) i;
  vectors = vectors_back log.positions log.stamps log.keys log.vectors log.columns (sides log is) i;
  columns = columns_of-rows log.positions log.stamps log.keys log.vectors log.columns (sides log is) is.columns i;
}

-- ---- the rules of a log from those of a segment

positions_turn : (x : Placed) (rows : List Placed) → AllByRecursion (PlacedBefore x) rows → Rise rows → InTurn IsAbove after_position (Some x.position) (map position_of rows)
positions_turn x [] all rise = tt
positions_turn x (y ∷ rows) all rise = (all.0.lower, positions_turn y rows rise.0 rise.1)

positions_rise : (rows : List Placed) → Rise rows → InTurn IsAbove after_position None (map position_of rows)
positions_rise [] rise = tt
positions_rise (x ∷ rows) rise = (tt, positions_turn x rows rise.0 rise.1)

stamps_turn : (x : Placed) (rows : List Placed) → AllByRecursion (PlacedBefore x) rows → Rise rows → InTurn IsStampFrom after_stamp x.ts (map stamp_of rows)
stamps_turn x [] all rise = tt
stamps_turn x (y ∷ rows) all rise = (all.0.not_later, stamps_turn y rows rise.0 rise.1)

stamps_rise : (rows : List Placed) → Rise rows → InTurn IsStampFrom after_stamp 0 (map stamp_of rows)
stamps_rise [] rise = tt
stamps_rise (x ∷ rows) rise = (omega arith, stamps_turn x rows rise.0 rise.1)

vectors_fit : (dim : ℕ) (kinds : List Kind) (rows : List Placed) → AllByRecursion (IsRowOf dim kinds) rows → AllByRecursion (λ vector. length vector ≡ dim) (map vector_of rows)
vectors_fit dim kinds [] all = tt
vectors_fit dim kinds (x ∷ rows) all = (all.0.vector, vectors_fit dim kinds rows all.1)

short_at : (at : ℕ) (fields : List Field) → AllByRecursion IsShortField fields → IsShortField (field_at at fields)
short_at at [] all = tt
short_at zero (f ∷ fields) all = all.0
short_at (suc at) (f ∷ fields) all = short_at at fields all.1

short_text : (f : Field) → IsShortField f → IsShort (text_of f)
short_text (field.Int n) short = omega arith
short_text (field.Bool truth) short = omega arith
short_text (field.Text text) short = short

AreShort : List (List Field) → Type 0
AreShort rows = AllByRecursion (λ fields. AllByRecursion IsShortField fields) rows

short_texts : (at : ℕ) (rows : List (List Field)) → AreShort rows → AllByRecursion IsShort (map text_of (map (field_at at) rows))
unfolding AreShort
short_texts at [] all = tt
short_texts at (fields ∷ rows) all = (short_text (field_at at fields) (short_at at fields all.0), short_texts at rows all.1)

rows_short : (dim : ℕ) (kinds : List Kind) (rows : List Placed) → AllByRecursion (IsRowOf dim kinds) rows → AreShort (map fields_of rows)
unfolding AreShort
rows_short dim kinds [] all = tt
rows_short dim kinds (x ∷ rows) all = (all.0.short, rows_short dim kinds rows all.1)

column_fits : (at : ℕ) (k : Kind) (rows : List (List Field)) → AreShort rows → IsColumn (length rows) (column_of k (map (field_at at) rows))
column_fits at kind.Int rows short = length-map (map (field_at at) rows) int_of ∙ length-map rows (field_at at)
column_fits at kind.Bool rows short = length-map (map (field_at at) rows) bool_of ∙ length-map rows (field_at at)
column_fits at kind.Text rows short = (length-map (map (field_at at) rows) text_of ∙ length-map rows (field_at at), short_texts at rows short)

columns_fit : (at : ℕ) (kinds : List Kind) (rows : List (List Field)) → AreShort rows → AllByRecursion (IsColumn (length rows)) (columns_from at kinds rows)
columns_fit at [] rows short = tt
columns_fit at (k ∷ kinds) rows short = (column_fits at k rows short, columns_fit (suc at) kinds rows short)

length-columns : (at : ℕ) (kinds : List Kind) (rows : List (List Field)) → length (columns_from at kinds rows) ≡ length kinds
length-columns at [] rows = refl
length-columns at (k ∷ kinds) rows = ap suc (length-columns (suc at) kinds rows)

-- the log of a sealed segment keeps the rules of the format
pub log_valid : (s : SealedSegment) → IsSealed s → IsInsertLog (log_of s)
log_valid s is = record {
  segment = is.number;
  dim = is.dim;
  some_rows = subst (λ n. 1 ≤ n) (sym (length-map s.rows position_of)) is.some;
  rows = subst (λ n. n ≤ 65536) (sym (length-map s.rows position_of)) is.few;
  width = subst (λ n. n ≤ 16) (sym (length-columns 0 s.kinds (map fields_of s.rows))) is.width;
  positions = positions_rise s.rows is.rise;
  a_stamp_each = length-map s.rows stamp_of ∙ sym (length-map s.rows position_of);
  stamps = stamps_rise s.rows is.rise;
  a_key_each = length-map s.rows key_of ∙ sym (length-map s.rows position_of);
  a_vector_each = length-map s.rows vector_of ∙ sym (length-map s.rows position_of);
  vectors = vectors_fit s.dim s.kinds s.rows is.rows;
  columns = subst (λ n. AllByRecursion (IsColumn n) (columns_from 0 s.kinds (map fields_of s.rows))) (length-map s.rows fields_of ∙ sym (length-map s.rows position_of)) (columns_fit 0 s.kinds (map fields_of s.rows) (rows_short s.dim s.kinds s.rows is.rows));
}

-- ---- the rules of a segment from those of a log

above_all : (position ts : ℕ) (x : Placed) (rows : List Placed) → position ≤ x.position → ts ≤ x.ts → InTurn IsAbove after_position (Some x.position) (map position_of rows) → InTurn IsStampFrom after_stamp x.ts (map stamp_of rows)
    → AllByRecursion (λ y. (position < y.position) × (ts ≤ y.ts)) rows
above_all position ts x [] p t above from = tt
above_all position ts x (y ∷ rows) p t above from =
    let a = above.0 in
    let b = from.0 in
    ((omega arith, omega arith), above_all position ts y rows (omega arith) (omega arith) above.1 from.1)

before_all : (x : Placed) (rows : List Placed) → AllByRecursion (λ y. (x.position < y.position) × (x.ts ≤ y.ts)) rows → AllByRecursion (PlacedBefore x) rows
before_all x [] all = tt
before_all x (y ∷ rows) all = (record { lower = all.0.0; not_later = all.0.1 }, before_all x rows all.1)

rise_turn : (x : Placed) (rows : List Placed) → InTurn IsAbove after_position (Some x.position) (map position_of rows) → InTurn IsStampFrom after_stamp x.ts (map stamp_of rows) → Rise (x ∷ rows)
rise_turn x [] above from = (tt, tt)
rise_turn x (y ∷ rows) above from =
    (before_all x (y ∷ rows) (above_all x.position x.ts x (y ∷ rows) (omega arith) (omega arith) above from), rise_turn y rows above.1 from.1)

rise_of : (rows : List Placed) → InTurn IsAbove after_position None (map position_of rows) → InTurn IsStampFrom after_stamp 0 (map stamp_of rows) → Rise rows
rise_of [] above from = tt
rise_of (x ∷ rows) above from = rise_turn x rows above.1 from.1

kind_of-first : (c : Column) → kind_of (first_in c) ≡ kind_in c
kind_of-first (Ints ns) = refl
kind_of-first (Bools truths) = refl
kind_of-first (Texts texts) = refl

kinds_of-firsts : (columns : List Column) → map kind_of (map first_in columns) ≡ map kind_in columns
kinds_of-firsts [] = refl
kinds_of-firsts (c ∷ columns) = cons_same (kind_of-first c) (kinds_of-firsts columns)

kind_in-others : (c : Column) → kind_in (others_in c) ≡ kind_in c
kind_in-others (Ints ns) = refl
kind_in-others (Bools truths) = refl
kind_in-others (Texts texts) = refl

kinds_in-others : (columns : List Column) → map kind_in (map others_in columns) ≡ map kind_in columns
kinds_in-others [] = refl
kinds_in-others (c ∷ columns) = cons_same (kind_in-others c) (kinds_in-others columns)

HasShort : Column → Type 0
HasShort (Ints ns) = Unit {0}
HasShort (Bools truths) = Unit {0}
HasShort (Texts texts) = AllByRecursion IsShort texts

first_short : (c : Column) → HasShort c → IsShortField (first_in c)
unfolding HasShort
first_short (Ints ns) h = tt
first_short (Bools truths) h = tt
first_short (Texts []) h = omega arith
first_short (Texts (text ∷ texts)) h = h.0

others_short : (c : Column) → HasShort c → HasShort (others_in c)
unfolding HasShort
others_short (Ints ns) h = tt
others_short (Bools truths) h = tt
others_short (Texts []) h = tt
others_short (Texts (text ∷ texts)) h = h.1

firsts_short : (columns : List Column) → AllByRecursion HasShort columns → AllByRecursion IsShortField (map first_in columns)
firsts_short [] all = tt
firsts_short (c ∷ columns) all = (first_short c all.0, firsts_short columns all.1)

all_others_short : (columns : List Column) → AllByRecursion HasShort columns → AllByRecursion HasShort (map others_in columns)
all_others_short [] all = tt
all_others_short (c ∷ columns) all = (others_short c all.0, all_others_short columns all.1)

column_short : (n : ℕ) (c : Column) → IsColumn n c → HasShort c
unfolding HasShort
column_short n (Ints ns) is = tt
column_short n (Bools truths) is = tt
column_short n (Texts texts) is = is.1

columns_short : (n : ℕ) (columns : List Column) → AllByRecursion (IsColumn n) columns → AllByRecursion HasShort columns
columns_short n [] all = tt
columns_short n (c ∷ columns) all = (column_short n c all.0, columns_short n columns all.1)

rows_fit : (dim : ℕ) (kinds : List Kind) (ps : List ℕ) (ts : List Timestamp) (ks : List Key) (vs : List (List Bool)) (columns : List Column) → map kind_in columns ≡ kinds → AllByRecursion HasShort columns → AllByRecursion (λ vector. length vector ≡ dim) vs
    → AllByRecursion (IsRowOf dim kinds) (rows_in ps ts ks vs columns)
rows_fit dim kinds [] ts ks vs columns is short all = tt
rows_fit dim kinds (p ∷ ps) [] ks vs columns is short all = tt
rows_fit dim kinds (p ∷ ps) (t ∷ ts) [] vs columns is short all = tt
rows_fit dim kinds (p ∷ ps) (t ∷ ts) (k ∷ ks) [] columns is short all = tt
rows_fit dim kinds (p ∷ ps) (t ∷ ts) (k ∷ ks) (v ∷ vs) columns is short all =
    (record { vector = all.0; fields = kinds_of-firsts columns ∙ is; short = firsts_short columns short }, rows_fit dim kinds ps ts ks vs (map others_in columns) (kinds_in-others columns ∙ is) (all_others_short columns short) all.1)

-- the segment of a log that keeps the rules of the format is sealed
pub segment_valid : (log : InsertLog) → IsInsertLog log → IsSealed (sealed_of log)
segment_valid log is =
    let back = positions_back log.positions log.stamps log.keys log.vectors log.columns (sides log is) in
    let stamps = stamps_back log.positions log.stamps log.keys log.vectors log.columns (sides log is) in
    let many : length (sealed_of log).rows ≡ length log.positions = sym (length-map (sealed_of log).rows position_of) ∙ ap length back in
    record {
      number = is.segment;
      dim = is.dim;
      width = subst (λ n. n ≤ 16) (sym (length-map log.columns kind_in)) is.width;
      some = subst (λ n. 1 ≤ n) (sym many) is.some_rows;
      few = subst (λ n. n ≤ 65536) (sym many) is.rows;
      rise = rise_of (sealed_of log).rows (subst (InTurn IsAbove after_position None) (sym back) is.positions) (subst (InTurn IsStampFrom after_stamp 0) (sym stamps) is.stamps);
      rows = rows_fit log.dim (map kind_in log.columns) log.positions log.stamps log.keys log.vectors log.columns refl (columns_short (length log.positions) log.columns is.columns) is.vectors;
      lists = tt;
    }
