-- What the fields of a segment keep, and one row of it.
use Rattle.std.proofs.Common.{◌≡◌, ℕ, zero, suc, ◌+◌, ◌*◌, ◌<◌, ◌≤◌, Bool, pos, false, List, [], ◌∷◌, length, map, take, drop, slice_get, slice_index_or, Option, Some, None, refl, sym, ap, subst, ◌∙◌, arith}
use Rattle.std.specs.Option.{option_map, IfSome}
use Rattle.std.specs.List.{AllByRecursion}
use Rattle.std.proofs.lemmas.List.{length-map}
use Rattle.std.proofs.lemmas.Option.{slice_get-map}
use Rattle.std.proofs.Math.Nat.{suc-mul, mul-le-mul_right}
use Rattle.hybrid_time.specs.declared.times.Timestamp.{Timestamp}
use Rattle.row_types.specs.declared.rows.Key.{Key}
use Rattle.row_types.specs.declared.rows.Row.{Row}
use Rattle.row_types.specs.declared.rows.Kind.{Kind}
use Rattle.row_types.specs.declared.rows.Field.{Field}
use Rattle.row_types.specs.declared.rows.Field.TheVariants as field
use Rattle.row_types.specs.Bits.{AreWordsOf}
use Rattle.row_types.specs.Filters.{passes}
use Rattle.row_types.specs.declared.filters.Filter.{Filter}
use Rattle.log_model.specs.Places.{Placed, placed, IsColumn, width_of, vector_of}
use Rattle.binlog_format.specs.declared.objects.Column.{Column}
use Rattle.binlog_format.specs.declared.objects.Column.TheVariants.{Ints, Bools, Texts}
use Rattle.binlog_format.specs.declared.objects.InsertLog.{InsertLog}
use Rattle.binlog_format.specs.declared.objects.ListFile.{ListFile}
use Rattle.binlog_format.specs.Inserts.{IsInsertLog}
use Rattle.seg_sealed.specs.Segments.{SealedSegment, IsSealed, IsRowOf, kind_of, with_lists, sealed_rows, dim_of, kinds_of, position_of, stamp_of, key_of, fields_of, columns_from, log_of}
use Rattle.seg_sealed.specs.Fields.{first_in, others_in, value_in, row_of, rows_in, sealed_of, vectors_in, log_in, KeepsColumns}
use Rattle.seg_sealed.proofs.ColumnLaws.{cons_same}
use Rattle.seg_sealed.proofs.WordLaws.{vectors_are, column-length, column-at}
use Rattle.seg_sealed.proofs.LogLaws.{sealed_back, log_back, log_valid, segment_valid}

-- ---- a segment of rows

pub dim_first : (rows : List Placed) (x : Placed) → slice_get rows 0 ≡ Some x → dim_of rows ≡ length x.row.vector
dim_first [] x e = absurd (none_some x e)
  where
    none_some : (x : Placed) → None ≡ Some x → ⊥
    none_some x e = cc
dim_first (y ∷ rows) x e = ap (λ (z : Placed). length z.row.vector) (some_same y x e)
  where
    some_same : (y x : Placed) → Some y ≡ Some x → y ≡ x
    some_same y x e = cc

pub kinds_first : (rows : List Placed) (x : Placed) → slice_get rows 0 ≡ Some x → kinds_of rows ≡ map kind_of x.row.fields
kinds_first [] x e = absurd (none_some x e)
  where
    none_some : (x : Placed) → None ≡ Some x → ⊥
    none_some x e = cc
kinds_first (y ∷ rows) x e = ap (λ (z : Placed). map kind_of z.row.fields) (some_same y x e)
  where
    some_same : (y x : Placed) → Some y ≡ Some x → y ≡ x
    some_same y x e = cc

pub vectors_fit : (dim : ℕ) (kinds : List Kind) (rows : List Placed) → AllByRecursion (IsRowOf dim kinds) rows → AllByRecursion (λ vector. length vector ≡ dim) (map vector_of rows)
vectors_fit dim kinds [] all = tt
vectors_fit dim kinds (x ∷ rows) all = (all.0.vector, vectors_fit dim kinds rows all.1)

pub rows_of_dim : (dim : ℕ) (kinds : List Kind) (rows : List Placed) → AllByRecursion (IsRowOf dim kinds) rows → AllByRecursion (λ (x : Placed). length x.row.vector ≡ dim) rows
rows_of_dim dim kinds [] all = tt
rows_of_dim dim kinds (x ∷ rows) all = (all.0.vector, rows_of_dim dim kinds rows all.1)

-- columns that were filled from the rows of a segment make its log
pub log_is : (s : SealedSegment) → IsSealed s → (positions : List ℕ) (stamps : List Timestamp) (keys : List Key) (words : List ℕ) (columns : List Column)
    → positions ≡ map position_of s.rows → stamps ≡ map stamp_of s.rows → keys ≡ map key_of s.rows → IsColumn (width_of s.dim) (map vector_of s.rows) words → columns ≡ columns_from 0 s.kinds (map fields_of s.rows)
    → log_in s.number s.dim positions stamps keys words columns ≡ log_of s
log_is s is positions stamps keys words columns p t k w f i =
    let many : length positions ≡ length (map vector_of s.rows) = ap length p ∙ length-map s.rows position_of ∙ sym (length-map s.rows vector_of) in
    let vectors : vectors_in s.dim (length positions) words ≡ map vector_of s.rows = ap (λ n. vectors_in s.dim n words) many ∙ vectors_are s.dim (map vector_of s.rows) words (vectors_fit s.dim s.kinds s.rows is.rows) w in
    record { segment = s.number; dim = s.dim; positions = p i; stamps = t i; keys = k i; vectors = vectors i; columns = f i }

-- the log of a segment, and its words, are what the fields keep
pub kept_of : (s : SealedSegment) (words : List ℕ) → IsSealed s → IsColumn (width_of s.dim) (map vector_of s.rows) words → KeepsColumns (log_of s) words s.lists
kept_of s words is w = record {
  sealed = subst IsSealed (ap (λ r. with_lists r s.lists) (sym (sealed_back s is))) is;
  same = ap log_of (sealed_back s is);
  column = w;
}

pub seen_as : (s : SealedSegment) → IsSealed s → with_lists (sealed_of (log_of s)) s.lists ≡ s
seen_as s is = ap (λ r. with_lists r s.lists) (sealed_back s is)

-- ---- a segment of a log

pub log_of-log : (log : InsertLog) (words : List ℕ) → IsInsertLog log → IsColumn (width_of log.dim) log.vectors words → log_in log.segment log.dim log.positions log.stamps log.keys words log.columns ≡ log
log_of-log log words is w i =
    let vectors : vectors_in log.dim (length log.positions) words ≡ log.vectors = ap (λ n. vectors_in log.dim n words) (sym is.a_vector_each) ∙ vectors_are log.dim log.vectors words is.vectors w in
    record { segment = log.segment; dim = log.dim; positions = log.positions; stamps = log.stamps; keys = log.keys; vectors = vectors i; columns = log.columns }

pub kept_log : (log : InsertLog) (words : List ℕ) → IsInsertLog log → IsColumn (width_of log.dim) log.vectors words → KeepsColumns log words None
kept_log log words is w = record { sealed = segment_valid log is; same = log_back log is; column = w }

pub back_of : (log : InsertLog) (s : SealedSegment) → IsSealed s → log_of s ≡ log → with_lists (sealed_of log) None ≡ with_lists s None
back_of log s is e = ap (λ l. with_lists (sealed_of l) None) (sym e) ∙ ap (λ r. with_lists r None) (sealed_back s is)

-- ---- one row

value_first : (c : Column) → first_in c ≡ value_in 0 c
value_first (Ints []) = refl
value_first (Ints (n ∷ ns)) = refl
value_first (Bools []) = refl
value_first (Bools (b ∷ bs)) = refl
value_first (Texts []) = refl
value_first (Texts (t ∷ ts)) = refl

value_next : (i : ℕ) (c : Column) → value_in i (others_in c) ≡ value_in (suc i) c
value_next i (Ints []) = refl
value_next i (Ints (n ∷ ns)) = refl
value_next i (Bools []) = refl
value_next i (Bools (b ∷ bs)) = refl
value_next i (Texts []) = refl
value_next i (Texts (t ∷ ts)) = refl

values_first : (columns : List Column) → map first_in columns ≡ map (value_in 0) columns
values_first [] = refl
values_first (c ∷ columns) = cons_same (value_first c) (values_first columns)

values_next : (i : ℕ) (columns : List Column) → map (value_in i) (map others_in columns) ≡ map (value_in (suc i)) columns
values_next i [] = refl
values_next i (c ∷ columns) = cons_same (value_next i c) (values_next i columns)

none_some : (x : Placed) → None ≡ Some x → ⊥
none_some x e = cc

some_same : (y x : Placed) → Some y ≡ Some x → y ≡ x
some_same y x e = cc

-- the fields of a row
pub fields_at : (i : ℕ) (ps : List ℕ) (ts : List Timestamp) (ks : List Key) (vs : List (List Bool)) (columns : List Column) (x : Placed) → slice_get (rows_in ps ts ks vs columns) i ≡ Some x → x.row.fields ≡ map (value_in i) columns
fields_at zero [] ts ks vs columns x e = absurd (none_some x e)
fields_at (suc i) [] ts ks vs columns x e = absurd (none_some x e)
fields_at zero (p ∷ ps) [] ks vs columns x e = absurd (none_some x e)
fields_at (suc i) (p ∷ ps) [] ks vs columns x e = absurd (none_some x e)
fields_at zero (p ∷ ps) (t ∷ ts) [] vs columns x e = absurd (none_some x e)
fields_at (suc i) (p ∷ ps) (t ∷ ts) [] vs columns x e = absurd (none_some x e)
fields_at zero (p ∷ ps) (t ∷ ts) (k ∷ ks) [] columns x e = absurd (none_some x e)
fields_at (suc i) (p ∷ ps) (t ∷ ts) (k ∷ ks) [] columns x e = absurd (none_some x e)
fields_at zero (p ∷ ps) (t ∷ ts) (k ∷ ks) (v ∷ vs) columns x e = ap (λ (y : Placed). y.row.fields) (sym (some_same _ x e)) ∙ values_first columns
fields_at (suc i) (p ∷ ps) (t ∷ ts) (k ∷ ks) (v ∷ vs) columns x e = fields_at i ps ts ks vs (map others_in columns) x e ∙ values_next i columns

-- ---- one window of the words

length-vectors : (dim n : ℕ) (words : List ℕ) → length (vectors_in dim n words) ≡ n
length-vectors dim zero words = refl
length-vectors dim (suc n) words = ap suc (length-vectors dim n (drop (width_of dim) words))

pub words_whole : (dim n : ℕ) (words : List ℕ) → IsColumn (width_of dim) (vectors_in dim n words) words → n * width_of dim ≡ length words
words_whole dim n words is = ap (λ k. k * width_of dim) (sym (length-vectors dim n words)) ∙ sym (column-length (width_of dim) (vectors_in dim n words) words is)

pub window_fits : (dim n i : ℕ) (words : List ℕ) → IsColumn (width_of dim) (vectors_in dim n words) words → i < n → i * width_of dim + width_of dim ≤ length words
window_fits dim n i words is lt =
    let a : suc i * width_of dim ≤ n * width_of dim = mul-le-mul_right (width_of dim) (let e : suc i ≤ n = omega arith in e) in
    let b : suc i * width_of dim ≡ i * width_of dim + width_of dim = suc-mul i (width_of dim) in
    let d = words_whole dim n words is in
    omega arith

pub log_same : (log : InsertLog) (words : List ℕ) → IsInsertLog log → IsColumn (width_of log.dim) log.vectors words → (positions : List ℕ) (stamps : List Timestamp) (keys : List Key) (columns : List Column)
    → positions ≡ log.positions → stamps ≡ log.stamps → keys ≡ log.keys → columns ≡ log.columns → log_in log.segment log.dim positions stamps keys words columns ≡ log
log_same log words is w positions stamps keys columns p t k f i =
    let vectors : vectors_in log.dim (length positions) words ≡ log.vectors =
    ap (λ ps. vectors_in log.dim (length ps) words) p ∙ ap (λ n. vectors_in log.dim n words) (sym is.a_vector_each) ∙ vectors_are log.dim log.vectors words is.vectors w in
    record { segment = log.segment; dim = log.dim; positions = p i; stamps = t i; keys = k i; vectors = vectors i; columns = f i }

none_of : {A : Type 0} (x : A) → None ≡ Some x → ⊥
none_of x e = cc

same_of : {A : Type 0} (x y : A) → Some x ≡ Some y → x ≡ y
same_of x y e = cc

row_same : (k : Key) (v : List Bool) (fields : List Field) (row : Row) → row.key ≡ k → row.vector ≡ v → row.fields ≡ fields → row_of k v fields ≡ row
row_same k v fields row e d f i = record { key = sym e i; vector = sym d i; fields = sym f i }

-- a row that is told from its columns passes a filter where the row does
pub passes_at : (result : Bool) (filter : Filter) (i : ℕ) (k : Key) (ps : List ℕ) (ts : List Timestamp) (ks : List Key) (vs : List (List Bool)) (columns : List Column) (rows : List Placed) → rows_in ps ts ks vs columns ≡ rows
    → result ≡ passes (row_of k [] (map (value_in i) columns)) filter → (o : Option Placed) → slice_get rows i ≡ o → option_map key_of o ≡ Some k → IfSome o (λ x. result ≡ passes x.row filter)
passes_at result filter i k ps ts ks vs columns rows are is None e key = tt
passes_at result filter i k ps ts ks vs columns rows are is (Some x) e key =
    let fields = fields_at i ps ts ks vs columns x (ap (λ xs. slice_get xs i) are ∙ e) in
    let any : passes (row_of k [] (map (value_in i) columns)) filter ≡ passes (row_of k x.row.vector (map (value_in i) columns)) filter = refl in
    is ∙ any ∙ ap (λ r. passes r filter) (row_same k x.row.vector (map (value_in i) columns) x.row (same_of _ _ key) refl fields)

-- a row that is built from its columns is the row
pub row_at : (i : ℕ) (k : Key) (v : List Bool) (fields : List Field) (ps : List ℕ) (ts : List Timestamp) (ks : List Key) (vs : List (List Bool)) (columns : List Column) (rows : List Placed) → rows_in ps ts ks vs columns ≡ rows
    → fields ≡ map (value_in i) columns → (o : Option Placed) → slice_get rows i ≡ o → option_map key_of o ≡ Some k → option_map vector_of o ≡ Some v → option_map (λ (x : Placed). x.row) o ≡ Some (row_of k v fields)
row_at i k v fields ps ts ks vs columns rows are is None e key vector = absurd (none_of _ key)
row_at i k v fields ps ts ks vs columns rows are is (Some x) e key vector =
    ap (λ r. Some r) (sym (row_same k v fields x.row (same_of _ _ key) (same_of _ _ vector) (fields_at i ps ts ks vs columns x (ap (λ xs. slice_get xs i) are ∙ e) ∙ sym is)))

-- the words of a row
pub words_of-row : (dim i : ℕ) (words window : List ℕ) (rows : List Placed) → IsColumn (width_of dim) (map vector_of rows) words → window ≡ take (width_of dim) (drop (i * width_of dim) words) → (o : Option Placed) → slice_get rows i ≡ o → IfSome o (λ x. AreWordsOf x.row.vector window)
words_of-row dim i words window rows column is None e = tt
words_of-row dim i words window rows column is (Some x) e =
    subst (λ ws. AreWordsOf x.row.vector ws) (sym is) (column-at (width_of dim) (map vector_of rows) words i x.row.vector column (slice_get-map vector_of rows i ∙ ap (option_map vector_of) e))
