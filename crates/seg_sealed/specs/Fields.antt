-- How the fields of the types are seen, and what they keep; only proofs need it.
use Rattle.std.specs.Prelude.{◌≡◌, ◌≢◌, ◌<◌, ◌≤◌, ◌-◌, nat_eq, ℕ, zero, suc, ℤ, pos, slice_index_or, Bool, false, List, [], ◌∷◌, ◌++◌, length, map, take, drop, Option, None, refl}
use Rattle.std.specs.Int.Bits.{bit_and}
use Rattle.std.specs.List.{count_by}
use Rattle.hybrid_time.specs.declared.times.Timestamp.{Timestamp}
use Rattle.row_types.specs.declared.rows.Key.{Key}
use Rattle.row_types.specs.declared.rows.Kind.{Kind}
use Rattle.row_types.specs.declared.rows.Kind.TheVariants as kind
use Rattle.row_types.specs.declared.rows.Field.{Field}
use Rattle.row_types.specs.declared.rows.Field.TheVariants as field
use Rattle.row_types.specs.declared.rows.Row.{Row}
use Rattle.row_types.specs.Bits.{bits_in}
use Rattle.log_model.specs.Places.{Placed, placed, IsColumn, width_of}
use Rattle.binlog_format.specs.declared.objects.Column.{Column}
use Rattle.binlog_format.specs.declared.objects.Column.TheVariants.{Ints, Bools, Texts}
use Rattle.binlog_format.specs.declared.objects.InsertLog.{InsertLog}
use Rattle.binlog_format.specs.declared.objects.ListFile.{ListFile}
use Rattle.seg_sealed.specs.Segments.{SealedSegment, IsSealed, with_lists, log_of}
use Rattle.seg_sealed.specs.Marks.{RowsRise}

-- ---- rows in columns

abbrev pub kind_in : Column → Kind
kind_in (Ints ns) = kind.Int
kind_in (Bools truths) = kind.Bool
kind_in (Texts texts) = kind.Text

abbrev pub first_or : {A : Type 0} → A → List A → A
first_or d [] = d
first_or d (x ∷ xs) = x

abbrev pub first_in : Column → Field
first_in (Ints ns) = field.Int (first_or (pos 0) ns)
first_in (Bools truths) = field.Bool (first_or false truths)
first_in (Texts texts) = field.Text (first_or [] texts)

abbrev pub behind : {A : Type 0} → List A → List A
behind [] = []
behind (x ∷ xs) = xs

abbrev pub others_in : Column → Column
others_in (Ints ns) = Ints (behind ns)
others_in (Bools truths) = Bools (behind truths)
others_in (Texts texts) = Texts (behind texts)

-- the value of a row in a column; behind the column's end there is none, and 0, false or the empty text stands for it
abbrev pub value_in : ℕ → Column → Field
value_in at (Ints ns) = field.Int (slice_index_or ns at (pos 0))
value_in at (Bools truths) = field.Bool (slice_index_or truths at false)
value_in at (Texts texts) = field.Text (slice_index_or texts at [])

abbrev pub row_of : Key → List Bool → List Field → Row
row_of key vector fields = record { key = key; vector = vector; fields = fields }

-- the rows that stand in columns side by side
abbrev pub rows_in : List ℕ → List Timestamp → List Key → List (List Bool) → List Column → List Placed
rows_in (p ∷ ps) (t ∷ ts) (k ∷ ks) (v ∷ vs) columns = placed p t.0 (row_of k v (map first_in columns)) ∷ rows_in ps ts ks vs (map others_in columns)
rows_in ps ts ks vs columns = []

-- the segment of an insert log
abbrev pub sealed_of : InsertLog → SealedSegment
sealed_of log = record { number = log.segment; dim = log.dim; kinds = map kind_in log.columns; rows = rows_in log.positions log.stamps log.keys log.vectors log.columns; lists = None }

-- the first n vectors of this dimension that stand in a column of words
abbrev pub vectors_in : ℕ → ℕ → List ℕ → List (List Bool)
vectors_in dim zero words = []
vectors_in dim (suc n) words = take dim (bits_in 64 (take (width_of dim) words)) ∷ vectors_in dim n (drop (width_of dim) words)

-- the fields of a sealed segment as an insert log
abbrev pub log_in : ℕ → ℕ → List ℕ → List Timestamp → List Key → List ℕ → List Column → InsertLog
log_in number dim positions stamps keys words columns = record { segment = number; dim = dim; positions = positions; stamps = stamps; keys = keys; vectors = vectors_in dim (length positions) words; columns = columns }

-- the columns are those of the segment that they are seen as, and the words those of its vectors
pub record KeepsColumns (log : InsertLog) (words : List ℕ) (lists : Option ListFile) : Type 0 where
  pub sealed : IsSealed (with_lists (sealed_of log) lists)
  pub same : log_of (sealed_of log) ≡ log
  pub column : IsColumn (width_of log.dim) log.vectors words

-- ---- marks

-- no two marks of one row
unfoldable pub AreApart : List (ℕ × Timestamp) → Type 0
AreApart marks = (row : ℕ) → count_by (λ mark. nat_eq mark.0 row) marks ≤ 1

pub record KeepsMarks (frozen latest : List (ℕ × Timestamp)) : Type 0 where
  pub rise : RowsRise frozen
  pub apart : AreApart (frozen ++ latest)

-- ---- the latest marks

-- the latest marks in the order in which they were made, and how many more are taken without memory
pub record LatestMarks : Type 0 where
  pub marks : List (ℕ × Timestamp)
  pub spare : ℕ

-- the slot of a row, of so many
abbrev pub slot_of : ℕ → ℕ → ℕ
slot_of slots row = bit_and row (slots - 1)

abbrev pub row_at : List (ℕ × Timestamp) → ℕ → ℕ
row_at marks i = (slice_index_or marks i (0, record { 0 = 0 })).0

-- the last of the first n marks whose row has this slot: its number plus 1, and 0 where there is none
pub record IsLast (slots slot : ℕ) (marks : List (ℕ × Timestamp)) (n at : ℕ) : Type 0 where
  pub bound : at ≤ n
  pub later : (i : ℕ) → at ≤ i → i < n → slot_of slots (row_at marks i) ≢ slot
  pub here : 0 < at → slot_of slots (row_at marks (at - 1)) ≡ slot

-- the marks of each slot form a chain from the last to the first
pub record KeepsChains (slots : ℕ) (marks : List (ℕ × Timestamp)) (before last : List ℕ) : Type 0 where
  pub some : 0 < slots
  pub width : length last ≡ slots
  pub many : length before ≡ length marks
  pub ends : (slot : ℕ) → slot < slots → IsLast slots slot marks (length marks) (slice_index_or last slot 0)
  pub links : (i : ℕ) → i < length marks → IsLast slots (slot_of slots (row_at marks i)) marks i (slice_index_or before i 0)

pub record KeepsLatest (spare room : ℕ) (marks : List (ℕ × Timestamp)) (before last : List ℕ) : Type 0 where
  pub enough : spare ≤ room
  pub chains : KeepsChains (length last) marks before last
