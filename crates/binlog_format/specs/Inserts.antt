-- The insert log: its one spelling, and reading it.
use Rattle.std.specs.Prelude.{◌≡◌, ℕ, ℤ, zero, suc, ◌*◌, ◌/◌, ◌%◌, ◌^◌, ◌<◌, ◌≤◌, ◌==◌, ◌&&◌, Bool, true, cond, List, [], ◌∷◌, ◌++◌, length, codes, nat_lt, nat_le, Option, Some, None, FitsSigned, slice_index}
use Rattle.std.specs.Int.{w32, w64, to_le_bytes, cast_signed, cast_unsigned}
use Rattle.std.specs.List.{AllByRecursion, concat, flat_map}
use Rattle.std.specs.Str.{is_utf8}
use Rattle.hybrid_time.specs.declared.times.Timestamp.{Timestamp}
use Rattle.row_types.specs.declared.rows.Key.{Key}
use Rattle.row_types.specs.Bits.{bits_in, bytes_of, IsDimension}
use Rattle.binlog_format.specs.declared.objects.Column.{Column}
use Rattle.binlog_format.specs.declared.objects.Column.TheVariants.{Ints, Bools, Texts}
use Rattle.binlog_format.specs.declared.objects.InsertLog.{InsertLog}
use Rattle.binlog_format.specs.declared.refusals.FormatKind.TheVariants.{Range, Order, Utf8}
use Rattle.binlog_format.specs.Reading.{Item, ◌>>=◌, gives, whole, bytes, number, checked, unless, between, items}
use Rattle.binlog_format.specs.Fields.{InTurn, magic, segment_number, byte, run}

-- ---- the spelling

abbrev pub stamp_bytes : Timestamp → List ℕ
stamp_bytes ts = to_le_bytes w64 ts.0

-- a signed number in two's complement
abbrev pub int_bytes : ℤ → List ℕ
int_bytes n = to_le_bytes w64 (cast_unsigned w64 n)

abbrev pub key_bytes : Key → List ℕ
key_bytes key = int_bytes key.0

abbrev pub bool_bytes : Bool → List ℕ
bool_bytes truth = cond truth 1 0 ∷ []

-- a text behind its length
abbrev pub text_bytes : List ℕ → List ℕ
text_bytes text = to_le_bytes w32 (length text) ++ text

-- the byte of a column's kind
abbrev pub kind_byte : Column → ℕ
kind_byte (Ints ints) = 0
kind_byte (Bools bools) = 1
kind_byte (Texts texts) = 2

-- the values of a column, one after another
abbrev pub values : Column → List ℕ
values (Ints ints) = flat_map int_bytes ints
values (Bools bools) = flat_map bool_bytes bools
values (Texts texts) = flat_map text_bytes texts

abbrev pub column_bytes : Column → List ℕ
column_bytes column = (kind_byte column ∷ []) ++ values column

-- the one spelling of an insert log, field by field
abbrev pub insert_bytes : InsertLog → List ℕ
insert_bytes log = concat (
    codes "MANUINS1"
    ∷ to_le_bytes w64 log.segment
    ∷ to_le_bytes w32 log.dim
    ∷ to_le_bytes w32 (length log.positions)
    ∷ to_le_bytes w32 (length log.columns)
    ∷ flat_map (to_le_bytes w64) log.positions
    ∷ flat_map stamp_bytes log.stamps
    ∷ flat_map key_bytes log.keys
    ∷ flat_map bytes_of log.vectors
    ∷ flat_map column_bytes log.columns
    ∷ [])

-- ---- the rules

-- a position above the one before it
abbrev pub IsAbove : Option ℕ → ℕ → Type 0
IsAbove None position = Unit {0}
IsAbove (Some before) position = before < position

abbrev pub after_position : Option ℕ → ℕ → Option ℕ
after_position before position = Some position

-- a timestamp that is not below the one before it
abbrev pub IsStampFrom : ℕ → Timestamp → Type 0
IsStampFrom least ts = least ≤ ts.0

abbrev pub after_stamp : ℕ → Timestamp → ℕ
after_stamp least ts = ts.0

-- a text of at most 1,024 bytes
abbrev pub IsShort : List ℕ → Type 0
IsShort text = length text ≤ 1024

-- a column with no longer text
abbrev pub HasShortTexts : Column → Type 0
HasShortTexts (Ints ints) = Unit {0}
HasShortTexts (Bools bools) = Unit {0}
HasShortTexts (Texts texts) = AllByRecursion IsShort texts

-- a value for each of n rows, and no longer text
abbrev pub IsColumn : ℕ → Column → Type 0
IsColumn n (Ints ints) = length ints ≡ n
IsColumn n (Bools bools) = length bools ≡ n
IsColumn n (Texts texts) = (length texts ≡ n) × AllByRecursion IsShort texts

-- the rules of an insert log: its positions rise strictly, its timestamps do not fall, and each row has
-- a key, a vector of the dimension and a value in each column
pub record IsInsertLog (log : InsertLog) : Type 0 where
  pub segment : log.segment < 2 ^ 60
  pub dim : IsDimension log.dim
  pub some_rows : 1 ≤ length log.positions
  pub rows : length log.positions ≤ 65536
  pub width : length log.columns ≤ 16
  pub positions : InTurn IsAbove after_position None log.positions
  pub a_stamp_each : length log.stamps ≡ length log.positions
  pub stamps : InTurn IsStampFrom after_stamp 0 log.stamps
  pub a_key_each : length log.keys ≡ length log.positions
  pub a_vector_each : length log.vectors ≡ length log.positions
  pub vectors : AllByRecursion (λ vector. length vector ≡ log.dim) log.vectors
  pub columns : AllByRecursion (IsColumn (length log.positions)) log.columns

-- bytes that are UTF-8
pub record IsText (text : List ℕ) : Type 0 where
  pub utf8 : is_utf8 text ≡ true
  pub bytes : (i : ℕ) → slice_index text i < 256

-- each number fits its field, and each text is UTF-8
abbrev pub ColumnFits : Column → Type 0
ColumnFits (Ints ints) = AllByRecursion (FitsSigned w64) ints
ColumnFits (Bools bools) = Unit {0}
ColumnFits (Texts texts) = AllByRecursion IsText texts

pub record InsertsFit (log : InsertLog) : Type 0 where
  pub positions : AllByRecursion (λ position. position < 2 ^ 64) log.positions
  pub stamps : AllByRecursion (λ ts. ts.0 < 2 ^ 64) log.stamps
  pub keys : AllByRecursion (λ key. FitsSigned w64 key.0) log.keys
  pub columns : AllByRecursion ColumnFits log.columns

-- the bytes are the spelling of this insert log
pub record SpellsInserts (bytes : List ℕ) (log : InsertLog) : Type 0 where
  pub rules : IsInsertLog log
  pub fit : InsertsFit log
  pub spelling : bytes ≡ insert_bytes log

-- ---- reading

abbrev pub is_dimension : ℕ → Bool
is_dimension dim = dim % 8 == 0 && nat_le 8 dim && nat_le dim 4096

abbrev pub dimension : Item ℕ
dimension = checked (number w32) (unless Range is_dimension)

abbrev pub is_above : Option ℕ → ℕ → Bool
is_above None position = true
is_above (Some before) position = nat_lt before position

unfoldable pub position_at : Option ℕ → Item ℕ
position_at before = checked (number w64) (unless Order (is_above before))

unfoldable pub positions_at : ℕ → Item (List ℕ)
positions_at n = whole (8 * n) (items position_at after_position n None)

unfoldable pub stamp_at : ℕ → Item Timestamp
stamp_at least = do
  ts ← checked (number w64) (unless Order (λ n. nat_le least n))
  gives (record { 0 = ts })

unfoldable pub stamps_at : ℕ → Item (List Timestamp)
stamps_at n = whole (8 * n) (items stamp_at after_stamp n 0)

unfoldable pub int_at : Item ℤ
int_at = do
  n ← number w64
  gives (cast_signed w64 n)

unfoldable pub key_at : Item Key
key_at = do
  n ← int_at
  gives (record { 0 = n })

unfoldable pub keys_at : ℕ → Item (List Key)
keys_at n = whole (8 * n) (run n key_at)

unfoldable pub vector_at : ℕ → Item (List Bool)
vector_at dim = do
  found ← bytes (dim / 8)
  gives (bits_in 8 found)

unfoldable pub vectors_at : ℕ → ℕ → Item (List (List Bool))
vectors_at dim n = whole (n * (dim / 8)) (run n (vector_at dim))

unfoldable pub ints_at : ℕ → Item (List ℤ)
ints_at n = whole (8 * n) (run n int_at)

unfoldable pub bool_at : Item Bool
bool_at = do
  found ← checked byte (unless Range (λ b. nat_le b 1))
  gives (found == 1)

unfoldable pub bools_at : ℕ → Item (List Bool)
bools_at n = whole n (run n bool_at)

unfoldable pub text_at : Item (List ℕ)
text_at = do
  len ← between 0 1024
  checked (bytes len) (unless Utf8 is_utf8)

abbrev pub texts_at : ℕ → Item (List (List ℕ))
texts_at n = run n text_at

-- the values of a column of this kind
unfoldable pub values_at : ℕ → ℕ → Item Column
values_at n zero = do
  ints ← ints_at n
  gives (Ints ints)
values_at n (suc zero) = do
  bools ← bools_at n
  gives (Bools bools)
values_at n (suc (suc kind)) = do
  texts ← texts_at n
  gives (Texts texts)

unfoldable pub column_at : ℕ → Item Column
column_at n = do
  kind ← checked byte (unless Range (λ b. nat_le b 2))
  values_at n kind

unfoldable pub insert_log : Item InsertLog
insert_log = do
  name ← magic (codes "MANUINS1")
  segment ← segment_number
  dim ← dimension
  n ← between 1 65536
  width ← between 0 16
  positions ← positions_at n
  stamps ← stamps_at n
  keys ← keys_at n
  vectors ← vectors_at dim n
  columns ← run width (column_at n)
  gives (record { segment = segment; dim = dim; positions = positions; stamps = stamps; keys = keys; vectors = vectors; columns = columns })
