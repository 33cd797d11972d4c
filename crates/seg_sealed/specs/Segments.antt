-- A sealed segment, and the insert log of its rows.
use Rattle.std.specs.Prelude.{◌≡◌, ℕ, suc, ℤ, pos, slice_index_or, ◌^◌, ◌<◌, ◌≤◌, Bool, false, List, [], ◌∷◌, length, map, Option, None}
use Rattle.std.specs.Option.{IfSome}
use Rattle.std.specs.List.{AllByRecursion, concat}
use Rattle.hybrid_time.specs.declared.times.Timestamp.{Timestamp}
use Rattle.row_types.specs.declared.rows.Key.{Key}
use Rattle.row_types.specs.declared.rows.Kind.{Kind}
use Rattle.row_types.specs.declared.rows.Kind.TheVariants as kind
use Rattle.row_types.specs.declared.rows.Field.{Field}
use Rattle.row_types.specs.declared.rows.Field.TheVariants as field
use Rattle.row_types.specs.Bits.{IsDimension}
use Rattle.log_model.specs.Places.{Placed, Rise, vector_of}
use Rattle.binlog_format.specs.declared.objects.Column.{Column}
use Rattle.binlog_format.specs.declared.objects.Column.TheVariants.{Ints, Bools, Texts}
use Rattle.binlog_format.specs.declared.objects.InsertLog.{InsertLog}
use Rattle.binlog_format.specs.declared.objects.ListFile.{ListFile}
use Rattle.binlog_format.specs.Lists.{IsListFile}

-- a segment that no row is added to any more: its number, the dimension of its vectors, the kinds of its
-- columns, its rows in order, and the lists of its rows, if they were made
pub record SealedSegment : Type 0 where
  pub number : ℕ
  pub dim : ℕ
  pub kinds : List Kind
  pub rows : List Placed
  pub lists : Option ListFile

-- ---- the rules

abbrev pub kind_of : Field → Kind
kind_of (field.Int n) = kind.Int
kind_of (field.Bool truth) = kind.Bool
kind_of (field.Text text) = kind.Text

abbrev pub IsShortField : Field → Type 0
IsShortField (field.Int n) = Unit {0}
IsShortField (field.Bool truth) = Unit {0}
IsShortField (field.Text text) = length text ≤ 1024

-- a row of a dimension and of columns of these kinds, with no long text
pub record IsRowOf (dim : ℕ) (kinds : List Kind) (x : Placed) : Type 0 where
  pub vector : length x.row.vector ≡ dim
  pub fields : map kind_of x.row.fields ≡ kinds
  pub short : AllByRecursion IsShortField x.row.fields

-- a list file of a segment
pub record AreListsOf (number rows : ℕ) (file : ListFile) : Type 0 where
  pub valid : IsListFile file
  pub segment : file.segment ≡ number
  pub all : length (concat file.lists) ≡ rows

-- what every sealed segment keeps
pub record IsSealed (s : SealedSegment) : Type 0 where
  pub number : s.number < 2 ^ 60
  pub dim : IsDimension s.dim
  pub width : length s.kinds ≤ 16
  pub some : 1 ≤ length s.rows
  pub few : length s.rows ≤ 65536
  pub rise : Rise s.rows
  pub rows : AllByRecursion (IsRowOf s.dim s.kinds) s.rows
  pub lists : IfSome s.lists (AreListsOf s.number (length s.rows))

-- the dimension and the kinds of the first row
abbrev pub dim_of : List Placed → ℕ
dim_of [] = 0
dim_of (x ∷ rows) = length x.row.vector

abbrev pub kinds_of : List Placed → List Kind
kinds_of [] = []
kinds_of (x ∷ rows) = map kind_of x.row.fields

-- a segment of some rows, without lists
abbrev pub sealed_rows : ℕ → List Placed → SealedSegment
sealed_rows number rows = record { number = number; dim = dim_of rows; kinds = kinds_of rows; rows = rows; lists = None }

abbrev pub with_lists : SealedSegment → Option ListFile → SealedSegment
with_lists s lists = record { number = s.number; dim = s.dim; kinds = s.kinds; rows = s.rows; lists = lists }

-- ---- columns

abbrev pub position_of : Placed → ℕ
position_of x = x.position

abbrev pub stamp_of : Placed → Timestamp
stamp_of x = record { 0 = x.ts }

abbrev pub key_of : Placed → Key
key_of x = x.row.key

abbrev pub fields_of : Placed → List Field
fields_of x = x.row.fields

-- the value of a field of a kind; a field of another kind has none, and counts as 0, false or empty
abbrev pub int_of : Field → ℤ
int_of (field.Int n) = n
int_of (field.Bool truth) = pos 0
int_of (field.Text text) = pos 0

abbrev pub bool_of : Field → Bool
bool_of (field.Int n) = false
bool_of (field.Bool truth) = truth
bool_of (field.Text text) = false

abbrev pub text_of : Field → List ℕ
text_of (field.Int n) = []
text_of (field.Bool truth) = []
text_of (field.Text text) = text

-- a column of fields of one kind
abbrev pub column_of : Kind → List Field → Column
column_of kind.Int fields = Ints (map int_of fields)
column_of kind.Bool fields = Bools (map bool_of fields)
column_of kind.Text fields = Texts (map text_of fields)

-- the field of a row in a column; behind the row's last field there is none, and false stands for it
abbrev pub field_at : ℕ → List Field → Field
field_at at fields = slice_index_or fields at (field.Bool false)

-- columns of these kinds, from a column on, of the fields of each row
abbrev pub columns_from : ℕ → List Kind → List (List Field) → List Column
columns_from at [] rows = []
columns_from at (kind ∷ kinds) rows = column_of kind (map (field_at at) rows) ∷ columns_from (suc at) kinds rows

-- the insert log of a segment
abbrev pub log_of : SealedSegment → InsertLog
log_of s = record { segment = s.number; dim = s.dim; positions = map position_of s.rows; stamps = map stamp_of s.rows; keys = map key_of s.rows; vectors = map vector_of s.rows; columns = columns_from 0 s.kinds (map fields_of s.rows) }
