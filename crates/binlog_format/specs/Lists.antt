-- The list file: its one spelling, and reading it.
use Rattle.std.specs.Prelude.{◌≡◌, ℕ, ◌*◌, ◌+◌, ◌-◌, ◌^◌, ◌<◌, ◌≤◌, ◌==◌, ◌||◌, Bool, false, not, ◌&&◌, slice_index_or, List, [], ◌∷◌, ◌++◌, length, map, sum, codes, nat_lt, nat_le, nat_eq, Option, Some, None, if◌then◌else◌}
use Rattle.std.specs.Int.{w32, w64, to_le_bytes}
use Rattle.std.specs.List.{concat, flat_map, list_any}
use Rattle.binlog_format.specs.declared.objects.ListFile.{ListFile}
use Rattle.binlog_format.specs.declared.refusals.FormatKind.{FormatKind}
use Rattle.binlog_format.specs.declared.refusals.FormatKind.TheVariants.{Range, Order, Sum}
use Rattle.binlog_format.specs.Reading.{Item, ◌>>=◌, gives, whole, number, checked, unless, between, items}
use Rattle.binlog_format.specs.Fields.{InTurn, magic, segment_number}

-- ---- the spelling

-- the row numbers of a list, one after another
abbrev pub list_bytes : List ℕ → List ℕ
list_bytes = flat_map (to_le_bytes w32)

-- the one spelling of a list file, field by field
abbrev pub list_file_bytes : ListFile → List ℕ
list_file_bytes file = concat (
    codes "MANULST1"
    ∷ to_le_bytes w64 file.segment
    ∷ to_le_bytes w32 file.version
    ∷ to_le_bytes w32 (length file.lists)
    ∷ to_le_bytes w32 (length (concat file.lists))
    ∷ flat_map (to_le_bytes w32) (map length file.lists)
    ∷ flat_map list_bytes file.lists
    ∷ [])

-- ---- the rules

abbrev pub stands_in : ℕ → List ℕ → Bool
stands_in row rows = list_any (nat_eq row) rows

-- where a row number stands: behind these ones, in a list where it is to be at least this
pub record Within : Type 0 where
  pub before : List ℕ
  pub least : ℕ

-- a row number below the rows, which did not stand before, and above the one before it in its list
pub record IsRow (rows : ℕ) (place : Within) (row : ℕ) : Type 0 where
  pub below : row < rows
  pub once : stands_in row place.before ≡ false
  pub rises : place.least ≤ row

abbrev pub after_row : Within → ℕ → Within
after_row place row = record { before = place.before ++ row ∷ []; least = row + 1 }

-- a list of rows behind these ones
abbrev pub IsList : ℕ → List ℕ → List ℕ → Type 0
IsList rows before list = InTurn (IsRow rows) after_row (record { before = before; least = 0 }) list

abbrev pub joined : List ℕ → List ℕ → List ℕ
joined before list = before ++ list

-- the rules of a list file; since as many row numbers stand in the lists as there are rows, and none of
-- them twice, each row stands in exactly one list
pub record IsListFile (file : ListFile) : Type 0 where
  pub segment : file.segment < 2 ^ 60
  pub some_lists : 1 ≤ length file.lists
  pub count : length file.lists ≤ 1024
  pub some_rows : 1 ≤ length (concat file.lists)
  pub rows : length (concat file.lists) ≤ 65536
  pub lists : InTurn (IsList (length (concat file.lists))) joined [] file.lists

-- the bytes are the spelling of this list file
pub record SpellsLists (bytes : List ℕ) (file : ListFile) : Type 0 where
  pub rules : IsListFile file
  pub fit : file.version < 2 ^ 32
  pub spelling : bytes ≡ list_file_bytes file

-- ---- writing

abbrev pub IsShortList : List ℕ → Type 0
IsShortList list = length list ≤ 65536

abbrev pub length_bytes : List ℕ → List ℕ
length_bytes list = to_le_bytes w32 (length list)

-- ---- reading

-- a length of at most the rows that are left
abbrev pub length_at : ℕ → Item ℕ
length_at left = checked (number w32) (unless Sum (λ n. nat_le n left))

abbrev pub left_after : ℕ → ℕ → ℕ
left_after left n = left - n

-- lengths that sum to the rows
unfoldable pub lengths_at : ℕ → ℕ → Item (List ℕ)
lengths_at count rows = do
  lengths ← whole (4 * count) (items length_at left_after count rows)
  checked (gives lengths) (unless Sum (λ ns. sum ns == rows))

-- a row number that is none or that stood before is refused before one that does not rise
abbrev pub row_rule : ℕ → Within → ℕ → Option FormatKind
row_rule rows place row = if nat_le rows row || stands_in row place.before then Some Range else (if nat_lt row place.least then Some Order else None)

unfoldable pub row_at : ℕ → Within → Item ℕ
row_at rows place = checked (number w32) (row_rule rows place)

-- the row numbers that were read, and the lengths of the lists to come
pub record Filling : Type 0 where
  pub before : List ℕ
  pub lengths : List ℕ

abbrev pub first : List ℕ → ℕ
first [] = 0
first (n ∷ ns) = n

abbrev pub rest : List ℕ → List ℕ
rest [] = []
rest (n ∷ ns) = ns

abbrev pub list_at : ℕ → Filling → Item (List ℕ)
list_at rows state = items (row_at rows) after_row (first state.lengths) (record { before = state.before; least = 0 })

abbrev pub after_list : Filling → List ℕ → Filling
after_list state list = record { before = state.before ++ list; lengths = rest state.lengths }

unfoldable pub lists_at : ℕ → List ℕ → Item (List (List ℕ))
lists_at rows lengths = whole (4 * rows) (items (list_at rows) after_list (length lengths) (record { before = []; lengths = lengths }))

unfoldable pub list_file : Item ListFile
list_file = do
  name ← magic (codes "MANULST1")
  segment ← segment_number
  version ← number w32
  count ← between 1 1024
  rows ← between 1 65536
  lengths ← lengths_at count rows
  lists ← lists_at rows lengths
  gives (record { segment = segment; version = version; lists = lists })

-- the mark of each row tells whether it stood before
pub record IsSeen (rows : ℕ) (before : List ℕ) (seen : List Bool) : Type 0 where
  pub for_each : length seen ≡ rows
  pub marks : (row : ℕ) → row < rows → slice_index_or seen row false ≡ stands_in row before

-- a row number by the marks of those that stood before
abbrev pub is_free : List Bool → ℕ → Bool
is_free seen row = nat_lt row (length seen) && not (slice_index_or seen row false)

abbrev pub marked_rule : List Bool → ℕ → ℕ → Option FormatKind
marked_rule seen least row = if is_free seen row then (if nat_lt row least then Some Order else None) else Some Range

abbrev pub marked_row : List Bool → ℕ → Item ℕ
marked_row seen least = checked (number w32) (marked_rule seen least)
