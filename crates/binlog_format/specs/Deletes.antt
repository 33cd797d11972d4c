-- The delete log: its one spelling, and reading it.
use Rattle.std.specs.Prelude.{◌≡◌, ℕ, ◌*◌, ◌+◌, ◌^◌, ◌<◌, ◌≤◌, List, [], ◌∷◌, ◌++◌, length, Option, Some, None, codes, nat_lt, nat_le, if◌then◌else◌}
use Rattle.std.specs.Int.{w32, w64, to_le_bytes}
use Rattle.std.specs.List.{AllByRecursion, concat, flat_map}
use Rattle.hybrid_time.specs.declared.times.Timestamp.{Timestamp}
use Rattle.binlog_format.specs.declared.objects.DeleteLog.{DeleteLog}
use Rattle.binlog_format.specs.declared.refusals.FormatKind.{FormatKind}
use Rattle.binlog_format.specs.declared.refusals.FormatKind.TheVariants.{Range, Order}
use Rattle.binlog_format.specs.Reading.{Item, ◌>>=◌, gives, whole, number, checked, between, items}
use Rattle.binlog_format.specs.Fields.{InTurn, magic, segment_number}

-- a row number and a timestamp
abbrev pub mark_bytes : ℕ × Timestamp → List ℕ
mark_bytes mark = to_le_bytes w32 mark.0 ++ to_le_bytes w64 mark.1.0

-- the one spelling of a delete log, field by field
abbrev pub delete_bytes : DeleteLog → List ℕ
delete_bytes log = concat (
    codes "MANUDEL1"
    ∷ to_le_bytes w64 log.segment
    ∷ to_le_bytes w64 log.applied
    ∷ to_le_bytes w32 (length log.marks)
    ∷ flat_map mark_bytes log.marks
    ∷ [])

-- the least row that the next mark may have
abbrev pub after_mark : ℕ → ℕ × Timestamp → ℕ
after_mark least mark = mark.0 + 1

-- a mark of a row that a segment can have, and that is not below the least
abbrev pub IsMarkFrom : ℕ → ℕ × Timestamp → Type 0
IsMarkFrom least mark = (mark.0 < 65536) × (least ≤ mark.0)

-- the rules of a delete log; its rows rise strictly
pub record IsDeleteLog (log : DeleteLog) : Type 0 where
  pub segment : log.segment < 2 ^ 60
  pub count : length log.marks ≤ 65536
  pub marks : InTurn IsMarkFrom after_mark 0 log.marks

-- each number fits its field
pub record DeletesFit (log : DeleteLog) : Type 0 where
  pub applied : log.applied < 2 ^ 64
  pub stamps : AllByRecursion (λ mark. mark.1.0 < 2 ^ 64) log.marks

-- the bytes are the spelling of this delete log
pub record SpellsDeletes (bytes : List ℕ) (log : DeleteLog) : Type 0 where
  pub rules : IsDeleteLog log
  pub fit : DeletesFit log
  pub spelling : bytes ≡ delete_bytes log

-- a row number that no segment has is refused before one that does not rise
abbrev pub row_rule : ℕ → ℕ → Option FormatKind
row_rule least row = if nat_le 65536 row then Some Range else (if nat_lt row least then Some Order else None)

unfoldable pub mark_at : ℕ → Item (ℕ × Timestamp)
mark_at least = do
  row ← checked (number w32) (row_rule least)
  ts ← number w64
  gives (row, record { 0 = ts })

unfoldable pub marks_at : ℕ → Item (List (ℕ × Timestamp))
marks_at count = whole (12 * count) (items mark_at after_mark count 0)

unfoldable pub delete_log : Item DeleteLog
delete_log = do
  name ← magic (codes "MANUDEL1")
  segment ← segment_number
  applied ← number w64
  count ← between 0 65536
  marks ← marks_at count
  gives (record { segment = segment; applied = applied; marks = marks })
