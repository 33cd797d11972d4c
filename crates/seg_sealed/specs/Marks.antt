-- Which rows of a segment died, and when.
use Rattle.std.specs.Prelude.{ℕ, ◌<◌, List, [], ◌∷◌, map, Option}
use Rattle.std.specs.List.{AllByRecursion}
use Rattle.std.specs.Ordering.{nat_cmp}
use Rattle.std.specs.FinMap as fin
use Rattle.hybrid_time.specs.declared.times.Timestamp.{Timestamp}
use Rattle.binlog_format.specs.declared.objects.DeleteLog.{DeleteLog}

-- the deaths of rows, each a row number and a timestamp, in rising order of row numbers; the position of the
-- journal up to which deaths were marked; and how many more marks are taken without memory
pub record Marked : Type 0 where
  pub deaths : List (ℕ × ℕ)
  pub applied : ℕ
  pub spare : ℕ

-- the timestamp of a row's death
abbrev pub death_at : ℕ → List (ℕ × ℕ) → Option ℕ
death_at row deaths = fin.find nat_cmp row deaths

-- the deaths with one more, in its place
abbrev pub with_death : ℕ → ℕ → List (ℕ × ℕ) → List (ℕ × ℕ)
with_death row ts deaths = fin.put nat_cmp row ts deaths

-- a mark, a row number and a timestamp, with the timestamp as a number
abbrev pub death_of : ℕ × Timestamp → ℕ × ℕ
death_of mark = (mark.0, mark.1.0)

-- the deaths of a list of marks, in rising order
abbrev pub deaths_in : List (ℕ × Timestamp) → List (ℕ × ℕ)
deaths_in marks = fin.entries (fin.from_entries {R = nat_cmp} (map death_of marks))

-- marks in rising order of their rows
abbrev pub RowsRise : List (ℕ × Timestamp) → Type 0
RowsRise [] = Unit {0}
RowsRise (mark ∷ marks) = AllByRecursion (λ later. mark.0 < later.0) marks × RowsRise marks

abbrev pub mark_of : ℕ × ℕ → ℕ × Timestamp
mark_of death = (death.0, record { 0 = death.1 })

-- the delete log of a segment
abbrev pub delete_log_of : ℕ → ℕ → List (ℕ × ℕ) → DeleteLog
delete_log_of segment applied deaths = record { segment = segment; applied = applied; marks = map mark_of deaths }
