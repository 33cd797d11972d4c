-- The key index and the marks of rows, as each note changes them. A shard keeps such tables beside its
-- journal; they give what the deaths of rows say, so they need not be believed.
use Rattle.std.specs.Prelude.{ℕ, ℤ, nat_eq, if◌then◌else◌, List, length, Option, Some, None}
use Rattle.std.specs.Ordering.{int_eq}
use Rattle.row_types.specs.declared.rows.Row.{Row}
use Rattle.log_model.specs.Places.{Placed, placed}
use Rattle.journal_model.specs.declared.notes.PutKind.{PutKind}
use Rattle.journal_model.specs.declared.notes.PutKind.TheVariants.{Insert, Upsert}
use Rattle.journal_model.specs.declared.notes.Kind.{Kind}
use Rattle.journal_model.specs.declared.notes.Kind.TheVariants.{Put, Remove}
use Rattle.journal_model.specs.declared.notes.Note.{Note}
use Rattle.journal_model.specs.Walks.{walked}

-- ---- the key index: the place of the live row of a key

abbrev pub over : Option Placed → PutKind → Placed → Option Placed
over None how x = Some x
over (Some old) Insert x = Some old
over (Some old) Upsert x = Some x

abbrev pub reindexed : ℤ → List Note → Option Placed → Kind → Option Placed
reindexed key before now (Put ts how row) = if int_eq key row.key.0 then over now how (placed (length before) ts.0 row) else now
reindexed key before now (Remove ts removed) = if int_eq key removed.0 then None else now
reindexed key before now _ = now

-- the live row of a key after all notes
abbrev pub index_of : List Note → ℤ → Option Placed
index_of notes key = walked (λ before now note. reindexed key before now note.kind) None notes

-- ---- marks by positions

abbrev pub end_at : ℕ → Option Placed → Option (ℕ × ℕ)
end_at ts None = None
end_at ts (Some x) = Some (x.position, ts)

abbrev pub put_ends : List Note → ℕ → PutKind → Row → Option (ℕ × ℕ)
put_ends notes ts Insert row = None
put_ends notes ts Upsert row = end_at ts (index_of notes row.key.0)

-- the position of the row that a note ends, and when
abbrev pub ends : List Note → Kind → Option (ℕ × ℕ)
ends notes (Put ts how row) = put_ends notes ts.0 how row
ends notes (Remove ts key) = end_at ts.0 (index_of notes key.0)
ends notes _ = None

-- the mark of a row at a position after a row was ended
abbrev pub marked : Option (ℕ × ℕ) → ℕ → Option ℕ → Option ℕ
marked None position mark = mark
marked (Some end) position mark = if nat_eq end.0 position then Some end.1 else mark
