-- Rows by the place of their put, and their death.
use Rattle.std.specs.Prelude.{◌≡◌, ℕ, ℤ, ◌+◌, ◌≤◌, nat_le, Bool, false, if◌then◌else◌, List, [], ◌∷◌, length, take, drop, slice_get, Option, Some, None}
use Rattle.std.specs.Option.{option_and_then, option_or}
use Rattle.std.specs.Ordering.{int_eq}
use Rattle.std.specs.FinMap as fin
use Rattle.row_types.specs.declared.rows.Row.{Row}
use Rattle.log_model.specs.Places.{Placed, placed}
use Rattle.journal_model.specs.declared.notes.PutKind.{PutKind}
use Rattle.journal_model.specs.declared.notes.PutKind.TheVariants.{Insert, Upsert}
use Rattle.journal_model.specs.declared.notes.Kind.{Kind}
use Rattle.journal_model.specs.declared.notes.Kind.TheVariants.{Put, Remove}
use Rattle.journal_model.specs.declared.notes.Note.{Note}
use Rattle.journal_model.specs.Notes.{live_in}

-- a put is effective where it is an upsert, or an insert of a key that is not live before it
abbrev pub effective_put : List Note → ℕ → PutKind → Row → Option Placed
effective_put before ts Insert row = if fin.contains_key (live_in before) row.key.0 then None else Some (placed (length before) ts row)
effective_put before ts Upsert row = Some (placed (length before) ts row)

-- the row that a note adds behind the notes before; its position counts them
abbrev pub effective : List Note → Kind → Option Placed
effective before (Put ts how row) = effective_put before ts.0 how row
effective before _ = None

-- the row that was added at a position
abbrev pub put_at : List Note → ℕ → Option Placed
put_at notes position = option_and_then (λ note. effective (take position notes) note.kind) (slice_get notes position)

-- an upsert ends the older row of its key, an insert none
abbrev pub ended_by : ℕ → PutKind → Option ℕ
ended_by ts Insert = None
ended_by ts Upsert = Some ts

-- the timestamp of a note that ends a row of the key
abbrev pub ended : ℤ → Kind → Option ℕ
ended key (Put ts how row) = if int_eq key row.key.0 then ended_by ts.0 how else None
ended key (Remove ts removed) = if int_eq key removed.0 then Some ts.0 else None
ended key _ = None

-- the timestamp of the first of some notes that ends a row of the key
abbrev pub first_end : ℤ → List Note → Option ℕ
first_end key [] = None
first_end key (note ∷ notes) = option_or (ended key note.kind) (first_end key notes)

-- the timestamp of the first note behind a position that is an upsert or a remove of the key
abbrev pub dead_at : List Note → ℕ → ℤ → Option ℕ
dead_at notes position key = first_end key (drop (position + 1) notes)

-- when a row died, if it did
abbrev pub death : List Note → Placed → Option ℕ
death notes x = dead_at notes x.position x.row.key.0

-- a death at or before a timestamp
abbrev pub is_dead_by : ℕ → Option ℕ → Bool
is_dead_by t None = false
is_dead_by t (Some ts) = nat_le ts t

-- a row that was added at or before a timestamp and is not dead there
pub record IsAlive (notes : List Note) (t : ℕ) (x : Placed) : Type 0 where
  pub put : put_at notes x.position ≡ Some x
  pub old : x.ts ≤ t
  pub alive : is_dead_by t (death notes x) ≡ false
