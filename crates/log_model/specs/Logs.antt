-- A log of writes, and the rows that it leaves.
use Rattle.std.specs.Prelude.{◌≡◌, ◌≢◌, ◌⊎◌, ℕ, ◌<◌, ◌≤◌, Bool, List, [], ◌∷◌, map, if◌then◌else◌, nat_le, nat_lt, ℤ}
use Rattle.std.specs.List.{filter, AllByRecursion}
use Rattle.std.specs.Ordering.{int_cmp}
use Rattle.std.specs.FinMap as fin
use Rattle.row_types.specs.declared.rows.Row.{Row}
use Rattle.hybrid_time.specs.declared.times.Timestamp.{Timestamp}
use Rattle.log_model.specs.declared.logs.Write.{Write}
use Rattle.log_model.specs.declared.logs.Write.TheVariants.{Insert, Upsert, Delete}
use Rattle.log_model.specs.declared.logs.Entry.{Entry}

-- the key of which a change is
abbrev pub key_of : Write → ℤ
key_of (Insert row) = row.key.0
key_of (Upsert row) = row.key.0
key_of (Delete key) = key.0

-- an entry may stand before another: it is at a lower timestamp, or at the same one and of another key
abbrev pub IsBefore : Entry → Entry → Type 0
IsBefore entry later = (entry.ts.0 < later.ts.0) ⊎ ((entry.ts.0 ≡ later.ts.0) × (key_of entry.write ≢ key_of later.write))

-- timestamps never fall along a log, and entries of one timestamp are of different keys
abbrev pub IsLog : List Entry → Type 0
IsLog [] = Unit {0}
IsLog (entry ∷ log) = AllByRecursion (IsBefore entry) log × IsLog log

-- changes that are written together: of different keys
abbrev pub IsWrite : List Write → Type 0
IsWrite [] = Unit {0}
IsWrite (change ∷ changes) = AllByRecursion (λ other. key_of change ≢ key_of other) changes × IsWrite changes

-- the entries of changes that are written at one timestamp
abbrev pub entries_at : Timestamp → List Write → List Entry
entries_at ts changes = map (λ change. record { ts = ts; write = change }) changes

-- the entries at or below a timestamp
abbrev pub up_to : List Entry → ℕ → List Entry
up_to log ts = filter (λ entry. nat_le entry.ts.0 ts) log

-- the entries strictly below a timestamp
abbrev pub below : List Entry → ℕ → List Entry
below log ts = filter (λ entry. nat_lt entry.ts.0 ts) log

-- the rows of keys, each key at most once
abbrev pub Rows : Type 0
Rows = fin.FinMap int_cmp Row

-- an insert leaves the row of a live key as it is
abbrev pub applied : Rows → Write → Rows
applied rows (Insert row) = if fin.contains_key rows row.key.0 then rows else fin.insert rows row.key.0 row
applied rows (Upsert row) = fin.insert rows row.key.0 row
applied rows (Delete key) = fin.remove rows key.0

abbrev pub after : Rows → List Entry → Rows
after rows [] = rows
after rows (entry ∷ log) = after (applied rows entry.write) log

-- the rows that a log leaves
unfoldable pub rows_of : List Entry → Rows
rows_of log = after fin.empty log

-- the rows that are live at a timestamp
abbrev pub live : List Entry → ℕ → Rows
live log ts = rows_of (up_to log ts)

-- whether the key of a write was live before its timestamp
abbrev pub was_live : List Entry → ℕ → Write → Bool
was_live log ts write = fin.contains_key (rows_of (below log ts)) (key_of write)

-- all entries are above a timestamp
abbrev pub IsAbove : ℕ → List Entry → Type 0
IsAbove ts log = AllByRecursion (λ entry. ts < entry.ts.0) log

-- all entries are below a timestamp
abbrev pub IsBelow : ℕ → List Entry → Type 0
IsBelow ts log = AllByRecursion (λ entry. entry.ts.0 < ts) log

-- no entry is below a timestamp
abbrev pub IsFrom : ℕ → List Entry → Type 0
IsFrom ts log = AllByRecursion (λ entry. ts ≤ entry.ts.0) log
