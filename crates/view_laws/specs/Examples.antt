-- A small view and the logs of two channels, which the laws on examples speak of.
use Rattle.std.specs.Prelude.{ℕ, ℤ, pos, Bool, true, false, if◌then◌else◌, List, [], ◌∷◌, Option, Some, None}
use Rattle.std.specs.Ordering.{int_eq}
use Rattle.row_types.specs.declared.rows.Row.{Row}
use Rattle.row_types.specs.declared.hits.Hit.{Hit}
use Rattle.row_types.specs.declared.hits.Metric.TheVariants as metrics
use Rattle.row_types.specs.declared.hits.Distance.TheVariants.{Hamming}
use Rattle.log_model.specs.declared.logs.Entry.{Entry}
use Rattle.log_model.specs.declared.logs.Write.TheVariants.{Upsert, Delete}
use Rattle.log_model.specs.declared.queries.Query.{Query}
use Rattle.log_model.specs.declared.queries.Plan.{Plan}
use Rattle.journal_model.specs.Views.{Shown, View}

abbrev pub row : ℕ → List Bool → Row
row key vector = record { key = record { 0 = pos key }; vector = vector; fields = [] }

abbrev pub shown_at : ℕ → ℕ → Option ℕ → Row → Shown
shown_at position ts mark row = record { position = position; ts = ts; row = row; mark = mark }

-- the row of key 1 was put at 2 and died at 5; that of key 2 was put at 3, and stands at two places
abbrev pub dying : Shown
dying = shown_at 0 2 (Some 5) (row 1 (true ∷ false ∷ []))

abbrev pub staying : Shown
staying = shown_at 1 3 None (row 2 (true ∷ true ∷ []))

abbrev pub small : View
small = record { floor = 0; tick = 9; parts = (dying ∷ []) ∷ (staying ∷ []) ∷ (staying ∷ []) ∷ [] }

abbrev pub by_bits : Plan
by_bits = record { metric = metrics.Hamming }

-- the rows that are nearest to 11
abbrev pub nearest : ℕ → Query
nearest k = record { vector = true ∷ true ∷ []; k = k; filter = None }

abbrev pub hit : ℕ → ℕ → Hit
hit distance key = record { distance = Hamming distance; key = record { 0 = pos key } }

-- ---- two channels

-- key 2 belongs to channel 1, and each other key to channel 0
abbrev pub channel_of : ℤ → ℕ
channel_of key = if int_eq key (pos 2) then 1 else 0

abbrev pub put : ℕ → ℕ → Entry
put ts key = record { ts = record { 0 = ts }; write = Upsert (row key (true ∷ [])) }

abbrev pub removed : ℕ → ℕ → Entry
removed ts key = record { ts = record { 0 = ts }; write = Delete (record { 0 = pos key }) }

abbrev pub two_logs : List (List Entry)
two_logs = (put 2 1 ∷ removed 4 1 ∷ []) ∷ (put 2 2 ∷ put 3 2 ∷ []) ∷ []

-- the logs of two channels that share a key
abbrev pub sharing_logs : List (List Entry)
sharing_logs = (put 1 1 ∷ []) ∷ (removed 2 1 ∷ []) ∷ []
