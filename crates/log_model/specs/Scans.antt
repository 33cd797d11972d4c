-- What a search finds in a log.
use Rattle.std.specs.Prelude.{◌≡◌, ℕ, Bool, true, List, map, length, Option, Some, None}
use Rattle.std.specs.List.{filter, AllByRecursion}
use Rattle.std.specs.FinMap as fin
use Rattle.row_types.specs.declared.rows.Row.{Row}
use Rattle.row_types.specs.declared.filters.Filter.{Filter}
use Rattle.row_types.specs.declared.hits.Hit.{Hit}
use Rattle.row_types.specs.Filters.{passes}
use Rattle.row_types.specs.Hits.{distance_of, least}
use Rattle.log_model.specs.declared.logs.Write.{Write}
use Rattle.log_model.specs.declared.logs.Write.TheVariants.{Insert, Upsert, Delete}
use Rattle.log_model.specs.declared.logs.Entry.{Entry}
use Rattle.log_model.specs.declared.queries.Query.{Query}
use Rattle.log_model.specs.declared.queries.Plan.{Plan}
use Rattle.log_model.specs.Logs.{live}

-- a row as a search finds it: its key, and its distance from the query's vector
abbrev pub hit_of : Plan → Query → Row → Hit
hit_of plan query row = record { distance = distance_of plan.metric query.vector row.vector; key = row.key }

-- whether a row passes a filter, where there is one
abbrev pub passes_filter : Option Filter → Row → Bool
passes_filter None row = true
passes_filter (Some condition) row = passes row condition

-- the rows that pass a test, as a search finds them
abbrev pub hits_found : (Row → Bool) → Plan → Query → List Row → List Hit
hits_found test plan query rows = map (hit_of plan query) (filter test rows)

-- the hits of a search: of the rows that are live at the timestamp and pass the query's filter, the k nearest, in rising order
unfoldable pub scan : List Entry → ℕ → Plan → Query → List Hit
scan log ts plan query = least query.k (hits_found (passes_filter query.filter) plan query (fin.values (live log ts)))

-- the row that a write brings has vectors of this dimension
abbrev pub FitsDimension : ℕ → Write → Type 0
FitsDimension dim (Insert row) = length row.vector ≡ dim
FitsDimension dim (Upsert row) = length row.vector ≡ dim
FitsDimension dim (Delete key) = Unit {0}

-- all vectors of a log have one dimension
abbrev pub HasDimension : ℕ → List Entry → Type 0
HasDimension dim log = AllByRecursion (λ entry. FitsDimension dim entry.write) log
