-- What a search finds in the parts of a view.
use Rattle.std.specs.Prelude.{ℕ, List, map}
use Rattle.std.specs.List.{filter}
use Rattle.row_types.specs.declared.rows.Row.{Row}
use Rattle.row_types.specs.declared.hits.Hit.{Hit}
use Rattle.row_types.specs.Hits.{least}
use Rattle.log_model.specs.declared.queries.Query.{Query}
use Rattle.log_model.specs.declared.queries.Plan.{Plan}
use Rattle.log_model.specs.Scans.{passes_filter, hits_found}
use Rattle.journal_model.specs.Lists.{joined}
use Rattle.journal_model.specs.Views.{Shown, View, is_visible}

-- the rows that are visible at a timestamp, in their order, each as often as it stands there
abbrev pub rows_seen : ℕ → List Shown → List Row
rows_seen t rows = map (λ s. s.row) (filter (is_visible t) rows)

-- of the rows that are visible at a timestamp, those that pass the query's filter, as a search finds them
abbrev pub hits_seen : ℕ → Plan → Query → List Shown → List Hit
hits_seen t plan query rows = hits_found (passes_filter query.filter) plan query (rows_seen t rows)

-- the hits of a search in a view: of the rows that are visible at the timestamp in some part and pass the query's filter,
-- the k nearest, in rising order
abbrev pub found_in : View → ℕ → Plan → Query → List Hit
found_in view t plan query = least query.k (hits_seen t plan query (joined view.parts))
