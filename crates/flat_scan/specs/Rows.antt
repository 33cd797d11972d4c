-- Rows by their number; only proofs need it.
use Rattle.std.specs.Prelude.{◌≡◌, ℕ, ◌+◌, ◌≤◌, pos, Bool, List, [], length, take, get_or, slice_get, Some, None}
use Rattle.std.specs.List.{AllByRecursion}
use Rattle.row_types.specs.Hits.{distance_of}
use Rattle.row_types.specs.declared.hits.Metric.{Metric}
use Rattle.row_types.specs.declared.hits.Distance.{Distance}
use Rattle.log_model.specs.declared.queries.Query.{Query}
use Rattle.log_model.specs.declared.queries.Plan.{Plan}
use Rattle.log_model.specs.Places.{Placed, placed}
use Rattle.journal_model.specs.Views.{Shown}
use Rattle.seg_sealed.specs.Parts.{shown_as}
use Rattle.top_list.specs.Kept.{Kept, Offered}
use Rattle.view_laws.specs.Found.{hits_seen}

abbrev pub no_row : Placed
no_row = placed 0 0 (record { key = record { 0 = pos 0 }; vector = []; fields = [] })

-- the row of a number; behind the last there is none, and an empty row stands for it
abbrev pub row_at : List Placed → ℕ → Placed
row_at rows i = get_or rows i no_row

abbrev pub shown_at : List Shown → ℕ → Shown
shown_at rows i = get_or rows i (shown_as no_row None)

abbrev pub vector_shown : Shown → List Bool
vector_shown s = s.row.vector

-- a distance for each row: that of the query's vector from the row's
pub record AreDistances (plan : Plan) (query : Query) (rows : List Shown) (count : ℕ) (far : ℕ → Distance) : Type 0 where
  pub all : length rows ≤ count
  pub each : (i : ℕ) (s : Shown) → slice_get rows i ≡ Some s → far i ≡ distance_of plan.metric query.vector s.row.vector

-- distances are those of the query's vector from the rows' vectors, from a row on
abbrev pub AreFar : Plan → Query → List Shown → ℕ → List Distance → Type 0
AreFar plan query rows from distances = (j : ℕ) (d : Distance) → slice_get distances j ≡ Some d → (s : Shown) → slice_get rows (from + j) ≡ Some s
    → d ≡ distance_of plan.metric query.vector s.row.vector

-- the rows from one up to another were offered to a list, behind those before them
abbrev pub AreOffered : ℕ → Plan → Query → List Shown → ℕ → ℕ → Kept → Kept → Type 0
AreOffered ts plan query rows from to old now = (first : Kept) → Offered first old (hits_seen ts plan query (take from rows))
    → Offered first now (hits_seen ts plan query (take to rows))

-- the vectors of rows have the dimension of the query's
abbrev pub HaveVectorsLike : Query → List Shown → Type 0
HaveVectorsLike query rows = AllByRecursion (λ s. length query.vector ≡ length s.row.vector) rows

-- the bits of each row, and those that are asked for, are as far from each other as the row's vector is from the query's
pub record HoldsVectors (query : Query) (rows : List Shown) (count : ℕ) (asked : List Bool) (bits : ℕ → List Bool) : Type 0 where
  pub all : length rows ≤ count
  pub each : (i : ℕ) (s : Shown) → slice_get rows i ≡ Some s → (metric : Metric)
      → distance_of metric asked (bits i) ≡ distance_of metric query.vector s.row.vector
