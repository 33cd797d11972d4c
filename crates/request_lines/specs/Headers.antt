-- The header line: which lines make a collection, and which one.
use Rattle.std.specs.Prelude.{◌≡◌, ℕ, ℤ, ◌%◌, ◌&&◌, ◌==◌, Bool, false, List, [], ◌∷◌, Option, Some, None, option_and_then, option_map, unwrap_or, is_some, if◌then◌else◌, codes}
use Rattle.std.specs.Str.{bytes_eq}
use Rattle.serde_json.specs.Data.{Data, Items, no_items, item}
use Rattle.serde_json.specs.Find.{as_array}
use Rattle.row_types.specs.declared.hits.Metric.{Metric}
use Rattle.row_types.specs.declared.hits.Metric.TheVariants.{Hamming, Jaccard}
use Rattle.row_types.specs.declared.rows.Kind.{Kind}
use Rattle.row_types.specs.declared.rows.Kind.TheVariants.{Int, Bool as Truth, Text}
use Rattle.row_types.specs.Schemas.{Columns}
use Rattle.coarse_lists.specs.Schemas.{is_schema}
use Rattle.coarse_lists.specs.declared.collections.Collection.{Collection}
use Rattle.coarse_lists.specs.declared.collections.Index.TheVariants.{Flat}
use Rattle.request_lines.specs.declared.refusals.HeaderError.{HeaderError}
use Rattle.request_lines.specs.declared.refusals.HeaderError.TheVariants.{NotCreate, Memory}
use Rattle.request_lines.specs.Json.{Line, line_of, at, text_at, integer_at, between, number_in, has_only, stated, named, named_by, onto}

-- ---- the members of the header

abbrev pub header_members : List (List ℕ)
header_members = codes "op" ∷ codes "dim" ∷ codes "metric" ∷ codes "channels" ∷ codes "seal_rows" ∷ codes "fields" ∷ []

-- whether `op` is `create`
abbrev pub creates : Line → Bool
creates line = unwrap_or (option_map (λ op. bytes_eq op (codes "create")) (text_at (codes "op") line)) false

abbrev pub whole_bytes : ℕ → Option ℕ
whole_bytes bits = if bits % 8 == 0 then Some bits else None

-- a dimension is a multiple of 8 from 8 to 4,096
abbrev pub dimension_of : ℤ → Option ℕ
dimension_of n = option_and_then whole_bytes (between 8 4096 n)

unfoldable pub dimension_at : Line → Option ℕ
dimension_at line = option_and_then dimension_of (integer_at (codes "dim") line)

abbrev pub metrics : List (List ℕ × Metric)
metrics = (codes "HAMMING", Hamming) ∷ (codes "JACCARD", Jaccard) ∷ []

unfoldable pub metric_at : Line → Option Metric
metric_at line = stated Hamming (named_by metrics) (at (codes "metric") line)

-- 1 to 16, by default 1
unfoldable pub channels_at : Line → Option ℕ
channels_at line = stated 1 (number_in 1 16) (at (codes "channels") line)

-- 2 to 65,536, by default 1,024
unfoldable pub seal_rows_at : Line → Option ℕ
seal_rows_at line = stated 1024 (number_in 2 65536) (at (codes "seal_rows") line)

abbrev pub kinds : List (List ℕ × Kind)
kinds = (codes "INT64", Int) ∷ (codes "BOOL", Truth) ∷ (codes "VARCHAR", Text) ∷ []

-- the column that an object of exactly `name` and `type` is
unfoldable pub column_of : Data → Option (List ℕ × Kind)
column_of d =
    if has_only (codes "name" ∷ codes "type" ∷ []) (Some d)
    then option_and_then (λ name. option_map (λ kind. (name, kind)) (option_and_then (named kinds) (text_at (codes "type") (Some d)))) (text_at (codes "name") (Some d))
    else None

-- the columns of an array
abbrev pub columns_of : Items → Option Columns
columns_of no_items = Some []
columns_of (item d ds) = onto (column_of d) (columns_of ds)

abbrev pub allowed : Columns → Option Columns
allowed columns = if is_schema columns then Some columns else None

-- by default none
abbrev pub stated_columns : Line → Option Columns
stated_columns line = stated [] (λ d. option_and_then columns_of (as_array d)) (at (codes "fields") line)

unfoldable pub columns_at : Line → Option Columns
columns_at line = option_and_then allowed (stated_columns line)

-- ---- the collection

-- whether a line is a `create` line: it has no other members, and each of its members is as it has to be
abbrev pub is_header : Line → Bool
is_header line =
    has_only header_members line && creates line && is_some (dimension_at line) && is_some (metric_at line) && is_some (channels_at line)
    && is_some (seal_rows_at line) && is_some (columns_at line)

-- all else by default
abbrev pub collection_of : ℕ → Metric → ℕ → ℕ → Columns → Collection
collection_of dim metric channels seal_rows columns = record {
  dim = dim;
  metric = metric;
  channels = channels;
  nodes = 1;
  seal_rows = seal_rows;
  index = Flat;
  schema = record { columns = columns };
}

-- The collection of a `create` line. What stands here beside its members is never taken: they are there.
abbrev pub collection_in : Line → Collection
collection_in line =
    collection_of (unwrap_or (dimension_at line) 0) (unwrap_or (metric_at line) Hamming) (unwrap_or (channels_at line) 0) (unwrap_or (seal_rows_at line) 0)
    (unwrap_or (columns_at line) [])

abbrev pub header_in : Line → Option Collection
header_in line = if is_header line then Some (collection_in line) else None

-- the collection that the first line makes, where it is a `create` line
abbrev pub header_of : List ℕ → Option Collection
header_of bytes = header_in (line_of bytes)

-- an error is free where it is want of memory, and else there is no header
abbrev pub RefusesHeader : Option Collection → HeaderError → Type 0
RefusesHeader read Memory = Unit {0}
RefusesHeader read NotCreate = read ≡ None
