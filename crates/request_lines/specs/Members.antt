-- The values of the members of a request: each definition gives the value that the member has, or None
-- where it has none that an operation takes.
use Rattle.std.specs.Prelude.{ℕ, ℤ, ◌-◌, ◌^◌, ◌==◌, nat_le, Bool, true, List, [], ◌∷◌, length, Option, Some, None, option_and_then, option_map, if◌then◌else◌, codes}
use Rattle.std.specs.List.{list_all}
use Rattle.std.specs.Option.{option_flatten}
use Rattle.std.specs.Result.{result_ok}
use Rattle.serde_json.specs.Data.{Data, null, boolean, number, string, array, object, Members, no_members, member}
use Rattle.serde_json.specs.Find.{as_bool, as_i64, as_str, as_object}
use Rattle.row_types.specs.Schemas.{Columns, Given, arranged}
use Rattle.row_types.specs.Spelling.{vector_of}
use Rattle.row_types.specs.declared.filters.Filter.{Filter}
use Rattle.row_types.specs.declared.rows.Field.{Field}
use Rattle.row_types.specs.declared.rows.Field.TheVariants.{Int, Bool as Truth, Text}
use Rattle.hybrid_time.specs.declared.levels.Level.{Level}
use Rattle.hybrid_time.specs.declared.levels.Level.TheVariants.{Strong, Bounded, Session, Eventually}
use Rattle.filter_expr.specs.Grammar.{filter_of}
use Rattle.request_lines.specs.Json.{Line, at, text_at, integer_at, between, number_in, stated, named, onto}

-- ---- `caller`

abbrev pub max_caller : ℕ
max_caller = 15

-- by default 0
unfoldable pub caller_at : Line → Option ℕ
caller_at line = stated 0 (number_in 0 max_caller) (at (codes "caller") line)

-- ---- `key` and `vector`

unfoldable pub key_at : Line → Option ℤ
key_at line = integer_at (codes "key") line

unfoldable pub vector_text_at : Line → Option (List ℕ)
vector_text_at line = text_at (codes "vector") line

-- the vector that a text spells
unfoldable pub spelled : ℕ → List ℕ → Option (List Bool)
spelled dim text = result_ok (vector_of text dim)

abbrev pub vector_at : ℕ → Line → Option (List Bool)
vector_at dim line = option_and_then (spelled dim) (vector_text_at line)

-- ---- `fields`

abbrev pub short_text : List ℕ → Option Field
short_text text = if nat_le (length text) 1024 then Some (Text text) else None

-- an integer, a truth value, or a text of at most 1,024 bytes
unfoldable pub field_of : Data → Option Field
field_of null = None
field_of (boolean bit) = Some (Truth bit)
field_of (number n) = option_map Int (as_i64 n)
field_of (string text) = short_text text
field_of (array ds) = None
field_of (object ms) = None

abbrev pub named_field : List ℕ → Data → Option (List ℕ × Field)
named_field name d = option_map (λ field. (name, field)) (field_of d)

-- the fields that the members of an object give
abbrev pub given_in : Members → Option Given
given_in no_members = Some []
given_in (member name d ms) = onto (named_field name d) (given_in ms)

-- the fields that are given by name, by default none
unfoldable pub given_at : Line → Option Given
given_at line = stated [] (λ d. option_and_then given_in (as_object d)) (at (codes "fields") line)

-- in the order of the columns
unfoldable pub in_columns : Columns → Given → Option (List Field)
in_columns columns given = result_ok (arranged columns given)

abbrev pub fields_at : Columns → Line → Option (List Field)
fields_at columns line = option_and_then (in_columns columns) (given_at line)

-- ---- `k`

abbrev pub max_k : ℕ
max_k = 16384

unfoldable pub k_at : Line → Option ℕ
k_at line = option_and_then (between 1 max_k) (integer_at (codes "k") line)

-- ---- `level` and `delta_ms`

abbrev pub milliseconds_of : Data → Option ℕ
milliseconds_of d = number_in 0 (2 ^ 32 - 1) d

-- by default 5,000
abbrev pub stated_delta : Option Data → Option ℕ
stated_delta delta = stated 5000 milliseconds_of delta

-- no other level takes milliseconds
abbrev pub alone : Level → Option Data → Option Level
alone level None = Some level
alone level (Some delta) = None

-- the levels by their names, beside what stands at `delta_ms`
abbrev pub levels : Option Data → List (List ℕ × Option Level)
levels delta = (codes "Bounded", option_map Bounded (stated_delta delta)) ∷ (codes "Strong", alone Strong delta) ∷ (codes "Session", alone Session delta) ∷ (codes "Eventually", alone Eventually delta) ∷ []

abbrev pub level_of : Option Data → List ℕ → Option Level
level_of delta name = option_flatten (named (levels delta) name)

-- by default Bounded
unfoldable pub level_at : Line → Option Level
level_at line = option_and_then (level_of (at (codes "delta_ms") line)) (stated (codes "Bounded") as_str (at (codes "level") line))

-- ---- `filter`

-- no bytes, or only spaces
abbrev pub is_blank : List ℕ → Bool
is_blank text = list_all (λ b. b == 32) text

-- the filter that a text spells
unfoldable pub parsed : Columns → List ℕ → Option Filter
parsed columns text = result_ok (filter_of columns text)

-- a text of at most 4,096 bytes that is a filter, or is blank and so is none
abbrev pub filter_in : Columns → List ℕ → Option (Option Filter)
filter_in columns text = if nat_le (length text) 4096 then (if is_blank text then Some None else option_map Some (parsed columns text)) else None

-- by default no filter
unfoldable pub filter_at : Columns → Line → Option (Option Filter)
filter_at columns line = stated None (λ d. option_and_then (filter_in columns) (as_str d)) (at (codes "filter") line)

-- ---- `wait`

-- by default true
unfoldable pub wait_at : Line → Option Bool
wait_at line = stated true as_bool (at (codes "wait") line)
