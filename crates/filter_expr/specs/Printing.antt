-- The text of a filter.
use Rattle.std.specs.Prelude.{ℕ, ◌==◌, Bool, true, false, ◌||◌, if◌then◌else◌, List, [], ◌∷◌, ◌++◌, map, slice_get, codes, Option, Some, None}
use Rattle.std.specs.Fmt.{signed_decimal}
use Rattle.row_types.specs.declared.rows.Kind.{Kind}
use Rattle.row_types.specs.declared.rows.Field.{Field}
use Rattle.row_types.specs.declared.rows.Field.TheVariants as field
use Rattle.row_types.specs.declared.filters.Operand.{Operand}
use Rattle.row_types.specs.declared.filters.Operand.TheVariants.{Key, Column}
use Rattle.row_types.specs.declared.filters.CompareOp.{CompareOp}
use Rattle.row_types.specs.declared.filters.CompareOp.TheVariants.{Equal, NotEqual, Less, LessEqual, Greater, GreaterEqual}
use Rattle.row_types.specs.declared.filters.Filter.{Filter}
use Rattle.row_types.specs.declared.filters.Filter.TheOpen.{Filter-F}
use Rattle.row_types.specs.declared.filters.Filter.TheFolds.{fold-Filter}
use Rattle.row_types.specs.Schemas.{Columns}
use Rattle.filter_expr.specs.declared.printing.Level.{Level}
use Rattle.filter_expr.specs.declared.printing.Level.TheVariants as level

-- a backslash before each quote and backslash
abbrev pub escaped : List ℕ → List ℕ
escaped [] = []
escaped (b ∷ bs) = if b == 34 || b == 92 then 92 ∷ b ∷ escaped bs else b ∷ escaped bs

abbrev pub truth_text : Bool → List ℕ
truth_text true = codes "true"
truth_text false = codes "false"

abbrev pub literal_text : Field → List ℕ
literal_text (field.Int n) = signed_decimal n
literal_text (field.Bool b) = truth_text b
literal_text (field.Text t) = codes "\"" ++ escaped t ++ codes "\""

abbrev pub name_of : Option (List ℕ × Kind) → List ℕ
name_of None = []
name_of (Some column) = column.0

abbrev pub operand_text : Columns → Operand → List ℕ
operand_text columns Key = codes "key"
operand_text columns (Column at) = name_of (slice_get columns at)

abbrev pub op_text : CompareOp → List ℕ
op_text Equal = codes "=="
op_text NotEqual = codes "!="
op_text Less = codes "<"
op_text LessEqual = codes "<="
op_text Greater = codes ">"
op_text GreaterEqual = codes ">="

-- each text behind a separator, and texts with it between
abbrev pub each_behind : List ℕ → List (List ℕ) → List ℕ
each_behind separator [] = []
each_behind separator (text ∷ texts) = separator ++ text ++ each_behind separator texts

abbrev pub separated : List ℕ → List (List ℕ) → List ℕ
separated separator [] = []
separated separator (text ∷ texts) = text ++ each_behind separator texts

-- whether a part of one level stands in brackets where another level is the least
abbrev pub is_below : Level → Level → Bool
is_below level.Any level.All = true
is_below level.Any level.One = true
is_below level.All level.One = true
is_below part least = false

abbrev pub part_text : Level → Level × List ℕ → List ℕ
part_text least part = if is_below part.0 least then codes "(" ++ part.1 ++ codes ")" else part.1

-- one level of a filter, with the level and the text of each part in its place
abbrev pub written_at : Columns → Filter-F (Level × List ℕ) → Level × List ℕ
written_at columns (Filter-F.Any parts) = (level.Any, separated (codes " || ") (map (part_text level.All) parts))
written_at columns (Filter-F.All parts) = (level.All, separated (codes " && ") (map (part_text level.One) parts))
written_at columns (Filter-F.Not part) = (level.One, codes "!" ++ part_text level.One part)
written_at columns (Filter-F.Truth operand) = (level.One, operand_text columns operand)
written_at columns (Filter-F.Compare left op right) = (level.One, operand_text columns left ++ codes " " ++ op_text op ++ codes " " ++ literal_text right)
written_at columns (Filter-F.OneOf left choices) = (level.One, operand_text columns left ++ codes " in [" ++ separated (codes ", ") (map literal_text choices) ++ codes "]")

abbrev pub written : Columns → Filter → Level × List ℕ
written columns = fold-Filter (Level × List ℕ) (written_at columns)

-- the text of a filter, and of a part of another
abbrev pub text_of : Columns → Filter → List ℕ
text_of columns filter = (written columns filter).1

abbrev pub text_within : Columns → Level → Filter → List ℕ
text_within columns least filter = part_text least (written columns filter)

-- the texts of the members of a level, each behind a sign, and with the sign between
abbrev pub members_behind : Columns → List ℕ → Level → List Filter → List ℕ
members_behind columns sign least members = each_behind sign (map (part_text least) (map (written columns) members))

abbrev pub members_text : Columns → List ℕ → Level → List Filter → List ℕ
members_text columns sign least members = separated sign (map (part_text least) (map (written columns) members))
