-- Which columns a collection may have, and which values stand in its rows.
use Rattle.std.specs.Prelude.{ℕ, ◌==◌, nat_le, Bool, true, false, not, ◌&&◌, ◌||◌, List, [], ◌∷◌, length, codes}
use Rattle.std.specs.Char.{is_ascii_alphabetic, is_ascii_digit}
use Rattle.std.specs.List.{list_any, list_all}
use Rattle.std.specs.Str.{bytes_eq}
use Rattle.row_types.specs.declared.rows.Field.{Field}
use Rattle.row_types.specs.declared.rows.Field.TheVariants.{Int, Bool as Truth, Text}
use Rattle.row_types.specs.Schemas.{Columns, is_kind}

-- ---- the names of columns

abbrev pub is_letter : ℕ → Bool
is_letter b = is_ascii_alphabetic b || b == 95

abbrev pub is_name_byte : ℕ → Bool
is_name_byte b = is_letter b || is_ascii_digit b

-- a letter or `_`, then letters, digits or `_`
abbrev pub is_word : List ℕ → Bool
is_word [] = false
is_word (first ∷ others) = is_letter first && list_all is_name_byte others

-- what the filter language reads as something else than a column
abbrev pub taken_names : List (List ℕ)
taken_names = codes "key" ∷ codes "and" ∷ codes "or" ∷ codes "not" ∷ codes "in" ∷ codes "true" ∷ codes "false" ∷ []

-- a name has 1 to 64 bytes
abbrev pub is_column_name : List ℕ → Bool
is_column_name name = is_word name && nat_le (length name) 64 && not (list_any (bytes_eq name) taken_names)

-- ---- columns

abbrev pub has_column : Columns → List ℕ → Bool
has_column columns name = list_any (λ column. bytes_eq column.0 name) columns

-- no two columns have one name
abbrev pub are_different : Columns → Bool
are_different [] = true
are_different (column ∷ columns) = not (has_column columns column.0) && are_different columns

-- the columns of a collection: at most 16, with names that are allowed and differ
abbrev pub is_schema : Columns → Bool
is_schema columns = nat_le (length columns) 16 && list_all (λ column. is_column_name column.0) columns && are_different columns

-- ---- values

-- a text has at most 1,024 bytes
abbrev pub is_short : Field → Bool
is_short (Int number) = true
is_short (Truth bit) = true
is_short (Text text) = nat_le (length text) 1024

-- the values of a row: one a column, of the column's kind, and not too long
abbrev pub are_values : Columns → List Field → Bool
are_values [] [] = true
are_values [] (value ∷ values) = false
are_values (column ∷ columns) [] = false
are_values (column ∷ columns) (value ∷ values) = is_kind column.1 value && is_short value && are_values columns values
