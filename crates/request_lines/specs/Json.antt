-- What the bytes of a line are as JSON, and what stands in an object.
use Rattle.std.specs.Prelude.{ℕ, ℤ, pos, negsuc, ◌&&◌, Bool, true, false, List, ◌∷◌, Option, Some, None, option_and_then, option_map, unwrap_or, if◌then◌else◌, nat_le}
use Rattle.std.specs.List.{list_any}
use Rattle.std.specs.Map.{lookup}
use Rattle.std.specs.Str.{is_utf8, bytes_eq}
use Rattle.serde_json.specs.Data.{Data, Members, no_members, member}
use Rattle.serde_json.specs.Read.{read}
use Rattle.serde_json.specs.Find.{get, as_number, as_i64, as_str, as_object}

-- A line, as the tables of the header and of the requests see it: the JSON value that its bytes spell, if they spell one.
abbrev pub Line : Type 0
Line = Option Data

abbrev pub line_of : List ℕ → Line
line_of bytes = if is_utf8 bytes then read bytes else None

-- the members of a line that is an object
abbrev pub members_in : Line → Option Members
members_in line = option_and_then as_object line

-- what stands at a member
abbrev pub at : List ℕ → Line → Option Data
at name line = option_and_then (get name) line

-- the text of a member
abbrev pub text_at : List ℕ → Line → Option (List ℕ)
text_at name line = option_and_then as_str (at name line)

-- the integer that a value is: a number of 64 bits, with sign, that is spelt with no point and no exponent
abbrev pub integer_of : Data → Option ℤ
integer_of d = option_and_then as_i64 (as_number d)

abbrev pub integer_at : List ℕ → Line → Option ℤ
integer_at name line = option_and_then integer_of (at name line)

-- the number, where it is from `low` to `high`
abbrev pub between : ℕ → ℕ → ℤ → Option ℕ
between low high (pos n) = if nat_le low n && nat_le n high then Some n else None
between low high (negsuc n) = None

-- the integer that a value is, where it is from `low` to `high`
abbrev pub number_in : ℕ → ℕ → Data → Option ℕ
number_in low high d = option_and_then (between low high) (integer_of d)

-- whether each member has one of the names
abbrev pub knows : List (List ℕ) → Members → Bool
knows names no_members = true
knows names (member k d ms) = list_any (bytes_eq k) names && knows names ms

-- whether a line is an object with no other members than these
abbrev pub has_only : List (List ℕ) → Line → Bool
has_only names line = unwrap_or (option_map (knows names) (members_in line)) false

-- what a member is where it is there, and else its default
abbrev pub stated : {T : Type 0} → T → (Data → Option T) → Option Data → Option T
stated default read None = Some default
stated default read (Some d) = read d

-- what a name stands for in a list of names
abbrev pub named : {T : Type 0} → List (List ℕ × T) → List ℕ → Option T
named values name = lookup (bytes_eq name) values

-- what the text of a value stands for in a list of names
abbrev pub named_by : {T : Type 0} → List (List ℕ × T) → Data → Option T
named_by values d = option_and_then (named values) (as_str d)

-- the first, and then the others, where all are there
abbrev pub onto : {T : Type 0} → Option T → Option (List T) → Option (List T)
onto first others = option_and_then (λ x. option_map (λ xs. x ∷ xs) others) first
