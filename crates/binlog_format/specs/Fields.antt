-- The fields that the formats share, and what is said of values in a row.
use Rattle.std.specs.Prelude.{ℕ, ◌^◌, List, [], ◌∷◌, nat_lt, slice_index}
use Rattle.std.specs.Int.{w64}
use Rattle.std.specs.Str.{bytes_eq}
use Rattle.binlog_format.specs.declared.refusals.FormatKind.TheVariants.{Magic, Range}
use Rattle.binlog_format.specs.Reading.{Item, ◌>>=◌, gives, bytes, number, checked, unless, items}

-- each value has what it is to have in the state that the values before it leave
abbrev pub InTurn : {S A : Type 0} → (S → A → Type 0) → (S → A → S) → S → List A → Type 0
InTurn Has after state [] = Unit {0}
InTurn Has after state (x ∷ xs) = Has state x × InTurn Has after (after state x) xs

-- the eight bytes with which each object of a format begins
abbrev pub magic : List ℕ → Item (List ℕ)
magic name = checked (bytes 8) (unless Magic (bytes_eq name))

-- the number of a segment
abbrev pub segment_number : Item ℕ
segment_number = checked (number w64) (unless Range (λ n. nat_lt n (2 ^ 60)))

-- one byte
abbrev pub byte : Item ℕ
byte = do
  found ← bytes 1
  gives (slice_index found 0)

-- n items of one form
abbrev pub run : {A : Type 0} → ℕ → Item A → Item (List A)
run n item = items (λ (state : Unit {0}). item) (λ state x. state) n tt
