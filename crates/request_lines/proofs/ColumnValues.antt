-- Fields that are given by name are values of the columns, once they stand in the columns' order.
use Rattle.std.proofs.Common.{◌≡◌, ℕ, zero, suc, ℤ, Bool, true, false, List, [], ◌∷◌, ◌++◌, length, refl, sym, subst, ◌∙◌, append-nil, append_assoc, Option, Some, None, Result, Ok, Err}
use Rattle.std.specs.Prelude.{◌&&◌, cond, nat_le, slice_get, remove, codes, IfOk, IfSome}
use Rattle.std.specs.Option.{option_map, option_and_then}
use Rattle.std.specs.List.{list_all}
use Rattle.std.specs.Result.{result_ok}
use Rattle.serde_json.specs.Data.{Data, null, boolean, number, string, array, object, Members, no_members, member}
use Rattle.serde_json.specs.Find.{as_i64, as_object}
use Rattle.row_types.specs.declared.allocation.Memory.{Memory}
use Rattle.row_types.specs.declared.rows.Kind.{Kind}
use Rattle.row_types.specs.declared.rows.Field.{Field}
use Rattle.row_types.specs.declared.rows.Field.TheVariants.{Int, Bool as Truth, Text}
use Rattle.row_types.specs.declared.schemas.FieldError.{FieldError}
use Rattle.row_types.specs.declared.schemas.FieldError.TheVariants.{WrongKind}
use Rattle.row_types.specs.Schemas.{Columns, Given, is_kind, place_of, checked, taken_at, taken, and_then, arranged_after}
use Rattle.coarse_lists.specs.Schemas.{is_short, are_values}
use Rattle.request_lines.specs.Json.{Line, at, stated, onto}
use Rattle.request_lines.specs.Members.{field_of, given_in, given_at, in_columns}

-- ---- lists

both_true : (a b : Bool) → (a && b) ≡ true → (a ≡ true) × (b ≡ true)
both_true true b e = (refl, e)
both_true false b e = cc

joined_true : (a b : Bool) → a ≡ true → b ≡ true → (a && b) ≡ true
joined_true true b e h = h
joined_true false b e h = cc

module _ {X : Type 0} (p : X → Bool) where
  at_true : (xs : List X) (i : ℕ) (x : X) → list_all p xs ≡ true → slice_get xs i ≡ Some x → p x ≡ true
  at_true [] i x all e = cc
  at_true (y ∷ xs) zero x all e = let same : y ≡ x = cc in subst (λ z. p z ≡ true) same ((both_true (p y) (list_all p xs) all).0)
  at_true (y ∷ xs) (suc i) x all e = at_true xs i x ((both_true (p y) (list_all p xs) all).1) e

  without_true : (xs : List X) (i : ℕ) → list_all p xs ≡ true → list_all p (remove xs i) ≡ true
  without_true [] zero all = refl
  without_true [] (suc i) all = refl
  without_true (y ∷ xs) zero all = (both_true (p y) (list_all p xs) all).1
  without_true (y ∷ xs) (suc i) all =
      let parts = both_true (p y) (list_all p xs) all in
      joined_true (p y) (list_all p (remove xs i)) parts.0 (without_true xs i parts.1)

-- ---- what is given is short

abbrev given_short : List ℕ × Field → Bool
given_short g = is_short g.1

abbrev AllShort : Given → Type 0
AllShort given = list_all given_short given ≡ true

some_short : (f g : Field) → is_short f ≡ true → ◌≡◌ {A = Option Field} (Some f) (Some g) → is_short g ≡ true
some_short f g short e = let same : f ≡ g = cc in subst (λ x. is_short x ≡ true) same short

integer_short : (o : Option ℤ) (f : Field) → option_map Int o ≡ Some f → is_short f ≡ true
integer_short None f e = cc
integer_short (Some n) f e = some_short (Int n) f refl e

text_short : (text : List ℕ) (b : Bool) (f : Field) → nat_le (length text) 1024 ≡ b → cond b (Some (Text text)) None ≡ Some f → is_short f ≡ true
text_short text true f short e = some_short (Text text) f short e
text_short text false f short e = cc

field_short : (d : Data) (f : Field) → field_of d ≡ Some f → is_short f ≡ true
unfolding field_of
field_short null f e = cc
field_short (boolean bit) f e = some_short (Truth bit) f refl e
field_short (number n) f e = integer_short (as_i64 n) f e
field_short (string text) f e = text_short text (nat_le (length text) 1024) f refl e
field_short (array ds) f e = cc
field_short (object ms) f e = cc

onto_short : (name : List ℕ) (o : Option Field) (others : Option Given) (given : Given)
    → ((f : Field) → o ≡ Some f → is_short f ≡ true) → ((g : Given) → others ≡ Some g → AllShort g)
    → onto (option_map (λ field. (name, field)) o) others ≡ Some given → AllShort given
onto_short name None others given first rest e = cc
onto_short name (Some f) None given first rest e = cc
onto_short name (Some f) (Some g) given first rest e =
    let same : ◌≡◌ {A = Given} ((name, f) ∷ g) given = cc in
    subst AllShort same (joined_true (is_short f) (list_all given_short g) (first f refl) (rest g refl))

members_short : (ms : Members) (given : Given) → given_in ms ≡ Some given → AllShort given
members_short no_members given e = let same : ◌≡◌ {A = Given} [] given = cc in subst AllShort same refl
members_short (member name d ms) given e = onto_short name (field_of d) (given_in ms) given (field_short d) (members_short ms) e

-- ---- what is arranged

record IsTaken (column : List ℕ × Kind) (field : Field) (left : Given) : Type 0 where
  kind : is_kind column.1 field ≡ true
  short : is_short field ≡ true
  others : AllShort left

checked_if : (column : List ℕ × Kind) (rest : Given) (g : List ℕ × Field) (b : Bool) (t : Field × Given)
    → is_kind column.1 g.1 ≡ b → is_short g.1 ≡ true → AllShort rest
    → ◌≡◌ {A = Result (Field × Given) FieldError} (cond b (Ok (g.1, rest)) (Err (WrongKind column.0))) (Ok t) → IsTaken column t.0 t.1
checked_if column rest g true t kind short all e =
    let same : ◌≡◌ {A = Field × Given} (g.1, rest) t = cc in
    subst (λ (t : Field × Given). IsTaken column t.0 t.1) same (record { kind = kind; short = short; others = all })
checked_if column rest g false t kind short all e = cc

checked_values : (column : List ℕ × Kind) (rest : Given) (o : Option (List ℕ × Field)) (t : Field × Given)
    → ((g : List ℕ × Field) → o ≡ Some g → is_short g.1 ≡ true) → AllShort rest → checked column rest o ≡ Ok t → IsTaken column t.0 t.1
checked_values column rest None t short all e = cc
checked_values column rest (Some g) t short all e = checked_if column rest g (is_kind column.1 g.1) t refl (short g refl) all e

taken_values : (column : List ℕ × Kind) (given : Given) (o : Option ℕ) (t : Field × Given) → AllShort given → taken_at column given o ≡ Ok t → IsTaken column t.0 t.1
taken_values column given None t all e = cc
taken_values column given (Some at) t all e =
    checked_values column (remove given at) (slice_get given at) t (λ g found. at_true given_short given at g all found) (without_true given_short given at all) e

abbrev Arranged : Columns → List Field → List Field → Type 0
Arranged columns done out = (more : List Field) × (out ≡ done ++ more) × (are_values columns more ≡ true)

column_values : (column : List ℕ × Kind) (columns : Columns) (done : List Field) (out : List Field) (r : Result (Field × Given) FieldError)
    → ((t : Field × Given) → r ≡ Ok t → IsTaken column t.0 t.1)
    → ((before : List Field) (given : Given) → AllShort given → arranged_after before columns given ≡ Ok out → Arranged columns before out)
    → and_then r (λ t. arranged_after (done ++ t.0 ∷ []) columns t.1) ≡ Ok out → Arranged (column ∷ columns) done out
column_values column columns done out (Err fault) taken behind e = cc
column_values column columns done out (Ok t) taken behind e =
    let facts = taken t refl in
    let others = behind (done ++ t.0 ∷ []) t.1 facts.others e in (
      t.0 ∷ others.0,
      others.1 ∙ append_assoc done (t.0 ∷ []) others.0,
      joined_true (is_kind column.1 t.0 && is_short t.0) (are_values columns others.0) (joined_true (is_kind column.1 t.0) (is_short t.0) facts.kind facts.short) others.2,
    )

arranged_values : (columns : Columns) (done : List Field) (given : Given) (out : List Field) → AllShort given → arranged_after done columns given ≡ Ok out → Arranged columns done out
arranged_values [] done [] out all e = let same : done ≡ out = cc in ([], sym same ∙ sym (append-nil done), refl)
arranged_values [] done (g ∷ given) out all e = cc
arranged_values (column ∷ columns) done given out all e =
    column_values column columns done out (taken column given) (λ t was. taken_values column given (place_of column.0 given) t all was)
    (λ before others short rest. arranged_values columns before others out short rest) e

ok_arranged : (columns : Columns) (given : Given) (r : Result (List Field) FieldError) (fields : List Field)
    → ((out : List Field) → r ≡ Ok out → Arranged columns [] out) → result_ok r ≡ Some fields → are_values columns fields ≡ true
ok_arranged columns given (Err fault) fields arranged e = cc
ok_arranged columns given (Ok out) fields arranged e =
    let same : out ≡ fields = cc in
    let facts = arranged out refl in
    subst (λ x. are_values columns x ≡ true) (sym facts.1 ∙ same) facts.2

-- fields that were given by short values are values of the columns
in_columns_values : (columns : Columns) (given : Given) (fields : List Field) → list_all (λ (g : List ℕ × Field). is_short g.1) given ≡ true → in_columns columns given ≡ Some fields → are_values columns fields ≡ true
unfolding in_columns
in_columns_values columns given fields all e = ok_arranged columns given (arranged_after [] columns given) fields (λ out. arranged_values columns [] given out all) e

object_short : (o : Option Members) (given : Given) → option_and_then given_in o ≡ Some given → AllShort given
object_short None given e = cc
object_short (Some ms) given e = members_short ms given e

stated_short : (o : Option Data) (given : Given) → stated [] (λ d. option_and_then given_in (as_object d)) o ≡ Some given → AllShort given
stated_short None given e = let same : ◌≡◌ {A = Given} [] given = cc in subst AllShort same refl
stated_short (Some d) given e = object_short (as_object d) given e

given_at_short : (line : Line) (given : Given) → given_at line ≡ Some given → AllShort given
unfolding given_at
given_at_short line given e = stated_short (at (codes "fields") line) given e

-- the fields of a line are values of the columns
fields_values : (columns : Columns) (line : Line) (given : Given) (fields : List Field) → given_at line ≡ Some given → in_columns columns given ≡ Some fields → are_values columns fields ≡ true
fields_values columns line given fields found e = in_columns_values columns given fields (given_at_short line given found) e

-- the same of what a call gave, unless memory ran out
pub found_values : (columns : Columns) (line : Line) (given : Given) (r : Result (Option (List Field)) Memory) → given_at line ≡ Some given
    → IfOk r (λ found. found ≡ in_columns columns given) → IfOk r (λ found. IfSome found (λ fields. are_values columns fields ≡ true))
found_values columns line given (Err e) found is = tt
found_values columns line given (Ok None) found is = tt
found_values columns line given (Ok (Some fields)) found is = fields_values columns line given fields found (sym is)
