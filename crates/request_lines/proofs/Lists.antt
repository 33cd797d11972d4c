-- Lists that are read item by item, up to the first that is none.
use Rattle.std.proofs.Common.{◌≡◌, List, [], ◌∷◌, ◌++◌, refl, sym, ap, ◌∙◌, append_assoc, Option, Some, None}
use Rattle.std.specs.Prelude.{String, string_bytes}
use Rattle.std.specs.Option.{option_map}
use Rattle.std.specs.declared.alloc.Global.{Global}
use Rattle.serde_json.specs.View.{view, members_view}
use Rattle.serde_json.specs.declared.value.Value.{Value}
use Rattle.row_types.specs.declared.rows.Field.{Field}
use Rattle.row_types.specs.Schemas.{Given}
use Rattle.request_lines.specs.Json.{onto}
use Rattle.request_lines.specs.Members.{field_of, given_in}

-- what was read, and behind it what is still to be read
abbrev pub after : {T : Type 0} → List T → Option (List T) → Option (List T)
after done rest = option_map (λ more. done ++ more) rest

one_more : {T : Type 0} (x : T) (done : List T) (rest : Option (List T)) → after done (onto (Some x) rest) ≡ after (done ++ x ∷ []) rest
one_more x done None = refl
one_more x done (Some more) = ap Some (sym (append_assoc done (x ∷ []) more))

-- a member of an object was read
pub member_read : (rest others : List (String Global × Value)) (name : String Global) (value : Value) (field : Field) (done new : Given) (all : Option Given)
    → rest ≡ (name, value) ∷ others → field_of (view value) ≡ Some field → new ≡ done ++ (string_bytes name, field) ∷ []
    → after done (given_in (members_view rest)) ≡ all → after new (given_in (members_view others)) ≡ all
member_read rest others name value field done new all first found push before =
    ap (λ xs. after xs (given_in (members_view others))) push
    ∙ sym (one_more (string_bytes name, field) done (given_in (members_view others)))
    ∙ sym (ap (λ o. after done (onto (option_map (λ f. (string_bytes name, f)) o) (given_in (members_view others)))) found)
    ∙ sym (ap (λ (es : List (String Global × Value)). after done (given_in (members_view es))) first)
    ∙ before
