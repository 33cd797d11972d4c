-- What the parts of the reader answer. Only its code needs them: each is a piece of the table of reasons.
use Rattle.std.specs.Prelude.{ℕ, Bool, List, [], ◌∷◌, find, unwrap_or, Result}
use Rattle.row_types.specs.declared.rows.Row.{Row}
use Rattle.coarse_lists.specs.declared.collections.Collection.{Collection}
use Rattle.answer_lines.specs.declared.reasons.Reason.{Reason}
use Rattle.answer_lines.specs.declared.reasons.Reason.TheVariants.{NotJson, NotObject, BadOp, LateCreate, UnknownMember, BadCaller, BadKey, NoVector, BadVector, BadFields, BadK, BadLevel, BadFilter, BadWait}
use Rattle.request_lines.specs.declared.operations.Operation.{Operation}
use Rattle.request_lines.specs.declared.operations.Operation.TheVariants.{Insert, Search, Get}
use Rattle.request_lines.specs.declared.requests.Ask.{Ask}
use Rattle.request_lines.specs.Json.{Line}
use Rattle.request_lines.specs.Members.{vector_at}
use Rattle.request_lines.specs.Requests.{holds, refused_or, caller_in, row_in, ask_in, operation_in}

-- the reasons on a line as such, that on its caller, and those on the other members of its operation
abbrev pub form_reasons : List Reason
form_reasons = NotJson ∷ NotObject ∷ BadOp ∷ LateCreate ∷ UnknownMember ∷ []

abbrev pub caller_reasons : List Reason
caller_reasons = BadCaller ∷ []

abbrev pub member_reasons : List Reason
member_reasons = BadKey ∷ NoVector ∷ BadVector ∷ BadFields ∷ BadK ∷ BadLevel ∷ BadFilter ∷ BadWait ∷ []

abbrev pub operation_read : Collection → Line → Result Operation Reason
operation_read collection line = refused_or (find (holds collection (operation_in line) line) form_reasons) (operation_in line)

abbrev pub caller_read : Collection → Operation → Line → Result ℕ Reason
caller_read collection operation line = refused_or (find (holds collection operation line) caller_reasons) (caller_in line operation)

abbrev pub vector_read : Collection → Line → Result (List Bool) Reason
vector_read collection line = refused_or (find (holds collection Insert line) (NoVector ∷ BadVector ∷ [])) (unwrap_or (vector_at collection.dim line) [])

abbrev pub row_read : Collection → Line → Result Row Reason
row_read collection line = refused_or (find (holds collection Insert line) (BadKey ∷ NoVector ∷ BadVector ∷ BadFields ∷ [])) (row_in collection line)

abbrev pub search_read : Collection → Line → Result Ask Reason
search_read collection line =
    refused_or (find (holds collection Search line) (NoVector ∷ BadVector ∷ BadK ∷ BadLevel ∷ BadFilter ∷ BadWait ∷ [])) (ask_in collection line Search)

abbrev pub get_read : Collection → Line → Result Ask Reason
get_read collection line = refused_or (find (holds collection Get line) (BadKey ∷ BadLevel ∷ BadWait ∷ [])) (ask_in collection line Get)

abbrev pub ask_read : Collection → Operation → Line → Result Ask Reason
ask_read collection operation line = refused_or (find (holds collection operation line) member_reasons) (ask_in collection line operation)
