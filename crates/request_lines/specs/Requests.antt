-- The table of reasons, and the request that a line is where no reason holds.
use Rattle.std.specs.Prelude.{◌≡◌, ℕ, pos, ◌≤◌, Bool, true, not, ◌&&◌, List, [], ◌∷◌, length, find, Option, Some, None, IfSome, IsTrue, option_and_then, is_none, unwrap_or, Result, Ok, Err, codes}
use Rattle.std.specs.List.{list_any}
use Rattle.std.specs.Str.{bytes_eq}
use Rattle.row_types.specs.Schemas.{fits}
use Rattle.row_types.specs.declared.rows.Key.{Key}
use Rattle.row_types.specs.declared.rows.Row.{Row}
use Rattle.hybrid_time.specs.declared.levels.Level.{Level}
use Rattle.hybrid_time.specs.declared.levels.Level.TheVariants.{Strong}
use Rattle.log_model.specs.declared.logs.Write.{Write}
use Rattle.log_model.specs.declared.logs.Write.TheVariants as writes
use Rattle.log_model.specs.declared.queries.Query.{Query}
use Rattle.coarse_lists.specs.Collections.{IsRowOf}
use Rattle.coarse_lists.specs.declared.collections.Collection.{Collection}
use Rattle.answer_lines.specs.declared.reasons.Reason.{Reason}
use Rattle.answer_lines.specs.declared.reasons.Reason.TheVariants.{NotJson, NotObject, BadOp, LateCreate, UnknownMember, BadCaller, BadKey, NoVector, BadVector, BadFields, BadK, BadLevel, BadFilter, BadWait}
use Rattle.request_lines.specs.declared.operations.Operation.{Operation}
use Rattle.request_lines.specs.declared.operations.Operation.TheVariants.{Insert, Upsert, Delete, Search, Get, Tick, Seal, Meet}
use Rattle.request_lines.specs.declared.refusals.LineError.{LineError}
use Rattle.request_lines.specs.declared.refusals.LineError.TheVariants.{Refused, Memory}
use Rattle.request_lines.specs.declared.requests.Request.{Request}
use Rattle.request_lines.specs.declared.requests.Ask.{Ask}
use Rattle.request_lines.specs.declared.requests.Ask.TheVariants as asks
use Rattle.request_lines.specs.Headers.{creates}
use Rattle.request_lines.specs.Json.{Line, line_of, members_in, text_at, has_only, named}
use Rattle.request_lines.specs.Members.{caller_at, key_at, vector_text_at, vector_at, fields_at, max_k, k_at, level_at, filter_at, wait_at}

-- ---- operations and their members

abbrev pub operations : List (List ℕ × Operation)
operations =
    (codes "insert", Insert) ∷ (codes "upsert", Upsert) ∷ (codes "delete", Delete) ∷ (codes "search", Search) ∷ (codes "get", Get)
    ∷ (codes "tick", Tick) ∷ (codes "seal", Seal) ∷ (codes "meet", Meet) ∷ []

unfoldable pub operation_at : Line → Option Operation
operation_at line = option_and_then (named operations) (text_at (codes "op") line)

-- the members that an operation may have; a meet is no caller's
abbrev pub members_of : Operation → List (List ℕ)
members_of Insert = codes "op" ∷ codes "caller" ∷ codes "key" ∷ codes "vector" ∷ codes "fields" ∷ []
members_of Upsert = codes "op" ∷ codes "caller" ∷ codes "key" ∷ codes "vector" ∷ codes "fields" ∷ []
members_of Delete = codes "op" ∷ codes "caller" ∷ codes "key" ∷ []
members_of Search = codes "op" ∷ codes "caller" ∷ codes "vector" ∷ codes "k" ∷ codes "level" ∷ codes "delta_ms" ∷ codes "filter" ∷ codes "wait" ∷ []
members_of Get = codes "op" ∷ codes "caller" ∷ codes "key" ∷ codes "level" ∷ codes "delta_ms" ∷ codes "wait" ∷ []
members_of Tick = codes "op" ∷ codes "caller" ∷ []
members_of Seal = codes "op" ∷ codes "caller" ∷ []
members_of Meet = codes "op" ∷ []

abbrev pub has : Operation → List ℕ → Bool
has operation name = list_any (bytes_eq name) (members_of operation)

-- ---- the table of reasons

-- when a reason holds of a line with an operation
abbrev pub holds : Collection → Operation → Line → Reason → Bool
holds collection operation line NotJson = is_none line
holds collection operation line NotObject = is_none (members_in line)
holds collection operation line BadOp = is_none (operation_at line) && not (creates line)
holds collection operation line LateCreate = creates line
holds collection operation line UnknownMember = not (has_only (members_of operation) line)
holds collection operation line BadCaller = has operation (codes "caller") && is_none (caller_at line)
holds collection operation line BadKey = has operation (codes "key") && is_none (key_at line)
holds collection operation line NoVector = has operation (codes "vector") && is_none (vector_text_at line)
holds collection operation line BadVector = has operation (codes "vector") && is_none (vector_at collection.dim line)
holds collection operation line BadFields = has operation (codes "fields") && is_none (fields_at collection.schema.columns line)
holds collection operation line BadK = has operation (codes "k") && is_none (k_at line)
holds collection operation line BadLevel = has operation (codes "level") && is_none (level_at line)
holds collection operation line BadFilter = has operation (codes "filter") && is_none (filter_at collection.schema.columns line)
holds collection operation line BadWait = has operation (codes "wait") && is_none (wait_at line)

-- the reasons in their order
abbrev pub reasons : List Reason
reasons =
    NotJson ∷ NotObject ∷ BadOp ∷ LateCreate ∷ UnknownMember ∷ BadCaller ∷ BadKey ∷ NoVector ∷ BadVector ∷ BadFields ∷ BadK ∷ BadLevel ∷ BadFilter
    ∷ BadWait ∷ []

-- a reason that was found, or else a value
abbrev pub refused_or : {T : Type 0} → Option Reason → T → Result T Reason
refused_or (Some reason) value = Err reason
refused_or None value = Ok value

-- ---- the request where no reason holds

-- What stands here beside members (the number 0, the empty list, Strong, no filter, true) is never taken: where no
-- reason holds, the members that an operation must have are there, and the others have a value.

-- the caller; a meet has none, and 0 stands there
abbrev pub caller_in : Line → Operation → ℕ
caller_in line Meet = 0
caller_in line operation = unwrap_or (caller_at line) 0

abbrev pub key_in : Line → Key
key_in line = record { 0 = unwrap_or (key_at line) (pos 0) }

abbrev pub row_in : Collection → Line → Row
row_in collection line = record {
  key = key_in line;
  vector = unwrap_or (vector_at collection.dim line) [];
  fields = unwrap_or (fields_at collection.schema.columns line) [];
}

abbrev pub query_in : Collection → Line → Query
query_in collection line = record {
  vector = unwrap_or (vector_at collection.dim line) [];
  k = unwrap_or (k_at line) 0;
  filter = unwrap_or (filter_at collection.schema.columns line) None;
}

abbrev pub level_in : Line → Level
level_in line = unwrap_or (level_at line) Strong

abbrev pub wait_in : Line → Bool
wait_in line = unwrap_or (wait_at line) true

-- what each operation asks
abbrev pub ask_in : Collection → Line → Operation → Ask
ask_in collection line Insert = asks.Write (writes.Insert (row_in collection line))
ask_in collection line Upsert = asks.Write (writes.Upsert (row_in collection line))
ask_in collection line Delete = asks.Write (writes.Delete (key_in line))
ask_in collection line Search = asks.Search (query_in collection line) (level_in line) (wait_in line)
ask_in collection line Get = asks.Get (key_in line) (level_in line) (wait_in line)
ask_in collection line Tick = asks.Tick
ask_in collection line Seal = asks.Seal
ask_in collection line Meet = asks.Meet

abbrev pub request_in : Collection → Line → Operation → Request
request_in collection line operation = record { caller = caller_in line operation; what = ask_in collection line operation }

-- ---- what a line is

-- the operation of a line; where it names none, a reason holds
abbrev pub operation_in : Line → Operation
operation_in line = unwrap_or (operation_at line) Tick

abbrev pub asked_by : Collection → Operation → Line → Result Request Reason
asked_by collection operation line = refused_or (find (holds collection operation line) reasons) (request_in collection line operation)

abbrev pub line_request : Collection → Line → Result Request Reason
line_request collection line = asked_by collection (operation_in line) line

-- a line is refused with the first reason that holds, and where none holds it is this request
abbrev pub request_of : Collection → List ℕ → Result Request Reason
request_of collection bytes = line_request collection (line_of bytes)

-- ---- what is known of a request

-- a query of the collection: its vector has the dimension, and its filter is one of the columns
pub record FitsQuery (collection : Collection) (query : Query) : Type 0 where
  pub vector : length query.vector ≡ collection.dim
  pub least : 1 ≤ query.k
  pub most : query.k ≤ max_k
  pub filter : IfSome query.filter (λ filter. IsTrue (fits collection.schema.columns filter))

abbrev pub FitsWrite : Collection → Write → Type 0
FitsWrite collection (writes.Insert row) = IsRowOf collection row
FitsWrite collection (writes.Upsert row) = IsRowOf collection row
FitsWrite collection (writes.Delete key) = Unit {0}

abbrev pub FitsAsk : Collection → Ask → Type 0
FitsAsk collection (asks.Write write) = FitsWrite collection write
FitsAsk collection (asks.Search query level wait) = FitsQuery collection query
FitsAsk collection (asks.Get key level wait) = Unit {0}
FitsAsk collection asks.Tick = Unit {0}
FitsAsk collection asks.Seal = Unit {0}
FitsAsk collection asks.Meet = Unit {0}

abbrev pub Fits : Collection → Request → Type 0
Fits collection request = FitsAsk collection request.what

-- an error is free where it is want of memory, and else is the reason that was found
abbrev pub Refuses : {T : Type 0} → Result T Reason → LineError → Type 0
Refuses read Memory = Unit {0}
Refuses read (Refused reason) = read ≡ Err reason
