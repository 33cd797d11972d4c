-- The lines of an output, and the parts of requests and answers of which the clauses speak. A new kind of
-- request or answer is a row more in these functions.
use Rattle.std.specs.Prelude.{◌≡◌, ℕ, ℤ, pos, Bool, true, List, [], ◌∷◌, map, length, Option, Some, None, nat_eq, unsigned_abs, ⊤}
use Rattle.std.specs.Int.{int_rem_euclid}
use Rattle.std.specs.List.{AllByRecursion as Each, AllZip}
use Rattle.row_types.specs.declared.hits.Metric.{Metric}
use Rattle.row_types.specs.declared.hits.Metric.TheVariants as metrics
use Rattle.row_types.specs.declared.hits.Distance.{Distance}
use Rattle.row_types.specs.declared.hits.Distance.TheVariants as distances
use Rattle.row_types.specs.Schemas.{Columns, is_kind}
use Rattle.hybrid_time.specs.declared.times.Timestamp.{Timestamp}
use Rattle.hybrid_time.specs.declared.levels.Level.{Level}
use Rattle.log_model.specs.declared.logs.Write.{Write}
use Rattle.log_model.specs.declared.logs.Write.TheVariants.{Insert, Upsert, Delete}
use Rattle.log_model.specs.declared.logs.Entry.{Entry}
use Rattle.log_model.specs.declared.queries.Plan.{Plan}
use Rattle.answer_lines.specs.declared.reasons.Reason.{Reason}
use Rattle.answer_lines.specs.declared.answers.Wrote.{Wrote}
use Rattle.answer_lines.specs.declared.answers.Wrote.TheVariants.{Inserted, Exists, Was}
use Rattle.answer_lines.specs.declared.answers.Named.{Named}
use Rattle.answer_lines.specs.declared.answers.MeetReply.{MeetReply}
use Rattle.answer_lines.specs.declared.answers.Answer.{Answer}
use Rattle.answer_lines.specs.declared.answers.Answer.TheVariants as answers
use Rattle.request_lines.specs.declared.requests.Request.{Request}
use Rattle.request_lines.specs.declared.requests.Ask.{Ask}
use Rattle.request_lines.specs.declared.requests.Ask.TheVariants as asks

-- what is to be answered: a line that is refused, a request, and at last the end of the input
pub data Asked : Type 0 where
  Bad : (reason : Reason) → Asked
  Given : (request : Request) → Asked
  Finish : Asked

-- a line of the output
pub record Line : Type 0 where
  pub number : ℕ
  pub asked : Asked
  pub answer : Answer

-- what an output starts from: the number of channels, the rows at which a tail becomes a segment, how the
-- collection is searched, its columns, the log that was there before, and the number of its last meet
pub record Start : Type 0 where
  pub channels : ℕ
  pub seal_rows : ℕ
  pub plan : Plan
  pub columns : Columns
  pub base : List Entry
  pub m0 : ℕ

-- the channel of a key
abbrev pub channel_of : ℕ → ℤ → ℕ
channel_of channels key = unsigned_abs (int_rem_euclid key (pos channels))

-- ---- what is asked

-- the caller of a request; a meet has none
abbrev pub caller_in : ℕ → Ask → Option ℕ
caller_in caller asks.Meet = None
caller_in caller ask = Some caller

abbrev pub caller_of : Asked → Option ℕ
caller_of (Given request) = caller_in request.caller request.what
caller_of asked = None

-- the changes that a request writes
abbrev pub changes_in : Ask → List Write
changes_in (asks.Write write) = write ∷ []
changes_in ask = []

abbrev pub changes_of : Asked → List Write
changes_of (Given request) = changes_in request.what
changes_of asked = []

-- a request that reads: its level, whether it may wait for a tick, and the one channel that it needs, or none
-- where it needs all
pub record Reading : Type 0 where
  pub level : Level
  pub wait : Bool
  pub channel : Option ℕ

abbrev pub reading_in : ℕ → Ask → Option Reading
reading_in channels (asks.Search query level wait) = Some (record { level = level; wait = wait; channel = None })
reading_in channels (asks.Get key level wait) = Some (record { level = level; wait = wait; channel = Some (channel_of channels key.0) })
reading_in channels ask = None

abbrev pub reading_of : ℕ → Asked → Option Reading
reading_of channels (Given request) = reading_in channels request.what
reading_of channels asked = None

-- whether a read needs a channel
abbrev pub needs : Reading → ℕ → Bool
needs reading channel = elim reading.channel [ None ↦ true | Some only ↦ nat_eq only channel ]

-- ---- what is answered

-- what was written: a reply for each change
pub record Written : Type 0 where
  pub ts : ℕ
  pub replies : List Wrote

abbrev pub written_of : Answer → Option Written
written_of (answers.Wrote reply) = Some (record { ts = reply.ts.0; replies = reply.what ∷ [] })
written_of answer = None

-- the number at which a read began, and the guarantee of its level
pub record Stated : Type 0 where
  pub now : ℕ
  pub guarantee : ℕ

abbrev pub stated_of : Answer → Option Stated
stated_of (answers.Hits now guarantee ts hits) = Some (record { now = now.0; guarantee = guarantee.0 })
stated_of (answers.Found now guarantee ts row) = Some (record { now = now.0; guarantee = guarantee.0 })
stated_of (answers.Pending now guarantee channel tick) = Some (record { now = now.0; guarantee = guarantee.0 })
stated_of answer = None

-- the snapshot that was read
pub record Snapshot : Type 0 where
  pub guarantee : ℕ
  pub ts : ℕ

abbrev pub snapshot_of : Answer → Option Snapshot
snapshot_of (answers.Hits now guarantee ts hits) = Some (record { guarantee = guarantee.0; ts = ts.0 })
snapshot_of (answers.Found now guarantee ts row) = Some (record { guarantee = guarantee.0; ts = ts.0 })
snapshot_of answer = None

-- the channel for whose tick a read would have to wait
pub record Late : Type 0 where
  pub guarantee : ℕ
  pub channel : ℕ
  pub tick : ℕ

abbrev pub late_of : Answer → Option Late
late_of (answers.Pending now guarantee channel tick) = Some (record { guarantee = guarantee.0; channel = channel; tick = tick.0 })
late_of answer = None

-- the ticks of the channels, in their order
abbrev pub ticks_of : Answer → List ℕ
ticks_of (answers.Ticked ticks) = map (λ tick. tick.0) ticks
ticks_of answer = []

-- the timestamps of the channels' seals, and the rows that were sealed
abbrev pub seals_of : Answer → List (Timestamp × ℕ)
seals_of (answers.Sealed seals) = seals
seals_of answer = []

-- what was counted when all work had come to rest: at a meet, and at the end of the input, which is the last one
abbrev pub met_of : Answer → Option MeetReply
met_of (answers.Met reply) = Some reply
met_of (answers.End reply) = Some reply
met_of answer = None

-- the failures that an answer tells; no kind of answer tells any yet
abbrev pub failures_of : Answer → ℕ
failures_of answer = 0

-- the numbers that were drawn for an answer, in the order in which they were drawn
abbrev pub drawn : Answer → List ℕ
drawn answers.Created = []
drawn (answers.Wrote reply) = reply.ts.0 ∷ []
drawn (answers.Hits now guarantee ts hits) = now.0 ∷ []
drawn (answers.Found now guarantee ts row) = now.0 ∷ []
drawn (answers.Pending now guarantee channel tick) = now.0 ∷ []
drawn (answers.Ticked ticks) = map (λ tick. tick.0) ticks
drawn (answers.Sealed seals) = map (λ seal. seal.0.0) seals
drawn (answers.Met reply) = reply.ts.0 ∷ []
drawn (answers.End reply) = reply.ts.0 ∷ []
drawn (answers.Refused reason) = []

-- all timestamps that an answer shows
abbrev pub stamps : Answer → List ℕ
stamps (answers.Hits now guarantee ts hits) = now.0 ∷ guarantee.0 ∷ ts.0 ∷ []
stamps (answers.Found now guarantee ts row) = now.0 ∷ guarantee.0 ∷ ts.0 ∷ []
stamps (answers.Pending now guarantee channel tick) = now.0 ∷ guarantee.0 ∷ tick.0 ∷ []
stamps answer = drawn answer

-- ---- which answers are of a request's kind

abbrev pub IsOfMetric : Metric → Distance → Type 0
IsOfMetric metrics.Hamming (distances.Hamming bits) = ⊤
IsOfMetric metrics.Jaccard (distances.Jaccard num den) = ⊤
IsOfMetric metric distance = ⊥

-- an insert is told whether it found its key; an upsert and a delete are told whether the key was live
abbrev pub IsReplyTo : Write → Wrote → Type 0
IsReplyTo (Insert row) Inserted = ⊤
IsReplyTo (Insert row) Exists = ⊤
IsReplyTo (Upsert row) (Was live) = ⊤
IsReplyTo (Delete key) (Was live) = ⊤
IsReplyTo write what = ⊥

-- a row that is shown has the names and the kinds of the columns
pub record HasColumns (columns : Columns) (named : Named) : Type 0 where
  pub names : named.names ≡ map (λ column. column.0) columns
  pub kinds : AllZip (λ column value. is_kind column.1 value ≡ true) columns named.row.fields

abbrev pub IsRowOf : Columns → Option Named → Type 0
IsRowOf columns None = ⊤
IsRowOf columns (Some named) = HasColumns columns named

-- the form of an answer to a request; whether a refusal is right, and when a read may be pending, are other clauses
abbrev pub IsAnswerTo : Start → Ask → Answer → Type 0
IsAnswerTo start (asks.Write write) (answers.Wrote reply) = IsReplyTo write reply.what
IsAnswerTo start (asks.Search query level wait) (answers.Hits now guarantee ts hits) = Each (λ hit. IsOfMetric start.plan.metric hit.distance) hits
IsAnswerTo start (asks.Search query level wait) (answers.Pending now guarantee channel tick) = ⊤
IsAnswerTo start (asks.Get key level wait) (answers.Found now guarantee ts row) = IsRowOf start.columns row
IsAnswerTo start (asks.Get key level wait) (answers.Pending now guarantee channel tick) = ⊤
IsAnswerTo start asks.Tick (answers.Ticked ticks) = length ticks ≡ start.channels
IsAnswerTo start asks.Seal (answers.Sealed seals) = length seals ≡ start.channels
IsAnswerTo start asks.Meet (answers.Met reply) = ⊤
IsAnswerTo start ask (answers.Refused reason) = ⊤
IsAnswerTo start ask answer = ⊥

abbrev pub IsOfKind : Start → Asked → Answer → Type 0
IsOfKind start (Bad reason) answer = ⊤
IsOfKind start (Given request) answer = IsAnswerTo start request.what answer
IsOfKind start Finish (answers.End reply) = ⊤
IsOfKind start Finish answer = ⊥
