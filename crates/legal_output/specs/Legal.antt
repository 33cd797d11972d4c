-- When the lines of an output are legal.
use Rattle.std.specs.Prelude.{◌≡◌, ◌≢◌, ℕ, ◌+◌, ◌*◌, ◌<◌, ◌≤◌, Bool, false, cond, List, [], ◌∷◌, ◌++◌, map, Option, Some, None, IfSome, ⊤}
use Rattle.std.specs.Option.{option_map}
use Rattle.std.specs.List.{AllByRecursion as Each, AllZip}
use Rattle.std.specs.FinMap as fin
use Rattle.hybrid_time.specs.declared.times.Timestamp.{Timestamp}
use Rattle.hybrid_time.specs.declared.levels.Level.{Level}
use Rattle.hybrid_time.specs.Levels.{guarantee_of}
use Rattle.log_model.specs.declared.logs.Write.{Write}
use Rattle.log_model.specs.declared.logs.Write.TheVariants.{Insert, Upsert, Delete}
use Rattle.log_model.specs.declared.logs.Entry.{Entry}
use Rattle.log_model.specs.declared.queries.Plan.{Plan}
use Rattle.log_model.specs.Logs.{live, was_live}
use Rattle.log_model.specs.Scans.{scan}
use Rattle.answer_lines.specs.declared.answers.Wrote.{Wrote}
use Rattle.answer_lines.specs.declared.answers.Wrote.TheVariants.{Inserted, Exists, Was}
use Rattle.answer_lines.specs.declared.answers.MeetReply.{MeetReply}
use Rattle.answer_lines.specs.declared.answers.Answer.{Answer}
use Rattle.answer_lines.specs.declared.answers.Answer.TheVariants as answers
use Rattle.request_lines.specs.declared.requests.Ask.{Ask}
use Rattle.request_lines.specs.declared.requests.Ask.TheVariants as asks
use Rattle.legal_output.specs.Lines.{Asked, Bad, Given, Line, Start, Reading, Stated, Snapshot, Late, changes_of, reading_of, written_of, stated_of, snapshot_of, late_of, seals_of, met_of, drawn, IsOfKind}
use Rattle.legal_output.specs.Printed.{Tail, Past, printed_log, printed_tail, tail_before, sum_over, past_of, all_drawn, phase_failures}

-- a fact of each line, given the lines before it
abbrev pub AtEach : (List Line → Line → Type 0) → List Line → List Line → Type 0
AtEach P earlier [] = ⊤
AtEach P earlier (line ∷ lines) = P earlier line × AtEach P (earlier ++ line ∷ []) lines

-- ---- form, refusals, numbers

-- the lines are numbered from `first` on
abbrev pub Numbered : ℕ → List Line → Type 0
Numbered first [] = ⊤
Numbered first (line ∷ lines) = (line.number ≡ first) × Numbered (first + 1) lines

pub record HasForm (start : Start) (asks : List Asked) (lines : List Line) : Type 0 where
  pub numbered : Numbered 2 lines
  pub asked : map (λ line. line.asked) lines ≡ asks
  pub kinds : Each (λ line. IsOfKind start line.asked line.answer) lines

-- a line is refused exactly where it is no request, and for its reason
abbrev pub RefusedRightly : Asked → Answer → Type 0
RefusedRightly (Bad reason) answer = answer ≡ answers.Refused reason
RefusedRightly asked (answers.Refused reason) = ⊥
RefusedRightly asked answer = ⊤

-- each number differs from all others
abbrev pub Differ : List ℕ → Type 0
Differ [] = ⊤
Differ (n ∷ ns) = Each (λ m. n ≢ m) ns × Differ ns

pub record HasNumbers (start : Start) (numbers : List ℕ) : Type 0 where
  pub differ : Differ numbers
  pub above : Each (λ n. start.m0 < n) numbers

-- ---- writes and content

-- what a write is told, by whether its key was live
abbrev pub told_of : Write → Bool → Wrote
told_of (Insert row) there = cond there Exists Inserted
told_of (Upsert row) there = Was there
told_of (Delete key) there = Was there

-- the reply to a write at a timestamp
abbrev pub reply : List Entry → ℕ → Write → Wrote
reply log ts write = told_of write (was_live log ts write)

abbrev pub Replied : List Entry → Asked → Answer → Type 0
Replied log asked answer = IfSome (written_of answer) (λ written. AllZip (λ change what. what ≡ reply log written.ts change) (changes_of asked) written.replies)

abbrev pub ShowsContent : Plan → List Entry → Ask → Answer → Type 0
ShowsContent plan log (asks.Search query level wait) (answers.Hits now guarantee ts hits) = hits ≡ scan log ts.0 plan query
ShowsContent plan log (asks.Get key level wait) (answers.Found now guarantee ts row) = option_map (λ named. named.row) row ≡ fin.get (live log ts.0) key.0
ShowsContent plan log ask answer = ⊤

-- the hits of a search are the scan of the log at the printed timestamp, and the row of a get is the key's
abbrev pub HasContent : Plan → List Entry → Asked → Answer → Type 0
HasContent plan log (Given request) answer = ShowsContent plan log request.what answer
HasContent plan log asked answer = ⊤

-- ---- levels, order, pending

abbrev pub IsGuarantee : Past → Level → Stated → Type 0
IsGuarantee past level stated = stated.guarantee ≡ guarantee_of level stated.now past.last_write

-- a timestamp is not below what the caller knows of the one channel that it reads, or of one of all
abbrev pub CoversKnown : ℕ → Past → Option ℕ → ℕ → Type 0
CoversKnown channels past (Some channel) ts = past.known_tick channel ≤ ts
CoversKnown channels past None ts = (channel : ℕ) × (channel < channels) × (past.known_tick channel ≤ ts)

-- a snapshot is as fresh as its guarantee, and as what the caller knows
pub record IsFresh (channels : ℕ) (past : Past) (reading : Reading) (snapshot : Snapshot) : Type 0 where
  pub guaranteed : snapshot.guarantee ≤ snapshot.ts
  pub known : CoversKnown channels past reading.channel snapshot.ts

pub record ReadsAt (channels : ℕ) (past : Past) (answer : Answer) (reading : Reading) : Type 0 where
  pub guarantee : IfSome (stated_of answer) (IsGuarantee past reading.level)
  pub fresh : IfSome (snapshot_of answer) (IsFresh channels past reading)

-- the guarantee of a read is that of its level, and its snapshot is not older
abbrev pub HasLevel : ℕ → Past → Asked → Answer → Type 0
HasLevel channels past asked answer = IfSome (reading_of channels asked) (ReadsAt channels past answer)

abbrev pub Rising : List ℕ → Type 0
Rising [] = ⊤
Rising (n ∷ ns) = Each (λ m. n < m) ns × Rising ns

-- the numbers of an answer rise, and are above the last meet and all that was printed for its caller before; the
-- number of a meet is above all before it, so this is above all of earlier phases
pub record InOrder (past : Past) (answer : Answer) : Type 0 where
  pub rising : Rising (drawn answer)
  pub after_meet : Each (λ n. past.last_meet < n) (drawn answer)
  pub after_caller : Each (λ n. past.last_stamp < n) (drawn answer)

-- whether a read needs a channel of a collection
abbrev pub IsNeeded : ℕ → Option ℕ → ℕ → Type 0
IsNeeded channels (Some only) channel = only ≡ channel
IsNeeded channels None channel = channel < channels

-- a read is pending only where it does not wait, for a channel that it needs and whose tick is below the guarantee
pub record IsPending (channels : ℕ) (past : Past) (reading : Reading) (late : Late) : Type 0 where
  pub alone : reading.wait ≡ false
  pub needed : IsNeeded channels reading.channel late.channel
  pub known : past.known_tick late.channel ≤ late.tick
  pub below : late.tick < late.guarantee

abbrev pub PendingRightly : ℕ → Past → Asked → Answer → Type 0
PendingRightly channels past asked answer = IfSome (reading_of channels asked) (λ reading. IfSome (late_of answer) (IsPending channels past reading))

-- ---- meets

-- what is counted at a meet or the end, where the tails of the channels are `tails` and the lines of the phase told
-- `failures`
pub record Counts (start : Start) (log : List Entry) (tails : ℕ → Tail) (failures : ℕ) (counted : MeetReply) : Type 0 where
  pub live : counted.live ≡ fin.len (live log counted.ts.0)
  pub tail : counted.tail ≡ sum_over start.channels (λ channel. (tails channel).rows)
  pub node_live : counted.node_live ≤ counted.node_rows
  pub merged : counted.failed ≡ 0 → counted.node_rows ≤ 2 * counted.node_live
  pub least : counted.node_live ≤ counted.live
  pub most : counted.live ≤ counted.tail + counted.waiting * start.seal_rows + counted.node_live
  pub waiting : counted.waiting ≤ sum_over start.channels (λ channel. (tails channel).segments)
  pub failed : failures ≤ counted.failed

-- the rows of each seal, from channel `channel` on, are those of the tail just before it
abbrev pub AreTails : (ℕ → ℕ → Tail) → ℕ → List (Timestamp × ℕ) → Type 0
AreTails tail_at channel [] = ⊤
AreTails tail_at channel (seal ∷ seals) = (seal.1 ≡ (tail_at seal.0.0 channel).rows) × AreTails tail_at (channel + 1) seals

-- what is counted at a seal, a meet and the end
pub record CountsRightly (start : Start) (lines earlier : List Line) (answer : Answer) : Type 0 where
  pub sealed : AreTails (tail_before start lines) 0 (seals_of answer)
  pub met : IfSome (met_of answer) (λ counted. Counts start (printed_log start lines) (printed_tail start lines counted.ts.0) (phase_failures 0 earlier) counted)

-- The clauses, each over all lines:
--   form       one line for each that was asked, in order, with its number and of its kind
--   refusals   refused are exactly the lines that are no requests, each for its reason
--   numbers    the drawn numbers differ, and are above those from before
--   writes     each write has the reply of the log at its printed timestamp
--   content    each read shows the log at its printed timestamp
--   levels     each guarantee is that of its level, and each snapshot is as fresh as it says
--   order      the numbers of a caller rise from line to line, and those of a meet are above all before
--   pending    only a read that does not wait is pending, for a tick that is too old
--   meets      each count is that of the log and of the tails
pub record IsLegal (start : Start) (asks : List Asked) (lines : List Line) : Type 0 where
  pub form : HasForm start asks lines
  pub refusals : Each (λ line. RefusedRightly line.asked line.answer) lines
  pub numbers : HasNumbers start (all_drawn lines)
  pub writes : Each (λ line. Replied (printed_log start lines) line.asked line.answer) lines
  pub content : Each (λ line. HasContent start.plan (printed_log start lines) line.asked line.answer) lines
  pub levels : AtEach (λ earlier line. HasLevel start.channels (past_of start earlier line) line.asked line.answer) [] lines
  pub order : AtEach (λ earlier line. InOrder (past_of start earlier line) line.answer) [] lines
  pub pending : AtEach (λ earlier line. PendingRightly start.channels (past_of start earlier line) line.asked line.answer) [] lines
  pub meets : AtEach (λ earlier line. CountsRightly start lines earlier line.answer) [] lines
