-- What the printed lines tell: the log that they write, the tails of the channels, and what stands behind a line.
use Rattle.std.specs.Prelude.{ℕ, zero, suc, ◌+◌, Bool, true, false, List, [], ◌∷◌, ◌++◌, map, max, count_by, Option, Some, None, if◌then◌else◌, nat_eq, nat_le, nat_lt}
use Rattle.std.specs.List.{filter, flat_map, zip}
use Rattle.hybrid_time.specs.declared.times.Timestamp.{Timestamp}
use Rattle.log_model.specs.declared.logs.Write.{Write}
use Rattle.log_model.specs.declared.logs.Write.TheVariants.{Insert, Upsert}
use Rattle.log_model.specs.declared.logs.Entry.{Entry}
use Rattle.log_model.specs.Logs.{key_of}
use Rattle.answer_lines.specs.declared.answers.Wrote.{Wrote}
use Rattle.answer_lines.specs.declared.answers.Wrote.TheVariants.{Inserted}
use Rattle.answer_lines.specs.declared.answers.MeetReply.{MeetReply}
use Rattle.answer_lines.specs.declared.answers.Answer.{Answer}
use Rattle.legal_output.specs.Lines.{Asked, Line, Start, Written, Reading, Snapshot, Late, channel_of, caller_of, changes_of, reading_of, needs, written_of, snapshot_of, late_of, ticks_of, seals_of, met_of, failures_of, drawn, stamps}

-- an item among others, behind those that are earlier
abbrev pub place : {X : Type 0} → (X → ℕ) → X → List X → List X
place ts_of item [] = item ∷ []
place ts_of item (other ∷ others) = if nat_le (ts_of item) (ts_of other) then item ∷ other ∷ others else other ∷ place ts_of item others

-- items in the order of their timestamps; those of one timestamp stay in their order
abbrev pub ordered : {X : Type 0} → (X → ℕ) → List X → List X
ordered ts_of [] = []
ordered ts_of (item ∷ items) = place ts_of item (ordered ts_of items)

-- the item of a channel, where there is one
abbrev pub only_at : {X : Type 0} → List X → ℕ → List X
only_at [] channel = []
only_at (item ∷ items) zero = item ∷ []
only_at (item ∷ items) (suc channel) = only_at items channel

-- ---- the printed log

-- each change at the timestamp that was printed for it
abbrev pub entries_if : List Write → Option Written → List Entry
entries_if changes None = []
entries_if changes (Some written) = map (λ change. record { ts = record { 0 = written.ts }; write = change }) changes

abbrev pub entries_of : Line → List Entry
entries_of line = entries_if (changes_of line.asked) (written_of line.answer)

-- the log that was there before, and the writes of the lines at their printed timestamps; an insert that was
-- answered `exists` is an entry too, and changes nothing
abbrev pub printed_log : Start → List Line → List Entry
printed_log start lines = start.base ++ ordered (λ entry. entry.ts.0) (flat_map entries_of lines)

-- ---- the printed tails

-- what one line did to the tail of a channel
pub data Deed : Type 0 where
  Adds : (rows : ℕ) → Deed
  Seals : Deed

pub record Event : Type 0 where
  pub ts : ℕ
  pub deed : Deed

-- whether a change brought a new row: an upsert does, and an insert of a key that was not live
abbrev pub brings : Write → Wrote → Bool
brings (Insert row) Inserted = true
brings (Upsert row) what = true
brings write what = false

-- one event for all changes of a line to a channel, with the rows that they brought
abbrev pub event_if : ℕ → List (Write × Wrote) → List Event
event_if ts [] = []
event_if ts (pair ∷ pairs) = record { ts = ts; deed = Adds (count_by (λ change. brings change.0 change.1) (pair ∷ pairs)) } ∷ []

abbrev pub write_event : ℕ → ℕ → List Write → Option Written → List Event
write_event channels channel changes None = []
write_event channels channel changes (Some written) = event_if written.ts (filter (λ change. nat_eq (channel_of channels (key_of change.0)) channel) (zip changes written.replies))

abbrev pub seal_event : Timestamp × ℕ → Event
seal_event seal = record { ts = seal.0.0; deed = Seals }

-- what a line did to a channel
abbrev pub events_of : ℕ → ℕ → Line → List Event
events_of channels channel line =
    write_event channels channel (changes_of line.asked) (written_of line.answer) ++ map seal_event (only_at (seals_of line.answer) channel)

abbrev pub printed_events : Start → ℕ → List Line → List Event
printed_events start channel lines = ordered (λ event. event.ts) (flat_map (events_of start.channels channel) lines)

-- the rows of a tail, and the segments that were made of it
pub record Tail : Type 0 where
  pub rows : ℕ
  pub segments : ℕ

-- a tail that is full becomes a segment
abbrev pub add_row : ℕ → Tail → Tail
add_row seal_rows tail = if nat_le seal_rows (tail.rows + 1) then record { rows = 0; segments = tail.segments + 1 } else record { rows = tail.rows + 1; segments = tail.segments }

abbrev pub add_rows : ℕ → ℕ → Tail → Tail
add_rows seal_rows zero tail = tail
add_rows seal_rows (suc more) tail = add_rows seal_rows more (add_row seal_rows tail)

-- a seal makes a segment of a tail that has rows
abbrev pub seal_tail : ℕ → ℕ → Tail
seal_tail zero segments = record { rows = 0; segments = segments }
seal_tail (suc rows) segments = record { rows = 0; segments = segments + 1 }

abbrev pub after_deed : ℕ → Tail → Deed → Tail
after_deed seal_rows tail (Adds rows) = add_rows seal_rows rows tail
after_deed seal_rows tail Seals = seal_tail tail.rows tail.segments

abbrev pub after_events : ℕ → Tail → List Event → Tail
after_events seal_rows tail [] = tail
after_events seal_rows tail (event ∷ events) = after_events seal_rows (after_deed seal_rows tail event.deed) events

abbrev pub walk : ℕ → List Event → Tail
walk seal_rows events = after_events seal_rows (record { rows = 0; segments = 0 }) events

-- the tail of a channel at a timestamp
abbrev pub printed_tail : Start → List Line → ℕ → ℕ → Tail
printed_tail start lines ts channel = walk start.seal_rows (filter (λ event. nat_le event.ts ts) (printed_events start channel lines))

-- and just before it
abbrev pub tail_before : Start → List Line → ℕ → ℕ → Tail
tail_before start lines ts channel = walk start.seal_rows (filter (λ event. nat_lt event.ts ts) (printed_events start channel lines))

-- a sum over the first channels
abbrev pub sum_over : ℕ → (ℕ → ℕ) → ℕ
sum_over zero count = 0
sum_over (suc channels) count = sum_over channels count + count channels

-- ---- what stands behind a line

abbrev pub all_drawn : List Line → List ℕ
all_drawn lines = flat_map (λ line. drawn line.answer) lines

abbrev pub all_stamps : List Line → List ℕ
all_stamps lines = flat_map (λ line. stamps line.answer) lines

abbrev pub greatest : List ℕ → ℕ
greatest [] = 0
greatest (n ∷ ns) = max n (greatest ns)

-- the number of the last meet, where `met` is that of the one before
abbrev pub meet_or : ℕ → Option MeetReply → ℕ
meet_or met None = met
meet_or met (Some reply) = reply.ts.0

abbrev pub meet_behind : ℕ → List Line → ℕ
meet_behind met [] = met
meet_behind met (line ∷ lines) = meet_behind (meet_or met (met_of line.answer)) lines

-- the failures that the lines of the last phase tell, where those before told `failures`
abbrev pub failures_or : ℕ → Option MeetReply → ℕ
failures_or failures None = failures
failures_or failures (Some reply) = 0

abbrev pub phase_failures : ℕ → List Line → ℕ
phase_failures failures [] = failures
phase_failures failures (line ∷ lines) = phase_failures (failures_or (failures + failures_of line.answer) (met_of line.answer)) lines

-- the timestamp of the last write
abbrev pub write_or : ℕ → Option Written → ℕ
write_or ts None = ts
write_or ts (Some written) = written.ts

abbrev pub write_behind : ℕ → List Line → ℕ
write_behind ts [] = ts
write_behind ts (line ∷ lines) = write_behind (write_or ts (written_of line.answer)) lines

-- a read whose snapshot was served tells a tick of the channels that it needs
abbrev pub snapshot_shows : ℕ → Option Snapshot → Option Reading → List ℕ
snapshot_shows channel None reading = []
snapshot_shows channel (Some snapshot) None = []
snapshot_shows channel (Some snapshot) (Some reading) = if needs reading channel then snapshot.ts ∷ [] else []

abbrev pub late_shows : ℕ → Option Late → List ℕ
late_shows channel None = []
late_shows channel (Some late) = if nat_eq late.channel channel then late.tick ∷ [] else []

-- the ticks of a channel that an answer tells its caller
abbrev pub ticks_shown : ℕ → ℕ → Asked → Answer → List ℕ
ticks_shown channels channel asked answer =
    snapshot_shows channel (snapshot_of answer) (reading_of channels asked) ++ late_shows channel (late_of answer) ++ only_at (ticks_of answer) channel

abbrev pub all_ticks_shown : ℕ → ℕ → List Line → List ℕ
all_ticks_shown channels channel lines = flat_map (λ line. ticks_shown channels channel line.asked line.answer) lines

abbrev pub is_caller : ℕ → Option ℕ → Bool
is_caller caller None = false
is_caller caller (Some other) = nat_eq caller other

-- the lines of a caller; to a meet and to the end all lines count
abbrev pub lines_of : Option ℕ → List Line → List Line
lines_of None lines = lines
lines_of (Some caller) lines = filter (λ line. is_caller caller (caller_of line.asked)) lines

-- what stands behind a line: the number of the last meet, the greatest timestamp that was printed for its caller,
-- the timestamp of the caller's last write, and the tick that it knows each channel to have reached
pub record Past : Type 0 where
  pub last_meet : ℕ
  pub last_stamp : ℕ
  pub last_write : ℕ
  pub known_tick : ℕ → ℕ

abbrev pub past_for : Start → List Line → Option ℕ → Past
past_for start earlier caller = record {
  last_meet = meet_behind start.m0 earlier;
  last_stamp = greatest (all_stamps (lines_of caller earlier));
  last_write = write_behind 0 (lines_of caller earlier);
  known_tick = λ channel. max (meet_behind start.m0 earlier) (greatest (all_ticks_shown start.channels channel (lines_of caller earlier)));
}

abbrev pub past_of : Start → List Line → Line → Past
past_of start earlier line = past_for start earlier (caller_of line.asked)
