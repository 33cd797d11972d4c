-- What a phase owes: facts of its own values and of its own lines, from which its output is legal. A phase is what
-- stands between two meets. Nothing here need be believed: the law asks it of a run, and says what the lines then are.
use Rattle.std.specs.Prelude.{◌≡◌, ℕ, ℤ, ◌<◌, ◌≤◌, List, [], ◌∷◌, ◌++◌, Some, None, IfSome, max, nat_le, nat_lt, ⊤}
use Rattle.std.specs.Option.{option_map}
use Rattle.std.specs.Ordering.{int_cmp, eq_by_cmp}
use Rattle.std.specs.List.{AllByRecursion as Each, AllZip, filter, flat_map}
use Rattle.std.specs.FinMap as fin
use Rattle.log_model.specs.declared.logs.Entry.{Entry}
use Rattle.log_model.specs.Logs.{key_of, live}
use Rattle.log_model.specs.Scans.{scan}
use Rattle.answer_lines.specs.declared.answers.MeetReply.{MeetReply}
use Rattle.answer_lines.specs.declared.answers.Answer.{Answer}
use Rattle.answer_lines.specs.declared.answers.Answer.TheVariants as answers
use Rattle.request_lines.specs.declared.requests.Ask.{Ask}
use Rattle.request_lines.specs.declared.requests.Ask.TheVariants as asks
use Rattle.legal_output.specs.Lines.{Asked, Given, Finish, Line, Start, channel_of, changes_of, written_of, seals_of, met_of, drawn, stamps, IsOfKind}
use Rattle.legal_output.specs.Printed.{Event, Tail, Past, ordered, entries_of, events_of, walk, all_drawn, all_stamps, all_ticks_shown, lines_of, greatest, write_behind, phase_failures}
use Rattle.legal_output.specs.Legal.{AtEach, RefusedRightly, Differ, reply, HasLevel, InOrder, PendingRightly, AreTails, Counts}

-- the next number, the number of the last meet, the timestamp of each caller's last write, the log of each channel,
-- what happened to its tail, and the failures of the phase so far
pub record Running : Type 0 where
  pub clock : ℕ
  pub met : ℕ
  pub written : ℕ → ℕ
  pub logs : ℕ → List Entry
  pub events : ℕ → List Event
  pub failures : ℕ

-- the entries of a key
abbrev pub of_key : ℤ → List Entry → List Entry
of_key key log = filter (λ entry. eq_by_cmp int_cmp key (key_of entry.write)) log

-- a log that has the entries of each key as the log of the key's channel has them
abbrev pub IsWhole : ℕ → (ℕ → List Entry) → List Entry → Type 0
IsWhole channels logs log = (key : ℤ) → of_key key log ≡ of_key key (logs (channel_of channels key))

-- the tails of the channels at a timestamp, and just before it
abbrev pub tail_at : ℕ → (ℕ → List Event) → ℕ → ℕ → Tail
tail_at seal_rows events ts channel = walk seal_rows (filter (λ event. nat_le event.ts ts) (events channel))

abbrev pub tail_below : ℕ → (ℕ → List Event) → ℕ → ℕ → Tail
tail_below seal_rows events ts channel = walk seal_rows (filter (λ event. nat_lt event.ts ts) (events channel))

-- each change is answered by the log of its key's channel
abbrev pub RepliedByChannel : ℕ → (ℕ → List Entry) → Asked → Answer → Type 0
RepliedByChannel channels logs asked answer =
    IfSome (written_of answer) (λ written. AllZip (λ change what. what ≡ reply (logs (channel_of channels (key_of change))) written.ts change) (changes_of asked) written.replies)

abbrev pub ShowsChannels : Start → (ℕ → List Entry) → Ask → Answer → Type 0
ShowsChannels start logs (asks.Search query level wait) (answers.Hits now guarantee ts hits) =
    (log : List Entry) × IsWhole start.channels logs log × (hits ≡ scan log ts.0 start.plan query)
ShowsChannels start logs (asks.Get key level wait) (answers.Found now guarantee ts row) =
    option_map (λ named. named.row) row ≡ fin.get (live (logs (channel_of start.channels key.0)) ts.0) key.0
ShowsChannels start logs ask answer = ⊤

-- each search shows the whole of the logs, and each get the log of its key's channel
abbrev pub ContentByChannel : Start → (ℕ → List Entry) → Asked → Answer → Type 0
ContentByChannel start logs (Given request) answer = ShowsChannels start logs request.what answer
ContentByChannel start logs asked answer = ⊤

-- what stands behind a line of a caller in this phase, where its last write before the phase was at `written`
abbrev pub past_in_phase : ℕ → ℕ → ℕ → List Line → Past
past_in_phase channels met written earlier = record {
  last_meet = met;
  last_stamp = greatest (all_stamps earlier);
  last_write = write_behind written earlier;
  known_tick = λ channel. max met (greatest (all_ticks_shown channels channel earlier));
}

-- of the first past no more is known than of the second, but for what is at or below the last meet
pub record IsWithin (past other : Past) : Type 0 where
  pub met : past.last_meet ≡ other.last_meet
  pub stamp : past.last_stamp ≤ max other.last_meet other.last_stamp
  pub write : other.last_write ≡ past.last_write
  pub tick : (channel : ℕ) → past.known_tick channel ≤ other.known_tick channel

-- a line of a caller, behind its other lines in this phase
pub record Called (channels met written : ℕ) (earlier : List Line) (line : Line) : Type 0 where
  pub level : HasLevel channels (past_in_phase channels met written earlier) line.asked line.answer
  pub order : InOrder (past_in_phase channels met written earlier) line.answer
  pub pending : PendingRightly channels (past_in_phase channels met written earlier) line.asked line.answer

-- a line of a phase: it is a caller's, or is refused, and neither a meet nor the end
pub record InPhase (start : Start) (old new : Running) (line : Line) : Type 0 where
  pub kind : IsOfKind start line.asked line.answer
  pub refusal : RefusedRightly line.asked line.answer
  pub drawn : Each (λ n. old.clock ≤ n) (drawn line.answer)
  pub stamped : Each (λ n. n < new.clock) (stamps line.answer)
  pub unmet : met_of line.answer ≡ None
  pub replied : RepliedByChannel start.channels new.logs line.asked line.answer
  pub content : ContentByChannel start new.logs line.asked line.answer
  pub sealed : AreTails (tail_below start.seal_rows new.events) 0 (seals_of line.answer)

pub record PhaseFacts (start : Start) (old new : Running) (block : List Line) : Type 0 where
  pub later : old.clock ≤ new.clock
  pub met : new.met ≡ old.met
  pub written : (caller : ℕ) → new.written caller ≡ write_behind (old.written caller) (lines_of (Some caller) block)
  pub failures : new.failures ≡ phase_failures old.failures block
  -- what the logs and the tails grew by: of each key, and of each channel, what the lines did, by their timestamps
  pub more : ℕ → List Entry
  pub grown : (channel : ℕ) → new.logs channel ≡ old.logs channel ++ more channel
  pub entries : (key : ℤ) → of_key key (more (channel_of start.channels key)) ≡ of_key key (ordered (λ entry. entry.ts.0) (flat_map entries_of block))
  pub events : (channel : ℕ) → new.events channel ≡ old.events channel ++ ordered (λ event. event.ts) (flat_map (events_of start.channels channel) block)
  -- the lines
  pub lines : Each (InPhase start old new) block
  pub differ : Differ (all_drawn block)
  pub callers : (caller : ℕ) → AtEach (Called start.channels old.met (old.written caller)) [] (lines_of (Some caller) block)

-- a meet, on shards at rest
pub record MeetFacts (start : Start) (old new : Running) (line : Line) : Type 0 where
  pub caller : ℕ
  pub counted : MeetReply
  pub asked : line.asked ≡ Given (record { caller = caller; what = asks.Meet })
  pub answer : line.answer ≡ answers.Met counted
  pub drawn : old.clock ≤ counted.ts.0
  pub later : counted.ts.0 < new.clock
  pub met : new.met ≡ counted.ts.0
  pub written : new.written ≡ old.written
  pub failures : new.failures ≡ 0
  pub logs : new.logs ≡ old.logs
  pub events : new.events ≡ old.events
  pub log : List Entry
  pub whole : IsWhole start.channels old.logs log
  pub counts : Counts start log (tail_at start.seal_rows old.events counted.ts.0) old.failures counted

-- the end of the input, on shards at rest
pub record EndFacts (start : Start) (old : Running) (line : Line) : Type 0 where
  pub counted : MeetReply
  pub asked : line.asked ≡ Finish
  pub answer : line.answer ≡ answers.End counted
  pub drawn : old.clock ≤ counted.ts.0
  pub log : List Entry
  pub whole : IsWhole start.channels old.logs log
  pub counts : Counts start log (tail_at start.seal_rows old.events counted.ts.0) old.failures counted

-- the values that a run starts with
pub record Begins (start : Start) (first : Running) : Type 0 where
  pub m0 : start.m0 < first.clock
  pub met : first.met ≡ start.m0
  pub written : (caller : ℕ) → first.written caller ≡ 0
  pub whole : IsWhole start.channels first.logs start.base
  pub events : (channel : ℕ) → first.events channel ≡ []
  pub failures : first.failures ≡ 0

-- a phase, and the meet that ends it
pub record Phase : Type 0 where
  pub lines : List Line
  pub meet : Line

abbrev pub lines_in : List Phase → List Line
lines_in phases = flat_map (λ phase. phase.lines ++ phase.meet ∷ []) phases

abbrev pub RunOver : Start → Running → List Phase → Running → Type 0
RunOver start old [] new = new ≡ old
RunOver start old (phase ∷ phases) new =
    (ran : Running) × (after : Running) × PhaseFacts start old ran phase.lines × MeetFacts start ran after phase.meet × RunOver start after phases new
