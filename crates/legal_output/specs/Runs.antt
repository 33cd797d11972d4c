-- The account of a run on a plain log by one caller: what serving each line owes. Nothing here need be believed: the
-- law asks it of a run, and says what the lines then are.
use Rattle.std.specs.Prelude.{◌≡◌, ℕ, ◌<◌, ◌≤◌, List, [], ◌∷◌, ◌++◌, IfSome, ⊤}
use Rattle.std.specs.List.{AllByRecursion as Each}
use Rattle.log_model.specs.declared.logs.Entry.{Entry}
use Rattle.answer_lines.specs.declared.answers.MeetReply.{MeetReply}
use Rattle.answer_lines.specs.declared.answers.Answer.{Answer}
use Rattle.answer_lines.specs.declared.answers.Answer.TheVariants as answers
use Rattle.legal_output.specs.Lines.{Asked, Finish, Line, Start, caller_of, changes_of, written_of, drawn, stamps, IsOfKind}
use Rattle.legal_output.specs.Printed.{Tail, Past, entries_if, write_event, after_events, write_or, ticks_shown}
use Rattle.legal_output.specs.Legal.{RefusedRightly, Replied, HasContent, HasLevel, Rising, Counts}

-- the next number, the log, the last tick, the timestamp of the caller's last write, and the tail of each channel
-- there is
pub record Plain : Type 0 where
  pub clock : ℕ
  pub log : List Entry
  pub tick : ℕ
  pub mine : ℕ
  pub tail : Tail

abbrev pub begun : Start → ℕ → Plain
begun start clock = record { clock = clock; log = start.base; tick = start.m0; mine = 0; tail = record { rows = 0; segments = 0 } }

-- the answers to the lines of a run that meets nothing, seals nothing and lets no read be pending
abbrev pub IsPlain : Answer → Type 0
IsPlain (answers.Found now guarantee ts row) = ⊥
IsPlain (answers.Pending now guarantee channel tick) = ⊥
IsPlain (answers.Sealed seals) = ⊥
IsPlain (answers.Met reply) = ⊥
IsPlain (answers.End reply) = ⊥
IsPlain answer = ⊤

-- what a run that has come so far knows of the lines before
abbrev pub past_at : Plain → Past
past_at plain = record { last_meet = plain.tick; last_stamp = plain.clock; last_write = plain.mine; known_tick = λ channel. plain.tick }

pub record Serves (start : Start) (old : Plain) (asked : Asked) (answer : Answer) (new : Plain) : Type 0 where
  pub alone : IfSome (caller_of asked) (λ caller. caller ≡ 0)
  pub plain : IsPlain answer
  -- numbers
  pub later : old.clock ≤ new.clock
  pub rising : Rising (drawn answer)
  pub drawn_above : Each (λ n. old.clock ≤ n) (drawn answer)
  pub stamped_below : Each (λ n. n < new.clock) (stamps answer)
  -- what is kept
  pub log : new.log ≡ old.log ++ entries_if (changes_of asked) (written_of answer)
  pub mine : new.mine ≡ write_or old.mine (written_of answer)
  pub tick : old.tick ≤ new.tick
  pub told : (channel : ℕ) → Each (λ n. n ≤ new.tick) (ticks_shown start.channels channel asked answer)
  pub reached : new.tick < new.clock
  pub tail : (channel : ℕ) → channel < start.channels → new.tail ≡ after_events start.seal_rows old.tail (write_event start.channels channel (changes_of asked) (written_of answer))
  -- the answer
  pub kind : IsOfKind start asked answer
  pub refusal : RefusedRightly asked answer
  pub replied : Replied new.log asked answer
  pub content : HasContent start.plan new.log asked answer
  pub level : HasLevel start.channels (past_at old) asked answer

-- the lines of a run, one after another
abbrev pub Run : Start → Plain → List Line → Plain → Type 0
Run start old [] new = new ≡ old
Run start old (line ∷ lines) new = (mid : Plain) × Serves start old line.asked line.answer mid × Run start mid lines new

-- what ending a run owes
pub record Ends (start : Start) (old : Plain) (counted : MeetReply) : Type 0 where
  pub drawn_above : old.clock ≤ counted.ts.0
  pub counts : Counts start old.log (λ channel. old.tail) 0 counted

-- the line that answers the end of the input
abbrev pub end_line : ℕ → MeetReply → Line
end_line number counted = record { number = number; asked = Finish; answer = answers.End counted }
