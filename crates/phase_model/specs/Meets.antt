-- What a meet owes, on journals at rest: a tick in each channel, at a number above all, which becomes the floor.
use Rattle.std.specs.Prelude.{◌≡◌, ℕ, ◌<◌, ◌≤◌, List, [], ◌∷◌, ◌++◌, length}
use Rattle.std.specs.List.{AllByRecursion as Each}
use Rattle.coarse_lists.specs.declared.collections.Collection.{Collection}
use Rattle.answer_lines.specs.declared.answers.MeetReply.{MeetReply}
use Rattle.answer_lines.specs.declared.answers.Answer.TheVariants as answers
use Rattle.request_lines.specs.declared.requests.Ask.TheVariants as asks
use Rattle.legal_output.specs.Lines.{Given, Finish, Line}
use Rattle.legal_output.specs.Printed.{sum_over}
use Rattle.journal_model.specs.declared.notes.Kind.TheVariants.{Tick}
use Rattle.journal_model.specs.declared.notes.Note.{Note}
use Rattle.journal_model.specs.Notes.{note_of}
use Rattle.journal_model.specs.Journals.{AreUpTo}
use Rattle.journal_model.specs.Layouts.{Channel}
use Rattle.journal_model.specs.Counts.{Counts, counts_of}
use Rattle.journal_model.specs.Groups.{meet_groups, numbers_of, MergesOf}
use Rattle.turn_table.specs.Knowledge.{at_slot}
use Rattle.call_model.specs.Turns.{stamp}
use Rattle.call_model.specs.Calls.{channel_at}
use Rattle.phase_model.specs.Rests.{Rest, AreKept}
use Rattle.phase_model.specs.Phases.{IsBackground}

abbrev pub meet_tick : ℕ → ℕ → Note
meet_tick by ts = note_of by 0 (Tick (stamp ts))

-- a channel meets: its tick, and behind it notes of the background, not above it, which merge the groups of a meet where
-- nothing failed
pub record MeetsIn (channel : Channel) (ts failed : ℕ) (before after : List Note) : Type 0 where
  pub by : ℕ
  pub more : List Note
  pub grown : after ≡ (before ++ meet_tick by ts ∷ []) ++ more
  pub background : Each IsBackground more
  pub up_to : AreUpTo ts more
  pub merged : failed ≡ 0 → MergesOf ts [] (numbers_of (meet_groups channel (before ++ meet_tick by ts ∷ []) ts)) more

-- a count of each channel
abbrev pub count_at : Collection → (Counts → ℕ) → Rest → ℕ → ℕ
count_at collection part rest k = part (counts_of (channel_at collection k) (at_slot rest.journals k))

-- the counts of all channels together
pub record AreCounted (collection : Collection) (rest : Rest) (counted : MeetReply) : Type 0 where
  pub live : counted.live ≡ sum_over collection.channels (count_at collection (λ c. c.live) rest)
  pub tail : counted.tail ≡ sum_over collection.channels (count_at collection (λ c. c.tail) rest)
  pub waiting : counted.waiting ≡ sum_over collection.channels (count_at collection (λ c. c.waiting) rest)
  pub node_rows : counted.node_rows ≡ sum_over collection.channels (count_at collection (λ c. c.node_rows) rest)
  pub node_live : counted.node_live ≡ sum_over collection.channels (count_at collection (λ c. c.node_live) rest)

-- the journals came to rest: each channel meets at the number of the reply, which is above all before
pub record Meets (collection : Collection) (least : ℕ) (old new : Rest) (counted : MeetReply) : Type 0 where
  pub above : old.clock ≤ counted.ts.0
  pub not_early : least ≤ counted.ts.0
  pub later : counted.ts.0 < new.clock
  pub met : new.met ≡ counted.ts.0
  pub floor : new.floor ≡ counted.ts.0
  pub mine : new.mine ≡ old.mine
  pub channels : (k : ℕ) → k < collection.channels
      → MeetsIn (channel_at collection k) counted.ts.0 counted.failed (at_slot old.journals k) (at_slot new.journals k)
  pub counts : AreCounted collection new counted
  -- what the type of a shard keeps
  pub long : length new.journals ≡ length old.journals
  pub kept : AreKept collection new

-- a meet that a line asks for
pub record IsMeet (collection : Collection) (least : ℕ) (old new : Rest) (line : Line) : Type 0 where
  pub caller : ℕ
  pub counted : MeetReply
  pub asked : line.asked ≡ Given (record { caller = caller; what = asks.Meet })
  pub answer : line.answer ≡ answers.Met counted
  pub meets : Meets collection least old new counted

-- the end of the input, which is the last meet
pub record IsEnd (collection : Collection) (least : ℕ) (old new : Rest) (line : Line) : Type 0 where
  pub counted : MeetReply
  pub asked : line.asked ≡ Finish
  pub answer : line.answer ≡ answers.End counted
  pub meets : Meets collection least old new counted
