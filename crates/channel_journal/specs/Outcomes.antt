-- What the outcomes of a journal's calls say.
use Rattle.std.specs.Prelude.{ℕ, Bool, true, is_some, Option, Some, None}
use Rattle.std.specs.Option.{option_map}
use Rattle.log_model.specs.Places.{Placed}
use Rattle.journal_model.specs.Answers as answers
use Rattle.channel_journal.specs.declared.outcomes.PutOutcome.{PutOutcome}
use Rattle.channel_journal.specs.declared.outcomes.PutOutcome.TheVariants.{Exists, Added}
use Rattle.channel_journal.specs.declared.outcomes.SealOutcome.{SealOutcome}
use Rattle.channel_journal.specs.declared.outcomes.SealOutcome.TheVariants.{Empty, Segment}
use Rattle.channel_journal.specs.declared.outcomes.LookOutcome.{LookOutcome}
use Rattle.channel_journal.specs.declared.outcomes.LookOutcome.TheVariants.{Served, Pending}

-- a position of a row, with the timestamp at which the row ends
abbrev pub ended_at : ℕ → Option ℕ → Option (ℕ × ℕ)
ended_at ts ended = option_map (λ position. (position, ts)) ended

-- whether the key was live
abbrev pub was_live : PutOutcome → Bool
was_live Exists = true
was_live (Added ended sealed) = is_some ended

-- the row of the put, where it was added
abbrev pub added_row : Placed → PutOutcome → Option Placed
added_row x Exists = None
added_row x (Added ended sealed) = Some x

-- the position of the row that the put ended
abbrev pub ended_row : PutOutcome → Option ℕ
ended_row Exists = None
ended_row (Added ended sealed) = ended

-- the number of the segment that the tail became
abbrev pub sealed_number : PutOutcome → Option ℕ
sealed_number Exists = None
sealed_number (Added ended sealed) = sealed

abbrev pub segment_number : SealOutcome → Option ℕ
segment_number Empty = None
segment_number (Segment number rows) = Some number

-- how many rows the tail had
abbrev pub segment_rows : SealOutcome → ℕ
segment_rows Empty = 0
segment_rows (Segment number rows) = rows

abbrev pub look_reply : LookOutcome → answers.Reply
look_reply Served = answers.Served
look_reply (Pending tick) = answers.Pending tick.0
