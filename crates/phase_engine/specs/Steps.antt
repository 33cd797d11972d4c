-- What the steps of the engine are asked, and what they do. Nothing here need be believed.
use Rattle.std.specs.Prelude.{◌≡◌, ℕ, ◌+◌, ◌^◌, ◌<◌, ◌≤◌, max, false, List, [], ◌++◌, map, length, Option, Result, IfOk}
use Rattle.std.specs.List.{AllByRecursion as Each, flat_map}
use Rattle.coarse_lists.specs.declared.collections.Collection.{Collection}
use Rattle.coarse_lists.specs.Collections.{IsInRange}
use Rattle.row_types.specs.declared.allocation.Memory.{Memory}
use Rattle.answer_lines.specs.declared.answers.Answer.TheVariants as answers
use Rattle.answer_lines.specs.Lines.{text_of}
use Rattle.request_lines.specs.Members.{max_caller}
use Rattle.request_lines.specs.Requests.{request_of, Fits}
use Rattle.legal_output.specs.Lines.{Line}
use Rattle.legal_output.specs.Legal.{Numbered}
use Rattle.legal_output.specs.Outputs.{asked_of, text_of_line}
use Rattle.shard_core.specs.Shards.{ChannelBase}
use Rattle.phase_model.specs.Rests.{Rest}
use Rattle.phase_model.specs.Phases.{IsPhase}
use Rattle.phase_model.specs.Meets.{Meets}
use Rattle.phase_lines.specs.declared.lines.PhaseLines.{PhaseLines}
use Rattle.phase_lines.specs.Waiting.{Read, AreHeld}
use Rattle.phase_channels.specs.declared.channels.Channels.{Channels}
use Rattle.phase_channels.specs.Rests.{collection_in, AreAtRest}
use Rattle.phase_channels.specs.Steps.{CanRunLines}
use Rattle.phase_engine.specs.declared.running.Running.{Running}
use Rattle.phase_engine.specs.declared.running.Settled.{Settled}
use Rattle.phase_engine.specs.Accounts.{IsAccount}

-- what was read of a line
pub record IsReadOf (collection : Collection) (line : List ℕ) (read : Read) : Type 0 where
  pub is : request_of collection line ≡ read
  pub fits : IfOk read (Fits collection)
  pub caller : IfOk read (λ request. request.caller ≤ max_caller)

-- no meet has come, and one line more may wait
pub record CanHold (running : Running) : Type 0 where
  pub first : ℕ
  pub reads : List Read
  pub held : AreHeld first reads running.lines
  pub room : first + length reads + 1 < 2 ^ 32
  pub range : IsInRange (collection_in running.channels)
  pub none_came : running.meet_came ≡ false

-- the lines that wait may be run, there is a number for a line behind them, and the clock is far from its greatest number
pub record CanSettle (running : Running) : Type 0 where
  pub rest : Rest
  pub first : ℕ
  pub reads : List Read
  pub lines : CanRunLines rest first reads running.channels running.lines
  pub room : first + length reads + 1 < 2 ^ 32
  pub low : running.channels.clock < 2 ^ 63 + 2 ^ 59

-- from `old` the lines were run, and all channels met: the lines that answer, and their text
pub record HasSettled (least first : ℕ) (reads : List Read) (old : Rest) (before : Channels) (settled : Settled) : Type 0 where
  pub ran : Rest
  pub new : Rest
  pub block : List Line
  pub phase : IsPhase ChannelBase (collection_in before) least old ran block
  pub meets : Meets (collection_in before) least ran new settled.reply
  pub rest : AreAtRest new settled.channels
  pub same : collection_in settled.channels ≡ collection_in before
  pub text_is : settled.text.items ≡ flat_map text_of_line block
  pub numbered : Numbered first block
  pub asked : map (λ (line : Line). line.asked) block ≡ map asked_of reads
  pub number : settled.number ≡ first + length reads
  pub low : settled.channels.clock ≤ max before.clock (2 ^ 63) + (2 ^ 40 + 1)

-- that, whatever was answered before
abbrev pub Tells : ℕ → Running → Settled → Type 0
Tells least running settled =
    (rest : Rest) (first : ℕ) (reads : List Read) → CanRunLines rest first reads running.channels running.lines → HasSettled least first reads rest running.channels settled

-- what may be called of lines that may be run
abbrev pub MaySettle : (Running → Type 0) → Type 0
MaySettle may = (running : Running) → CanSettle running → may running

-- what is known of what that call did
abbrev pub Settles : ℕ → (Running → Result Settled Memory → Type 0) → Type 0
Settles least did = (running : Running) (result : Result Settled Memory) → CanSettle running → did running result → IfOk result (Tells least running)

-- the line of the meet stands behind the text, and no lines wait
pub record HasMet (settled : Settled) (running : Running) (text : List ℕ) : Type 0 where
  pub lines : PhaseLines
  pub held : AreHeld (settled.number + 1) [] lines
  pub running_is : running ≡ record { channels = settled.channels; lines = lines; meet_came = false }
  pub text_is : text ≡ settled.text.items ++ text_of settled.number (answers.Met settled.reply)

-- the account is kept, and lines that may be run may be given to a call that settles them
pub record IsKept (least : ℕ) (may : Running → Type 0) (did : Running → Result Settled Memory → Type 0) (running : Option Running) (done waiting : List (List ℕ)) (output : List ℕ) : Type 0 where
  pub account : IsAccount least running done waiting output
  pub may_settle : MaySettle may
  pub settles : Settles least did
