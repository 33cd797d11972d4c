-- What a phase and a meet make of channels at rest.
use Rattle.std.specs.Prelude.{◌≡◌, ℕ, ◌+◌, ◌^◌, ◌≤◌, max, List, length, map, IfOk}
use Rattle.std.specs.List.{flat_map, AllByRecursion as Each}
use Rattle.coarse_lists.specs.declared.collections.Collection.{Collection}
use Rattle.answer_lines.specs.declared.answers.MeetReply.{MeetReply}
use Rattle.request_lines.specs.Requests.{Fits}
use Rattle.legal_output.specs.Lines.{Line}
use Rattle.legal_output.specs.Legal.{Numbered}
use Rattle.legal_output.specs.Outputs.{asked_of, text_of_line}
use Rattle.shard_core.specs.Shards.{ChannelBase}
use Rattle.phase_model.specs.Rests.{Rest, AreJournals}
use Rattle.phase_model.specs.Phases.{IsPhase}
use Rattle.phase_model.specs.Meets.{Meets}
use Rattle.phase_lines.specs.declared.lines.PhaseLines.{PhaseLines}
use Rattle.phase_lines.specs.Waiting.{Read, AreHeld}
use Rattle.phase_channels.specs.declared.channels.Channels.{Channels}
use Rattle.phase_channels.specs.Rests.{collection_in, AreAtRest}

abbrev pub FitsRead : Collection → Read → Type 0
FitsRead collection read = IfOk read (Fits collection)

-- the channels stand as `rest` says, and `lines` holds these lines from the number `first` on, each a request of the
-- collection or refused
pub record CanRunLines (rest : Rest) (first : ℕ) (reads : List Read) (channels : Channels) (lines : PhaseLines) : Type 0 where
  pub journals : AreJournals (collection_in channels) rest
  pub at_rest : AreAtRest rest channels
  pub held : AreHeld first reads lines
  pub fit : Each (FitsRead (collection_in channels)) reads
  pub few : length reads ≤ 2 ^ 18

-- from `old` a phase was run over these lines: what its callers owe, the lines that answer, and their text
pub record HasRunPhase (least : ℕ) (first : ℕ) (reads : List Read) (old : Rest) (before after : Channels) (text : List ℕ) : Type 0 where
  pub new : Rest
  pub block : List Line
  pub phase : IsPhase ChannelBase (collection_in before) least old new block
  pub rest : AreAtRest new after
  pub same : collection_in after ≡ collection_in before
  pub text_is : text ≡ flat_map text_of_line block
  pub numbered : Numbered first block
  pub asked : map (λ (line : Line). line.asked) block ≡ map asked_of reads

-- from `old` all channels met
pub record HaveMet (least : ℕ) (old : Rest) (before after : Channels) (reply : MeetReply) : Type 0 where
  pub new : Rest
  pub meets : Meets (collection_in before) least old new reply
  pub rest : AreAtRest new after
  pub same : collection_in after ≡ collection_in before

-- how far a step may take the clock
abbrev pub IsLow : ℕ → ℕ → ℕ → Type 0
IsLow step before after = after ≤ max before (2 ^ 63) + step
