-- What has run so far. Nothing here need be believed: the law says what the lines then are.
use Rattle.std.specs.Prelude.{ℕ, ◌≤◌, List}
use Rattle.std.specs.List.{AllByRecursion as Each}
use Rattle.coarse_lists.specs.declared.collections.Collection.{Collection}
use Rattle.legal_output.specs.Printed.{all_drawn}
use Rattle.legal_output.specs.Phases.{Running, Phase, Begins, RunOver, lines_in}
use Rattle.legal_output.specs.Outputs.{start_of}
use Rattle.journal_model.specs.Notes.{log_of}
use Rattle.turn_table.specs.Knowledge.{at_slot}
use Rattle.phase_model.specs.Rests.{Rest, AreJournals}
use Rattle.phase_logs.specs.Events.{events_in}

-- the values of a run over journals at rest: of each channel its log, and what happened to its tail
abbrev pub running_of : Rest → Running
running_of rest = record {
  clock = rest.clock;
  met = rest.met;
  written = rest.mine;
  logs = λ k. log_of (at_slot rest.journals k);
  events = λ k. events_in (at_slot rest.journals k);
  failures = 0;
}

-- a run over these phases has come to rest: each phase and each meet kept what they owe, the journals are as they should
-- be, and no number that was drawn is below `least`
pub record HasRun (collection : Collection) (least : ℕ) (phases : List Phase) (rest : Rest) : Type 0 where
  pub first : Running
  pub begins : Begins (start_of collection) first
  pub run : RunOver (start_of collection) first phases (running_of rest)
  pub journals : AreJournals collection rest
  pub timely : Each (λ n. least ≤ n) (all_drawn (lines_in phases))
