-- The lines of the output that answer the lines of a phase.
use Rattle.std.specs.Prelude.{◌≡◌, ℕ, List, [], map, Some}
use Rattle.std.specs.List.{AllByRecursion as Each}
use Rattle.hybrid_time.specs.declared.times.Timestamp.{Timestamp}
use Rattle.legal_output.specs.Lines.{Line}
use Rattle.legal_output.specs.Legal.{Numbered}
use Rattle.legal_output.specs.Outputs.{asked_of}
use Rattle.legal_output.specs.Printed.{lines_of}
use Rattle.turn_facts.specs.Counts.{Among}
use Rattle.phase_run.specs.declared.works.Work.{Work}
use Rattle.phase_run.specs.declared.works.Done.{Done}
use Rattle.phase_run.specs.Phases.{AreLines, AreDone, AreAnswered}
use Rattle.phase_lines.specs.declared.lines.Slot.{Slot}
use Rattle.phase_lines.specs.Waiting.{Read, MayWait, slot_of, AreWorks}

-- the slots are those of lines that wait, the works are all that they ask, and each request has its answer
pub record CanAppend (first : ℕ) (slots : List Slot) (dones : List Done) (reads : List Read) (mine : List Timestamp) (works : List Work) : Type 0 where
  pub slots_are : slots ≡ map slot_of reads
  pub may : Each MayWait reads
  pub works_are : AreWorks first reads mine works
  pub done : AreDone works dones
  pub answered : AreAnswered works dones

-- an answer to each line, in their order; those of a caller are what it did, and one without work has none
pub record IsBlock (first : ℕ) (reads : List Read) (works : List Work) (dones : List Done) (block : List Line) : Type 0 where
  pub numbered : Numbered first block
  pub asked : map (λ (line : Line). line.asked) block ≡ map asked_of reads
  pub lines : AreLines works dones block
  pub silent : (caller : ℕ) → (Among caller (map (λ (work : Work). work.caller) works) → ⊥) → lines_of (Some caller) block ≡ []
