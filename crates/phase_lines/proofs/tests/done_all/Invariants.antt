use Rattle.std.proofs.Common.{◌≡◌, ℕ, length}
use Rattle.turn_facts.specs.Prefixes.{IsAt}
use Rattle.phase_run.specs.declared.works.Work.{Work}
use Rattle.phase_run.specs.declared.works.Done.{Done}
use Rattle.phase_run.specs.Phases.{IsDoneOf}
use Rattle.phase_lines.proofs.tests.done_all.Given as goal

abbrev pub invariant-loop-work : goal.invariant-loop-work
invariant-loop-work l = record {
  many : length l.dones.items ≡ l.work-index;
  each : (i : ℕ) (work : Work) (done : Done) → IsAt l.works i work → IsAt l.dones.items i done → IsDoneOf work done × (length done.answers.items ≡ length work.requests.items);
}
