use Rattle.std.proofs.Common.{◌≡◌, vec_capacity}
use Rattle.phase_run.specs.Phases.{SetOut}
use Rattle.phase_run.proofs.phases.set_out.Given as goal

abbrev pub invariant-loop-plan : goal.invariant-loop-plan
invariant-loop-plan l = record {
  set : SetOut l.yielded l.initial.seat l.jobs.items l.seat;
  room : vec_capacity l.jobs ≡ vec_capacity l.initial.jobs;
}
