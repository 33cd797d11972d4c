use Rattle.std.proofs.Common.{◌≡◌, map, vec_capacity}
use Rattle.phase_run.specs.Phases.{plan_by}
use Rattle.phase_run.proofs.phases.plan_callers.Given as goal

abbrev pub invariant-loop-work : goal.invariant-loop-work
invariant-loop-work l = record {
  plans : l.plans.items ≡ map plan_by l.yielded;
  room : vec_capacity l.plans ≡ vec_capacity l.initial.plans;
}
