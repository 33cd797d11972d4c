use Rattle.std.proofs.Common.{◌≡◌, ◌++◌, List, length, All, vec_capacity}
use Rattle.phase_run.specs.declared.phases.Plan.{Plan}
use Rattle.phase_run.specs.Phases.{IsTicker}
use Rattle.phase_run.proofs.phases.plan_tickers.Given as goal

abbrev pub invariant-tickers : goal.invariant-tickers
invariant-tickers l = record {
  plans : (others : List Plan) × (l.plans.items ≡ l.initial.plans.items ++ others) × (length others ≡ l.counter) × All (IsTicker l.roles.rounds) others;
  room : vec_capacity l.plans ≡ vec_capacity l.initial.plans;
}
