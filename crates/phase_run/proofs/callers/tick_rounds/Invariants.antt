use Rattle.std.proofs.Common.{◌*◌}
use Rattle.hybrid_time.specs.Times.{of_moment}
use Rattle.phase_model.specs.Phases.{Minds}
use Rattle.shard_calls.specs.Fronts.{Spends}
use Rattle.phase_run.specs.Callers.{Ticked}
use Rattle.phase_run.proofs.callers.tick_rounds.Given as goal

abbrev pub invariant-rounds : goal.invariant-rounds
invariant-rounds g l = record {
  minds : Minds l.initial.seat l.seat;
  ticked : Ticked l.front.collection (of_moment (g.M.Moments.least l.call.moments.now)) l.counter l.initial.seat l.seat;
  spends : Spends (l.counter * 20) l.initial.seat l.seat;
}
