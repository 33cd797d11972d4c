use Rattle.std.proofs.Common.{length}
use Rattle.hybrid_time.specs.Times.{of_moment}
use Rattle.phase_run.proofs.Progress.{Progress}
use Rattle.phase_run.proofs.callers.serve_all.Given as goal

abbrev pub invariant-loop-request : goal.invariant-loop-request
invariant-loop-request g l = record {
  progress : Progress l.front.collection (of_moment (g.M.Moments.least l.call.moments.now)) l.front.table.first l.initial.mine.0 l.initial.seat l.fn.requests.items (length l.yielded) l.seat l.mine.0 l.answers.items;
}
