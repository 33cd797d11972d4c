use Rattle.std.proofs.Common.{◌*◌}
use Rattle.shard_calls.specs.Fronts.{Spends}
use Rattle.call_tests.proofs.lines.serve_all.Given as goal

abbrev pub invariant-steps : goal.invariant-steps
invariant-steps g l = Spends (4 * l.step-index) l.fn.seat l.seat
