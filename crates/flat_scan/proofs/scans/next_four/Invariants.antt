use Rattle.std.proofs.Common.{◌≡◌, ◌+◌, ◌*◌}
use Rattle.flat_scan.specs.Bars.{AreAllPast}
use Rattle.flat_scan.proofs.scans.next_four.Given as goal

abbrev pub invariant-fours : goal.invariant-fours
invariant-fours g l = record {
  past : AreAllPast (g.D.Distances.far l.far) l.bar.hit (4 * l.from) (4 * l.turn);
  steps : l.steps + 4 * l.from ≡ l.fn.steps + 4 * l.turn;
}
