use Rattle.std.proofs.Common.{◌≡◌, length}
use Rattle.phase_lines.specs.Steps.{AreWorksOf}
use Rattle.phase_lines.proofs.places.works_of.Given as goal

abbrev pub invariant-loop-requests : goal.invariant-loop-requests
invariant-loop-requests l = record {
  works : AreWorksOf l.yielded l.mine l.works.items;
  caller : l.caller ≡ length l.yielded;
}
