use Rattle.std.proofs.Common.{◌≡◌, length}
use Rattle.coarse_lists.specs.Schemas.{are_different}
use Rattle.coarse_lists.proofs.schemas.are_different.Given as goal

abbrev pub invariant-loop-column : goal.invariant-loop-column
invariant-loop-column l = are_different l.rest ≡ are_different l.columns

abbrev pub decreases-loop-column : goal.decreases-loop-column
decreases-loop-column l = length l.rest
