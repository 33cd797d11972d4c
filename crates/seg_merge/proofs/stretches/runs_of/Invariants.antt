use Rattle.std.proofs.Common.{length}
use Rattle.seg_merge.proofs.StretchLaws.{AreInRuns}
use Rattle.seg_merge.proofs.stretches.runs_of.Given as goal

abbrev pub invariant-runs : goal.invariant-runs
invariant-runs l = AreInRuns l.parts l.kept l.rest l.runs.items

abbrev pub decreases-runs : goal.decreases-runs
decreases-runs l = length l.rest
