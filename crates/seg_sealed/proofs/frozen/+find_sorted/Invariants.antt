use Rattle.std.proofs.Common.{length}
use Rattle.seg_sealed.proofs.frozen.+find_sorted.Given as goal

abbrev pub decreases-find_sorted : goal.decreases-find_sorted
decreases-find_sorted l = length l.marks.now
