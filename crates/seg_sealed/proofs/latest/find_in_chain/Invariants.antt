use Rattle.std.proofs.Common.{ℕ, length}
use Rattle.seg_sealed.proofs.ChainLaws.{Walks}
use Rattle.seg_sealed.proofs.latest.find_in_chain.Given as goal

abbrev pub invariant-chain : goal.invariant-chain
invariant-chain l = Walks (length l.last) l.row l.marks l.at

abbrev pub decreases-chain : goal.decreases-chain
decreases-chain l = l.at
