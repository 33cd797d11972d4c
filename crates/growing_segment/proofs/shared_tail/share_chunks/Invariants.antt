use Rattle.std.proofs.Common.{◌≡◌, take}
use Rattle.growing_segment.proofs.shared_tail.share_chunks.Given as goal

abbrev pub invariant-chunks : goal.invariant-chunks
invariant-chunks l = l.owners.items ≡ take l.chunk-index l.chunks
