use Rattle.row_types.proofs.PackedBits.{AreFilled}
use Rattle.row_types.proofs.vectors.pack.Given as goal

abbrev pub invariant-chunks : goal.invariant-chunks
invariant-chunks l = AreFilled l.bytes l.words.items l.chunk-index
