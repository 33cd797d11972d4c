use Rattle.std.proofs.Common.{Bool, List, length, ap, sym, ◌∙◌}
use Rattle.row_types.proofs.PackedBits.{length-packed}
use Rattle.row_types.proofs.vectors.BitVector.dim.Goals as goal

pub returns-clause-dim : goal.returns-clause-dim
returns-clause-dim c = sym (length-packed c.self.inside.dim c.self.inside.words.items c.self.invariant) ∙ ap (λ (t : List Bool). length t) c.self.view_is
