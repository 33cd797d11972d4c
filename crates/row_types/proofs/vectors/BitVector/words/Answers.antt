use Rattle.std.proofs.Common.{Bool, List, subst}
use Rattle.row_types.specs.Bits.{AreWordsOf}
use Rattle.row_types.proofs.PackedBits.{words_of_packed}
use Rattle.row_types.proofs.vectors.BitVector.words.Goals as goal

pub returns : goal.returns
returns c =
    let P : List Bool → Type 0 = λ bits. AreWordsOf bits c.self.inside.words.items in
    rw c.as_slice.ensures.value (subst P c.self.view_is (words_of_packed c.self.inside.dim c.self.inside.words.items c.self.invariant))
