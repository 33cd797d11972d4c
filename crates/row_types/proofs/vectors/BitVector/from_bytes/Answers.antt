use Rattle.row_types.proofs.PackedBits.{packed_from_bytes, bits_from_bytes}
use Rattle.row_types.proofs.vectors.BitVector.from_bytes.Goals as goal

pub invariant_of-result : goal.invariant_of-result
invariant_of-result c = packed_from_bytes c.args.bytes.now c.in_ok-words.words.items c.requires c.in_ok-words.ensures

pub returns : goal.returns
returns c = bits_from_bytes c.args.bytes.now c.in_ok-words.words.items c.in_ok-words.ensures
