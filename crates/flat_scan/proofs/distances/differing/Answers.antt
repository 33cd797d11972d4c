use Rattle.std.proofs.Common.{◌∙◌, arith}
use Rattle.bit_distance.proofs.BitCounts.{differing_packed, same_words}
use Rattle.flat_scan.proofs.distances.differing.Goals as goal

pub differing_bits-requires : goal.differing_bits-requires
differing_bits-requires c = record {
  same = same_words c.args.a.now c.args.b.now c.words-ours.result.now c.words-theirs.result.now c.words-ours.ensures c.words-theirs.ensures c.requires;
  few = omega (arith, c.words-ours.ensures.packed.few, c.words-ours.ensures.packed.within);
}

pub returns : goal.returns
returns c = c.differing_bits.ensures ∙ differing_packed c.args.a.now c.args.b.now c.words-ours.result.now c.words-theirs.result.now c.words-ours.ensures c.words-theirs.ensures c.requires
