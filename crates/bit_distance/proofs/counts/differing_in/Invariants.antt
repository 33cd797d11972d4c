use Rattle.std.proofs.Common.{◌≡◌, ◌+◌, ◌*◌, ◌≤◌, drop}
use Rattle.row_types.specs.Bits.{bits_in, hamming_of}
use Rattle.bit_distance.proofs.counts.differing_in.Given as goal

abbrev pub invariant-words : goal.invariant-words
invariant-words g l = record {
  total : l.total + hamming_of (bits_in 64 (drop l.i l.a)) (bits_in 64 (drop l.i l.b)) ≡ hamming_of (bits_in 64 l.a) (bits_in 64 l.b);
  bound : l.total ≤ 64 * l.i;
}
