use Rattle.std.proofs.Common.{◌≡◌, ◌+◌, ◌*◌, ◌/◌, ◌≤◌, length, drop}
use Rattle.row_types.specs.Bits.{bits_in, hamming_of}
use Rattle.bit_distance.proofs.counts.differing_fours.Given as goal

abbrev pub invariant-fours : goal.invariant-fours
invariant-fours l = record {
  total : l.total + hamming_of (bits_in 64 (drop (l.i * 4) l.fn.a)) (bits_in 64 (drop (l.i * 4) l.fn.b)) ≡ hamming_of (bits_in 64 l.fn.a) (bits_in 64 l.fn.b);
  bound : l.total ≤ 256 * l.i;
}

abbrev pub invariant-ones : goal.invariant-ones
invariant-ones l = record {
  total : l.total + hamming_of (bits_in 64 (drop l.i l.rest)) (bits_in 64 (drop l.i l.after)) ≡ hamming_of (bits_in 64 l.fn.a) (bits_in 64 l.fn.b);
  bound : l.total ≤ 256 * (length l.fn.a / 4) + 64 * l.i;
}
