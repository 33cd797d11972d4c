use Rattle.std.proofs.Common.{◌≡◌, ◌≤◌, ◌+◌, ◌*◌, drop}
use Rattle.row_types.specs.Bits.{bits_in, count_pairs}
use Rattle.log_model.specs.Counts.{passes}
use Rattle.log_model.proofs.distances.count_words.Given as goal

abbrev pub invariant-words : goal.invariant-words
invariant-words l = record {
  rest : l.total + count_pairs (passes l.question) (bits_in 64 (drop l.i l.xs)) (bits_in 64 (drop l.i l.ys))
      ≡ count_pairs (passes l.question) (bits_in 64 l.xs) (bits_in 64 l.ys);
  few : l.total ≤ 64 * l.i;
}
