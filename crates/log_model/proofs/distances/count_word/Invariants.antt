use Rattle.std.proofs.Common.{◌≡◌, ◌≤◌, ◌+◌, ◌-◌}
use Rattle.row_types.specs.Bits.{bits_of, count_pairs}
use Rattle.log_model.specs.Counts.{passes}
use Rattle.log_model.proofs.distances.count_word.Given as goal

abbrev pub invariant-bits : goal.invariant-bits
invariant-bits l = record {
  rest : l.total + count_pairs (passes l.question) (bits_of (64 - l.position) l.left) (bits_of (64 - l.position) l.right)
      ≡ count_pairs (passes l.question) (bits_of 64 l.x) (bits_of 64 l.y);
  few : l.total ≤ l.position;
}
