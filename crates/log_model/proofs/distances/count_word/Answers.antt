use Rattle.std.proofs.Common.{◌≡◌, ◌+◌, ◌-◌, subst, arith}
use Rattle.row_types.specs.Bits.{bits_of, count_pairs}
use Rattle.log_model.proofs.Counts.{count_bit, count_none}
use Rattle.log_model.specs.Counts.{passes}
use Rattle.log_model.proofs.distances.count_word.Goals as goal

pub bits-preserved : goal.bits-preserved
bits-preserved c =
    record {
      rest = count_bit (passes c.args.question) c.bits.total c.count_bits-total.result c.bits.position c.bits.left c.bits.right _ c.bits-test.true c.count_bits-total.ensures.counted c.bits.invariant.rest;
      few = omega arith;
    }

pub returns-clause-bits : goal.returns-clause-bits
returns-clause-bits c =
    let e : c.bits.position ≡ 64 = omega arith in
    count_none (passes c.args.question) c.bits.total c.bits.left c.bits.right _
    (subst (λ i. c.bits.total + count_pairs (passes c.args.question) (bits_of (64 - i) c.bits.left) (bits_of (64 - i) c.bits.right) ≡ count_pairs (passes c.args.question) (bits_of 64 c.args.x) (bits_of 64 c.args.y)) e c.bits.invariant.rest)
