use Rattle.std.proofs.Common.{◌^◌, ◌<◌, length, get_or, bit_xor, arith, rules}
use Rattle.row_types.specs.Bits.{differ}
use Rattle.bit_distance.proofs.BitCounts.{count_few, differing_at, xor_makes}
use Rattle.bit_distance.proofs.counts.differing_in.Goals as goal

pub overflow_add-total : goal.overflow_add-total
overflow_add-total g c =
    let left : get_or c.args.a.now c.words.i 0 < 2 ^ 64 = search rules in
    let right : get_or c.args.b.now c.words.i 0 < 2 ^ 64 = search rules in
    omega (arith, count_few differ bit_xor xor_makes (get_or c.args.a.now c.words.i 0) (get_or c.args.b.now c.words.i 0) left right)

pub words-preserved : goal.words-preserved
words-preserved g c =
    let left : get_or c.args.a.now c.words.i 0 < 2 ^ 64 = search rules in
    let right : get_or c.args.b.now c.words.i 0 < 2 ^ 64 = search rules in
    let here : c.words.i < length c.args.a.now = omega arith in
    let there : c.words.i < length c.args.b.now = omega arith in
    record {
      total = omega (arith, differing_at c.args.a.now c.args.b.now c.words.i here there left right, c.words.invariant.total);
      bound = omega (arith, count_few differ bit_xor xor_makes (get_or c.args.a.now c.words.i 0) (get_or c.args.b.now c.words.i 0) left right);
    }
