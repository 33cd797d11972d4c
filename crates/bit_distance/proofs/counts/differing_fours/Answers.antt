use Rattle.std.proofs.Common.{◌≡◌, ℕ, List, [], ◌+◌, ◌*◌, ◌/◌, ◌%◌, ◌^◌, ◌<◌, length, drop, get_or, bit_xor, ap₂, ap, refl, sym, ◌∙◌, arith, rules}
use Rattle.std.specs.Simd.{first_chunks}
use Rattle.row_types.specs.Bits.{differ, hamming_of, bits_in}
use Rattle.bit_distance.proofs.BitCounts.{count_few, differing_at, differing_chunk, xor_makes}
use Rattle.bit_distance.proofs.counts.differing_fours.Goals as goal

pub fours-preserved : goal.fours-preserved
fours-preserved c =
    let below : c.fours.i < length c.args.a.now / 4 = omega (arith, c.fours-test.true, c.as_chunks.ensures.front_len) in
    let front : c.as_chunks.result.0.now ≡ first_chunks 4 (length c.args.a.now / 4) c.args.a.now = c.as_chunks.ensures.front in
    let other : c.as_chunks-2.result.0.now ≡ first_chunks 4 (length c.args.b.now / 4) c.args.b.now = c.as_chunks-2.ensures.front in
    let level : c.as_chunks-2.result.0.now ≡ first_chunks 4 (length c.args.a.now / 4) c.args.b.now = other ∙ ap (λ n. first_chunks 4 (n / 4) c.args.b.now) (sym c.requires.same) in
    let more = differing_chunk c.args.a.now c.args.b.now (get_or c.as_chunks.result.0.now c.fours.i []) (get_or c.as_chunks-2.result.0.now c.fours.i []) c.fours.i (length c.args.a.now / 4) c.requires.same refl below
    (ap (λ (t : List (List ℕ)). get_or t c.fours.i []) front) (ap (λ (t : List (List ℕ)). get_or t c.fours.i []) level) in
    let counted = c.differing_in-total.ensures.value in
    record {
      total = omega (arith, more, counted, c.fours.invariant.total);
      bound = omega (arith, c.differing_in-total.ensures.bound);
    }

pub ones-init : goal.ones-init
ones-init c =
    let count : length c.as_chunks.result.0.now ≡ length c.args.a.now / 4 = c.as_chunks.ensures.front_len in
    let at : length c.args.a.now / 4 ≡ c.fours.i = omega arith in
    let too : length c.args.b.now / 4 ≡ c.fours.i = ap (λ n. n / 4) (sym c.requires.same) ∙ at in
    let behind : c.as_chunks.result.1.now ≡ drop (c.fours.i * 4) c.args.a.now = c.as_chunks.ensures.back ∙ ap (λ n. drop (n * 4) c.args.a.now) at in
    let after : c.as_chunks-2.result.1.now ≡ drop (c.fours.i * 4) c.args.b.now = c.as_chunks-2.ensures.back ∙ ap (λ n. drop (n * 4) c.args.b.now) too in
    record {
      total = ap₂ (λ (s r : List ℕ). c.fours.total + hamming_of (bits_in 64 s) (bits_in 64 r)) behind after ∙ c.fours.invariant.total;
      bound = omega arith;
    }

pub overflow_add-total-in-ones : goal.overflow_add-total-in-ones
overflow_add-total-in-ones c =
    let left : get_or c.as_chunks.result.1.now c.ones.i 0 < 2 ^ 64 = search rules in
    let right : get_or c.as_chunks-2.result.1.now c.ones.i 0 < 2 ^ 64 = search rules in
    let short : length c.as_chunks.result.1.now ≡ length c.args.a.now % 4 = c.as_chunks.ensures.back_len in
    omega (arith, short, count_few differ bit_xor xor_makes (get_or c.as_chunks.result.1.now c.ones.i 0) (get_or c.as_chunks-2.result.1.now c.ones.i 0) left right)

pub ones-preserved : goal.ones-preserved
ones-preserved c =
    let left : get_or c.as_chunks.result.1.now c.ones.i 0 < 2 ^ 64 = search rules in
    let right : get_or c.as_chunks-2.result.1.now c.ones.i 0 < 2 ^ 64 = search rules in
    let short : length c.as_chunks.result.1.now ≡ length c.args.a.now % 4 = c.as_chunks.ensures.back_len in
    let too : length c.as_chunks-2.result.1.now ≡ length c.args.b.now % 4 = c.as_chunks-2.ensures.back_len in
    let there : c.ones.i < length c.as_chunks-2.result.1.now = omega (arith, short, too, ap (λ n. n % 4) c.requires.same) in
    record {
      total = omega (arith, differing_at c.as_chunks.result.1.now c.as_chunks-2.result.1.now c.ones.i c.ones-test.true there left right, c.ones.invariant.total);
      bound = omega (arith, count_few differ bit_xor xor_makes (get_or c.as_chunks.result.1.now c.ones.i 0) (get_or c.as_chunks-2.result.1.now c.ones.i 0) left right);
    }
