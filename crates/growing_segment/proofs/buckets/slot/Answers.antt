use Rattle.std.proofs.Common.{ℕ, ◌*◌, ◌/◌, ◌%◌, ap, ◌∙◌, rules, w64, FitsSigned, bit_xor}
use Rattle.std.specs.Int.{cast_unsigned}
use Rattle.std.proofs.lemmas.Int.{to_z-of_z}
use Rattle.growing_segment.specs.Slots.{mixed_of, slot_of}
use Rattle.growing_segment.proofs.buckets.slot.Goals as goal

pub returns-clause-slot : goal.returns-clause-slot
unfolding mixed_of slot_of
returns-clause-slot c =
    let fits : FitsSigned w64 c.args.key.0 = search rules in
    let is = c.cast_unsigned-bits.ensures ∙ ap (cast_unsigned w64) (to_z-of_z w64 c.args.key.0 fits) in
    ap (λ (b : ℕ). bit_xor b (b / 4294967296) * 11400714819323198485 % 18446744073709551616 / 4294967296 * c.args.count / 4294967296) is
