use Rattle.std.proofs.Common.{◌≡◌, ◌-◌, ◌∙◌, ap, arith}
use Rattle.row_types.specs.Bits.{common_of}
use Rattle.row_types.specs.Hits.{fraction_of}
use Rattle.bit_distance.proofs.BitCounts.{union_parts}
use Rattle.flat_scan.proofs.distances.apart.Goals as goal

pub returns-in-Jaccard : goal.returns-in-Jaccard
returns-in-Jaccard c =
    let num : c.differing-in-Jaccard.result ≡ c.united.result - common_of c.args.a.now c.args.b.now =
    omega (arith, union_parts c.args.a.now c.args.b.now, c.differing-in-Jaccard.ensures, c.united.ensures) in
    rw c.in-Jaccard.is
    (c.fraction.ensures (common_of c.args.a.now c.args.b.now) num ∙ ap (λ n. fraction_of n (common_of c.args.a.now c.args.b.now)) c.united.ensures)
