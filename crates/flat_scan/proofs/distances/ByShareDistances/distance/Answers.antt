use Rattle.std.proofs.Common.{◌≡◌, ◌-◌, ◌∙◌, ap, arith}
use Rattle.row_types.specs.Bits.{common_of}
use Rattle.row_types.specs.Hits.{fraction_of}
use Rattle.bit_distance.proofs.BitCounts.{union_parts}
use Rattle.flat_scan.proofs.distances.ByShareDistances.distance.Goals as goal

pub returns : goal.returns
returns g c =
    let ours = g.C.Column.asked c.args.self.now.0.now in
    let theirs = g.C.Column.bits c.args.self.now.0.now c.args.i in
    let num : c.differing.result ≡ c.united.result - common_of ours theirs =
    omega (arith, union_parts ours theirs, c.differing.ensures, c.united.ensures) in
    c.fraction.ensures (common_of ours theirs) num ∙ ap (λ n. fraction_of n (common_of ours theirs)) c.united.ensures
