use Rattle.std.proofs.Common.{rules, ◌<◌, ◌^◌, nat_lt, ap, sym, ◌∙◌}
use Rattle.flat_scan.specs.Bars.{is_past}
use Rattle.flat_scan.proofs.Bounds.{whole_past}
use Rattle.flat_scan.proofs.bars.Bar.is_before.Goals as goal

pub returns-in-Hamming : goal.returns-in-Hamming
returns-in-Hamming c =
    let few : c.in-Hamming.bits < 2 ^ 32 = search rules in
    ap (λ w. nat_lt w c.in-Hamming.bits) c.args.self.now.whole_is ∙ whole_past c.args.self.now.hit c.in-Hamming.bits few ∙ ap (is_past c.args.self.now.hit) (sym c.in-Hamming.is)
