use Rattle.std.proofs.Common.{◌≡◌, ◌+◌, ◌++◌, length, length-append, ap, arith}
use Rattle.seg_sealed.specs.Marks.{Marked}
use Rattle.seg_sealed.proofs.MarkLaws.{deaths_count}
use Rattle.seg_sealed.proofs.marks.Marks.len.Goals as goal

pub returns : goal.returns
returns c =
    let all = deaths_count (c.self.inside.frozen ++ c.self.inside.latest.marks) c.self.invariant.apart in
    let parts = length-append c.self.inside.frozen c.self.inside.latest.marks in
    let seen = ap (λ (m : Marked). length m.deaths) c.self.view_is in
    omega arith
