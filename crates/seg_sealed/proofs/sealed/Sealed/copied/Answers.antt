use Rattle.std.proofs.Common.{◌≡◌, ◌≤◌, ◌*◌, length, ap, rules, arith}
use Rattle.log_model.specs.Places.{width_of}
use Rattle.seg_sealed.proofs.SealLaws.{words_whole}
use Rattle.seg_sealed.proofs.sealed.Sealed.copied.Goals as goal

pub unpack-requires-clause-whole : goal.unpack-requires-clause-whole
unpack-requires-clause-whole c =
    let whole : length c.self.inside.positions.items * width_of c.self.inside.dim ≡ length c.self.inside.words.items = words_whole c.self.inside.dim (length c.self.inside.positions.items) c.self.inside.words.items c.self.invariant.column in
    let many : c.len.result ≡ length c.self.inside.positions.items = search rules in
    let words : length c.as_slice.result.now ≡ length c.self.inside.words.items = ap length c.as_slice.ensures.value in
    let e : c.len.result * width_of c.self.inside.dim ≡ length c.self.inside.positions.items * width_of c.self.inside.dim = ap (λ n. n * width_of c.self.inside.dim) many in
    omega arith
