use Rattle.std.proofs.Common.{◌≡◌, length, rules, arith, ap, vec_len}
use Rattle.growing_segment.specs.Tails.{Rows}
use Rattle.growing_segment.proofs.TailLaws.{length-rows}
use Rattle.growing_segment.proofs.shared_tail.SharedTailTailRows.len.Goals as goal

pub overflow_mul-result : goal.overflow_mul-result
overflow_mul-result c =
    let chunks : length c.self.inside.chunks.items ≡ vec_len c.self.inside.chunks = search rules in
    let behind : length c.self.inside.latest.items ≡ vec_len c.self.inside.latest = search rules in
    let total = length-rows c.self.inside.dim c.self.inside.chunks.items c.self.inside.latest.items c.self.invariant in
    let few = c.self.invariant.rows_fit.few in
    omega arith

pub overflow_add-result : goal.overflow_add-result
overflow_add-result c =
    let chunks : length c.self.inside.chunks.items ≡ vec_len c.self.inside.chunks = search rules in
    let behind : length c.self.inside.latest.items ≡ vec_len c.self.inside.latest = search rules in
    let total = length-rows c.self.inside.dim c.self.inside.chunks.items c.self.inside.latest.items c.self.invariant in
    let few = c.self.invariant.rows_fit.few in
    omega arith

pub overflow_cast-result : goal.overflow_cast-result
overflow_cast-result c =
    let chunks : length c.self.inside.chunks.items ≡ vec_len c.self.inside.chunks = search rules in
    let behind : length c.self.inside.latest.items ≡ vec_len c.self.inside.latest = search rules in
    let total = length-rows c.self.inside.dim c.self.inside.chunks.items c.self.inside.latest.items c.self.invariant in
    let few = c.self.invariant.rows_fit.few in
    omega arith

pub returns : goal.returns
returns c =
    let chunks : length c.self.inside.chunks.items ≡ vec_len c.self.inside.chunks = search rules in
    let behind : length c.self.inside.latest.items ≡ vec_len c.self.inside.latest = search rules in
    let total = length-rows c.self.inside.dim c.self.inside.chunks.items c.self.inside.latest.items c.self.invariant in
    let few = c.self.invariant.rows_fit.few in
    let seen = ap (λ (t : Rows). length t.rows) c.self.view_is in
    omega arith
