use Rattle.std.proofs.Common.{◌≡◌, ℕ, List, ◌+◌, ◌*◌, ◌-◌, ◌<◌, ◌++◌, length, Some, rules, arith, refl, sym, ap, subst, ◌∙◌, vec_len}
use Rattle.std.proofs.lemmas.Option.{slice_get_read}
use Rattle.std.specs.List.{slice_get}
use Rattle.growing_segment.specs.Tails.{Rows, Rows, rows_in}
use Rattle.growing_segment.proofs.TailLaws.{length-rows, length-rows_in, slice_get_left, slice_get_right}
use Rattle.growing_segment.proofs.shared_tail.SharedTailTailRows.row.Goals as goal

pub overflow_mul-frozen : goal.overflow_mul-frozen
overflow_mul-frozen c =
    let chunks : length c.self.inside.chunks.items ≡ vec_len c.self.inside.chunks = search rules in
    let behind : length c.self.inside.latest.items ≡ vec_len c.self.inside.latest = search rules in
    let total = length-rows c.self.inside.dim c.self.inside.chunks.items c.self.inside.latest.items c.self.invariant in
    let few = c.self.invariant.rows_fit.few in
    omega arith

pub returns-then-at-frozen : goal.returns-then-at-frozen
returns-then-at-frozen c =
    let seen = ap (λ (t : Rows). slice_get t.rows c.args.i) c.self.view_is in
    let chunks : length c.self.inside.chunks.items ≡ vec_len c.self.inside.chunks = search rules in
    let many = length-rows_in c.self.inside.chunks.items c.self.invariant.whole in
    sym seen ∙ slice_get_left (rows_in c.self.inside.chunks.items) c.self.inside.latest.items c.args.i (omega arith)
    ∙ ap (λ (cs : List Rows). slice_get (rows_in cs) c.args.i) (sym c.deref.ensures.value) ∙ c.row_in.ensures

pub index-requires : goal.index-requires
index-requires c =
    let chunks : length c.self.inside.chunks.items ≡ vec_len c.self.inside.chunks = search rules in
    let behind : length c.self.inside.latest.items ≡ vec_len c.self.inside.latest = search rules in
    let total = length-rows c.self.inside.dim c.self.inside.chunks.items c.self.inside.latest.items c.self.invariant in
    let few = c.self.invariant.rows_fit.few in
    let seen = ap (λ (t : Rows). length t.rows) c.self.view_is in
    omega arith

pub returns : goal.returns
returns c =
    let seen = ap (λ (t : Rows). slice_get t.rows c.args.i) c.self.view_is in
    let many = ap (λ (t : Rows). length t.rows) c.self.view_is in
    let chunks : length c.self.inside.chunks.items ≡ vec_len c.self.inside.chunks = search rules in
    let total = length-rows c.self.inside.dim c.self.inside.chunks.items c.self.inside.latest.items c.self.invariant in
    let before = length-rows_in c.self.inside.chunks.items c.self.invariant.whole in
    let parts : 256 * c.len-frozen.result + (c.args.i - 256 * c.len-frozen.result) ≡ c.args.i = omega arith in
    let start : 256 * c.len-frozen.result ≡ length (rows_in c.self.inside.chunks.items) = omega arith in
    let place : c.args.i - 256 * c.len-frozen.result < length c.self.inside.latest.items = omega arith in
    sym seen ∙ subst (λ (n : ℕ). slice_get (rows_in c.self.inside.chunks.items ++ c.self.inside.latest.items) n ≡ Some c.index.result.now) parts
    (slice_get_right (rows_in c.self.inside.chunks.items) c.self.inside.latest.items (256 * c.len-frozen.result) (c.args.i - 256 * c.len-frozen.result) start
    ∙ slice_get_read c.self.inside.latest.items (length c.self.inside.latest.items) (c.args.i - 256 * c.len-frozen.result) c.index.result.now refl place c.index.ensures)
