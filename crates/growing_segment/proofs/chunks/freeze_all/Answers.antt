use Rattle.std.proofs.Common.{◌≡◌, ◌≤◌, ◌++◌, ◌∷◌, [], length, rules, arith, ap, ◌∙◌}
use Rattle.std.proofs.lemmas.List.{length-take-le, length-drop}
use Rattle.std.specs.VecDeque.{deque_len}
use Rattle.growing_segment.specs.Tails.{HasDimension, HasChunkDimension, IsWhole}
use Rattle.growing_segment.proofs.Columns.{all_drop, all_append}
use Rattle.growing_segment.proofs.TailLaws.{rows_moved}
use Rattle.growing_segment.proofs.chunks.freeze_all.Goals as goal

pub chunks-smaller : goal.chunks-smaller
chunks-smaller c =
    let before : length c.chunks.latest.items ≡ deque_len c.chunks.latest = search rules in
    let after : length c.freeze.new.latest.items ≡ deque_len c.freeze.new.latest = search rules in
    let rest = ap length c.in_ok-chunk.ensures.rest in
    let cut = length-drop 256 c.chunks.latest.items in
    omega arith

pub chunks-preserved : goal.chunks-preserved
chunks-preserved c =
    let before : length c.chunks.latest.items ≡ deque_len c.chunks.latest = search rules in
    let after : length c.freeze.new.latest.items ≡ deque_len c.freeze.new.latest = search rules in
    let rest = ap length c.in_ok-chunk.ensures.rest in
    let cut = length-drop 256 c.chunks.latest.items in
    let frozen : c.push_reserved.new.self.items ≡ c.chunks.frozen.items ++ c.in_ok-chunk.chunk ∷ [] = search rules in
    let enough : 256 ≤ length c.chunks.latest.items = omega arith in
    record {
      rows = rw (frozen, c.in_ok-chunk.ensures.rest) (rows_moved c.chunks.frozen.items c.in_ok-chunk.chunk c.chunks.latest.items c.in_ok-chunk.ensures.rows) ∙ c.chunks.invariant.rows;
      whole = rw frozen (all_append IsWhole c.chunks.frozen.items _ c.chunks.invariant.whole (ap length c.in_ok-chunk.ensures.rows ∙ length-take-le 256 c.chunks.latest.items enough, tt));
      dims = rw frozen (all_append (HasChunkDimension c.args.dim) c.chunks.frozen.items _ c.chunks.invariant.dims (c.in_ok-chunk.ensures.dim, tt));
      fit = rw c.in_ok-chunk.ensures.rest (all_drop (HasDimension c.args.dim) 256 _ c.chunks.invariant.fit);
      fewer = let least = c.chunks.invariant.fewer in omega arith;
      capacity = c.freeze.ensures.capacity ∙ c.chunks.invariant.capacity;
    }
