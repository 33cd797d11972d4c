use Rattle.std.proofs.Common.{◌≡◌, ◌≤◌, ◌++◌}
use Rattle.std.specs.List.{AllByRecursion}
use Rattle.std.specs.VecDeque.{deque_len, deque_capacity}
use Rattle.growing_segment.specs.Tails.{HasDimension, HasChunkDimension, IsWhole, rows_in}
use Rattle.growing_segment.proofs.chunks.freeze_all.Given as goal

abbrev pub invariant-chunks : goal.invariant-chunks
invariant-chunks l = record {
  rows : rows_in l.frozen.items ++ l.latest.items ≡ rows_in l.fn.frozen.items ++ l.fn.latest.items;
  whole : AllByRecursion IsWhole l.frozen.items;
  dims : AllByRecursion (HasChunkDimension l.dim) l.frozen.items;
  fit : AllByRecursion (HasDimension l.dim) l.latest.items;
  fewer : deque_len l.latest ≤ deque_len l.fn.latest;
  capacity : deque_capacity l.latest ≡ deque_capacity l.fn.latest;
}

abbrev pub decreases-chunks : goal.decreases-chunks
decreases-chunks l = deque_len l.latest
