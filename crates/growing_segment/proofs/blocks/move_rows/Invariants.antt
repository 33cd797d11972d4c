use Rattle.std.proofs.Common.{◌≡◌, ◌*◌, ◌≤◌, ◌++◌, vec_len, vec_capacity, map}
use Rattle.std.specs.List.{AllByRecursion}
use Rattle.std.specs.VecDeque.{deque_capacity}
use Rattle.log_model.specs.Places.{vector_of, IsColumn, width_of}
use Rattle.growing_segment.specs.Tails.{HasDimension}
use Rattle.growing_segment.proofs.blocks.move_rows.Given as goal

abbrev pub invariant-rows : goal.invariant-rows
invariant-rows g l = record {
  moved : l.rows.items ++ l.latest.items ≡ l.fn.latest.items;
  many : vec_len l.rows ≡ l.counter;
  fit : AllByRecursion (HasDimension g.dim) l.latest.items;
  column : IsColumn (width_of g.dim) (map vector_of l.rows.items) l.words.items;
  words : vec_len l.words ≡ l.counter * width_of g.dim;
  capacity : deque_capacity l.latest ≡ deque_capacity l.fn.latest;
  row_room : vec_capacity l.rows ≡ vec_capacity l.fn.rows;
  word_room : vec_capacity l.fn.words ≤ vec_capacity l.words;
}
