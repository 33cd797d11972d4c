use Rattle.std.proofs.Common.{[]}
use Rattle.growing_segment.proofs.KeyOrder.{rise_inner_left}
use Rattle.growing_segment.proofs.trees.+split_last.Goals as goal

pub even-requires-clause-rise : goal.even-requires-clause-rise
even-requires-clause-rise t c =
    rise_inner_left _ _ _ (c.in-Some.last.value.key.0, c.in-Some.last.value.position) [] (rw c.in-Some.ensures.list at c.in_ok-node.ensures.node.rise)
