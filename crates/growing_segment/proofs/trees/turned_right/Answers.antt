use Rattle.std.proofs.Common.{◌∷◌}
use Rattle.growing_segment.proofs.KeyOrder.{rise_inner_right, rise_inner_left, rise_left}
use Rattle.growing_segment.proofs.trees.turned_right.Goals as goal

pub join-low-requires-clause-rise : goal.join-low-requires-clause-rise
join-low-requires-clause-rise c =
    rise_inner_right c.in-Some.outer.left.list _ _ _ _ (rw c.in-Some.ensures.list at c.requires.rise)

pub join-low-requires-2-clause-rise : goal.join-low-requires-2-clause-rise
join-low-requires-2-clause-rise c =
    let rise = rw (c.in-Some.ensures.list, c.in-Some-parts.ensures.list) at c.requires.rise in
    rise_inner_left _ _ _ (c.in-Some-parts.inner.node.value.key.0, c.in-Some-parts.inner.node.value.position) c.in-Some-parts.inner.right.list (rise_left _ ((c.args.node.value.key.0, c.args.node.value.position) ∷ c.args.right.list) rise)

pub join-high-requires-clause-rise : goal.join-high-requires-clause-rise
join-high-requires-clause-rise c =
    let rise = rw (c.in-Some.ensures.list, c.in-Some-parts.ensures.list) at c.requires.rise in
    rise_inner_right c.in-Some-parts.inner.left.list _ _ _ _ (rise_inner_right c.in-Some.outer.left.list _ _ _ _ rise)
