use Rattle.std.proofs.Common.{sym, ◌∙◌}
use Rattle.growing_segment.proofs.KeyOrder.{rise_with_left, rise_with_right, rise_with_middle, is_with_left, is_with_right, is_with_middle}
use Rattle.growing_segment.proofs.trees.Tree.+with.Goals as goal

pub even-requires-clause-rise : goal.even-requires-clause-rise
even-requires-clause-rise t c =
    rise_with_left (c.args.key.0, c.args.position) _ c.in-Some.field-0.left.list _ _ c.with.ensures.list (rw c.deref.ensures at (sym c.if-is_below.ensures)) c.in-Some.ensures.node.rise

pub returns-then-is_below-clause-list : goal.returns-then-is_below-clause-list
returns-then-is_below-clause-list t c =
    c.even.ensures.list ∙ is_with_left (c.args.key.0, c.args.position) _ c.in-Some.field-0.left.list _ _ _ c.with.ensures.list (rw c.deref.ensures at (sym c.if-is_below.ensures)) c.in-Some.ensures.list

pub even-requires-then-is_below-2-clause-rise : goal.even-requires-then-is_below-2-clause-rise
even-requires-then-is_below-2-clause-rise t c =
    rise_with_right (c.args.key.0, c.args.position) _ _ c.in-Some.field-0.right.list _ c.with-then-is_below-2.ensures.list (rw c.deref-2.ensures at (sym c.if-is_below-2.ensures)) c.in-Some.ensures.node.rise

pub returns-then-is_below-2-clause-list : goal.returns-then-is_below-2-clause-list
returns-then-is_below-2-clause-list t c =
    c.even-then-is_below-2.ensures.list ∙ is_with_right (c.args.key.0, c.args.position) _ _ c.in-Some.field-0.right.list _ _ c.with-then-is_below-2.ensures.list (rw c.deref-2.ensures at (sym c.if-is_below-2.ensures)) c.in-Some.ensures.node.rise c.in-Some.ensures.list

pub join-requires-clause-rise : goal.join-requires-clause-rise
join-requires-clause-rise t c = rw c.deref_mut.ensures.value (rise_with_middle c.args.position _ c.in-Some.field-0.left.list _ c.in-Some.ensures.node.rise)

pub returns-clause-list : goal.returns-clause-list
returns-clause-list t c =
    c.join.ensures.list ∙ rw c.deref_mut.ensures.value (is_with_middle c.args.key.0 c.args.position _ c.in-Some.field-0.left.list _ _ (rw c.deref.ensures at (sym c.if-is_below.ensures)) (rw c.deref-2.ensures at (sym c.if-is_below-2.ensures)) c.in-Some.ensures.node.rise c.in-Some.ensures.list)
