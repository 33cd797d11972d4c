use Rattle.std.proofs.Common.{sym, ◌∙◌}
use Rattle.growing_segment.proofs.KeyOrder.{rise_without_left, rise_without_right, rise_without_middle, is_without_left, is_without_right, is_without_middle}
use Rattle.growing_segment.proofs.trees.Tree.+without.Goals as goal

pub even-requires-clause-rise : goal.even-requires-clause-rise
even-requires-clause-rise t c =
    rise_without_left c.args.key.0 _ c.in-Some.field-0.left.list _ _ c.without.ensures.list (rw c.deref.ensures at (sym c.if-is_below.ensures)) c.in-Some.ensures.node.rise

pub returns-then-is_below-clause-list : goal.returns-then-is_below-clause-list
returns-then-is_below-clause-list t c =
    c.even.ensures.list ∙ is_without_left c.args.key.0 _ c.in-Some.field-0.left.list _ _ _ c.without.ensures.list (rw c.deref.ensures at (sym c.if-is_below.ensures)) c.in-Some.ensures.list

pub even-requires-then-is_below-2-clause-rise : goal.even-requires-then-is_below-2-clause-rise
even-requires-then-is_below-2-clause-rise t c =
    rise_without_right c.args.key.0 _ _ c.in-Some.field-0.right.list _ c.without-then-is_below-2.ensures.list (rw c.deref-2.ensures at (sym c.if-is_below-2.ensures)) c.in-Some.ensures.node.rise

pub returns-then-is_below-2-clause-list : goal.returns-then-is_below-2-clause-list
returns-then-is_below-2-clause-list t c =
    c.even-then-is_below-2.ensures.list ∙ is_without_right c.args.key.0 _ _ c.in-Some.field-0.right.list _ _ c.without-then-is_below-2.ensures.list (rw c.deref-2.ensures at (sym c.if-is_below-2.ensures)) c.in-Some.ensures.node.rise c.in-Some.ensures.list

pub beside-requires-clause-rise : goal.beside-requires-clause-rise
beside-requires-clause-rise t c =
    rise_without_middle c.args.key.0 _ c.in-Some.field-0.left.list _ (rw c.deref.ensures at (sym c.if-is_below.ensures)) (rw c.deref-2.ensures at (sym c.if-is_below-2.ensures)) c.in-Some.ensures.node.rise

pub returns-clause-list : goal.returns-clause-list
returns-clause-list t c =
    c.beside.ensures.list ∙ is_without_middle c.args.key.0 _ c.in-Some.field-0.left.list _ _ (rw c.deref.ensures at (sym c.if-is_below.ensures)) (rw c.deref-2.ensures at (sym c.if-is_below-2.ensures)) c.in-Some.ensures.node.rise c.in-Some.ensures.list
