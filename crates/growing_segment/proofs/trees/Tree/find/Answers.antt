use Rattle.std.proofs.Common.{◌≡◌, ap, subst, sym, ◌∙◌}
use Rattle.growing_segment.specs.Trees.{Entries}
use Rattle.growing_segment.specs.Nodes.{entries_of, IsTree}
use Rattle.growing_segment.specs.declared.trees.Link.{Link}
use Rattle.growing_segment.proofs.KeyOrder.{is_found_left, is_found_right, is_found_middle}
use Rattle.growing_segment.proofs.trees.Tree.find.Goals as goal

pub down-preserved-then-is_below : goal.down-preserved-then-is_below
down-preserved-then-is_below c =
    let good = subst IsTree c.in-Fork.is c.tree.invariant in
    let seen = subst (λ (x : Link). entries_of x ≡ c.down.tree.now) c.in-Fork.is c.tree.view_is in
    rw c.deref-then-is_below.ensures (is_found_left c.args.key.0 _ _ _ _ (rw c.deref.ensures at (sym c.if-is_below.ensures)) good.rise (ap (λ (e : Entries). e.list) seen)) ∙ c.down.invariant

pub down-preserved : goal.down-preserved
down-preserved c =
    let good = subst IsTree c.in-Fork.is c.tree.invariant in
    let seen = subst (λ (x : Link). entries_of x ≡ c.down.tree.now) c.in-Fork.is c.tree.view_is in
    rw c.deref-then-is_below-2.ensures (is_found_right c.args.key.0 _ _ _ _ (rw c.deref-else-is_below.ensures at (sym c.if-is_below-2.ensures)) good.rise (ap (λ (e : Entries). e.list) seen)) ∙ c.down.invariant

pub returns-else-is_below-2 : goal.returns-else-is_below-2
returns-else-is_below-2 c =
    let good = subst IsTree c.in-Fork.is c.tree.invariant in
    let seen = subst (λ (x : Link). entries_of x ≡ c.down.tree.now) c.in-Fork.is c.tree.view_is in
    rw c.deref-else-is_below-2.ensures (is_found_middle c.args.key.0 _ _ _ _ (rw c.deref.ensures at (sym c.if-is_below.ensures)) (rw c.deref-else-is_below.ensures at (sym c.if-is_below-2.ensures)) good.rise (ap (λ (e : Entries). e.list) seen)) ∙ c.down.invariant
