use Rattle.std.proofs.Common.{◌≡◌}
use Rattle.std.specs.Ordering.{int_cmp}
use Rattle.std.specs.FinMap.{find}
use Rattle.growing_segment.proofs.trees.Tree.find.Given as goal

abbrev pub invariant-down : goal.invariant-down
invariant-down l = find int_cmp l.key.0 l.tree.list ≡ find int_cmp l.key.0 l.self.list
