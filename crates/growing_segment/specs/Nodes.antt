-- What a tree is seen as, and what holds of it; no caller needs it.
use Rattle.std.specs.Prelude.{[], ◌∷◌, ◌++◌}
use Rattle.growing_segment.specs.Trees.{Entries, IsNode}
use Rattle.growing_segment.specs.declared.trees.Link.{Link}
use Rattle.growing_segment.specs.declared.trees.Link.TheVariants.{Leaf, Fork}

abbrev pub entries_of : Link → Entries
entries_of Leaf = record { list = []; height = 0 }
entries_of (Fork node) = record { list = node.value.left.list ++ (node.value.key.0, node.value.position) ∷ node.value.right.list; height = node.value.height }

abbrev pub IsTree : Link → Type 0
IsTree Leaf = Unit {0}
IsTree (Fork node) = IsNode node.value.left node.value.key.0 node.value.position node.value.height node.value.right
