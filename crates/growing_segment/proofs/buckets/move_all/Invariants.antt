use Rattle.std.proofs.Common.{◌≡◌, ℤ, ◌+◌, ◌≤◌, length, vec_len, vec_capacity}
use Rattle.std.specs.Ordering.{int_cmp}
use Rattle.std.specs.FinMap as fin
use Rattle.std.specs.FinMap.{find}
use Rattle.growing_segment.specs.Buckets.{entries_in, or_else}
use Rattle.growing_segment.proofs.buckets.move_all.Given as goal

abbrev pub invariant-trees : goal.invariant-trees
invariant-trees l = record {
  found : (q : ℤ) → or_else (find int_cmp q (entries_in l.trees.items)) (fin.get l.into.map q) ≡ or_else (find int_cmp q (entries_in l.fn.trees.items)) (fin.get l.fn.into.map q);
  nodes : vec_len l.spare + l.into.nodes + length (entries_in l.trees.items) ≡ vec_len l.fn.spare + l.fn.into.nodes + length (entries_in l.fn.trees.items);
  least : l.fn.into.nodes ≤ l.into.nodes;
  most : l.into.nodes + length (entries_in l.trees.items) ≤ l.fn.into.nodes + length (entries_in l.fn.trees.items);
  capacity : vec_capacity l.spare ≡ vec_capacity l.fn.spare;
}

abbrev pub decreases-trees : goal.decreases-trees
decreases-trees l = vec_len l.trees
