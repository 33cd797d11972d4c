use Rattle.std.proofs.Common.{◌≡◌, vec_len, vec_capacity, []}
use Rattle.std.specs.List.{AllByRecursion}
use Rattle.growing_segment.specs.Trees.{Entries}
use Rattle.growing_segment.proofs.buckets.Buckets.new.Given as goal

abbrev pub invariant-trees : goal.invariant-trees
invariant-trees l = record {
  many : vec_len l.trees ≡ l.counter;
  room : vec_capacity l.trees ≡ l.count;
  empty : AllByRecursion (λ (t : Entries). t.list ≡ []) l.trees.items;
}
