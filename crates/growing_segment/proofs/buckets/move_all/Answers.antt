use Rattle.std.proofs.Common.{length, arith, sym, ap, ◌∙◌, length-append}
use Rattle.std.specs.Ordering.{int_cmp}
use Rattle.std.specs.FinMap as fin
use Rattle.std.specs.FinMap.{find}
use Rattle.growing_segment.specs.Buckets.{entries_in, or_else}
use Rattle.growing_segment.proofs.SlotLaws.{find-append, or_else_assoc, entries_in-push}
use Rattle.growing_segment.proofs.buckets.move_all.Goals as goal

pub scatter-requires-clause-room : goal.scatter-requires-clause-room
scatter-requires-clause-room c =
    let joined = ap entries_in c.in-Some.ensures.items ∙ entries_in-push c.pop.new.self.items c.in-Some.tree in
    let long = ap length joined in
    let parts = length-append (entries_in c.pop.new.self.items) c.in-Some.tree.list in
    let nodes = c.trees.invariant.nodes in
    let least = c.trees.invariant.least in
    let most = c.trees.invariant.most in
    let capacity = c.trees.invariant.capacity in
    let room = c.requires.room in
    let few = c.requires.few in
    omega arith

pub scatter-requires-clause-few : goal.scatter-requires-clause-few
scatter-requires-clause-few c =
    let joined = ap entries_in c.in-Some.ensures.items ∙ entries_in-push c.pop.new.self.items c.in-Some.tree in
    let long = ap length joined in
    let parts = length-append (entries_in c.pop.new.self.items) c.in-Some.tree.list in
    let nodes = c.trees.invariant.nodes in
    let least = c.trees.invariant.least in
    let most = c.trees.invariant.most in
    let capacity = c.trees.invariant.capacity in
    let room = c.requires.room in
    let few = c.requires.few in
    omega arith

pub trees-preserved : goal.trees-preserved
trees-preserved c =
    let joined = ap entries_in c.in-Some.ensures.items ∙ entries_in-push c.pop.new.self.items c.in-Some.tree in
    let long = ap length joined in
    let parts = length-append (entries_in c.pop.new.self.items) c.in-Some.tree.list in
    let nodes = c.trees.invariant.nodes in
    let least = c.trees.invariant.least in
    let most = c.trees.invariant.most in
    let capacity = c.trees.invariant.capacity in
    let room = c.requires.room in
    let few = c.requires.few in
    let set_nodes = c.scatter.ensures.nodes in
    let set_least = c.scatter.ensures.least in
    let set_most = c.scatter.ensures.most in
    let set_capacity = c.scatter.ensures.capacity in
    record {
      found = λ q.
          ap (or_else (find int_cmp q (entries_in c.pop.new.self.items))) (c.scatter.ensures.found q)
          ∙ sym (or_else_assoc (find int_cmp q (entries_in c.pop.new.self.items)) (find int_cmp q c.in-Some.tree.list) (fin.get c.trees.into.map q))
          ∙ ap (λ o. or_else o (fin.get c.trees.into.map q)) (sym (ap (find int_cmp q) joined ∙ find-append q (entries_in c.pop.new.self.items) c.in-Some.tree.list))
          ∙ c.trees.invariant.found q;
      nodes = omega arith;
      least = omega arith;
      most = omega arith;
      capacity = set_capacity ∙ capacity;
    }
