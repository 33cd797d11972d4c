use Rattle.std.proofs.Common.{◌≡◌, length, rules, arith, sym, ap, vec_len}
use Rattle.std.specs.FinMap as fin
use Rattle.growing_segment.proofs.SlotLaws.{entries_in-none, slotted_none}
use Rattle.growing_segment.proofs.buckets.Buckets.new.Goals as goal

pub invariant_of-result : goal.invariant_of-result
invariant_of-result c =
    let many : vec_len c.trees.trees ≡ length c.trees.trees.items = search rules in
    let all = c.trees.invariant.many in
    let some = c.requires.some in
    let few = c.requires.few in
    record {
      some = omega arith;
      few = omega arith;
      counted = sym (ap length (entries_in-none c.trees.trees.items c.trees.invariant.empty));
      slotted = slotted_none _ 0 c.trees.trees.items c.trees.invariant.empty;
    }

pub returns-clause-map : goal.returns-clause-map
returns-clause-map c = ap fin.from_entries (entries_in-none c.trees.trees.items c.trees.invariant.empty)
