use Rattle.std.proofs.Common.{◌≡◌, ◌<◌, length, rules, arith, sym, ap, ◌∙◌, vec_len, length-set}
use Rattle.growing_segment.specs.Trees.{Entries, with_entry}
use Rattle.growing_segment.specs.Slots.{slot_of}
use Rattle.growing_segment.specs.Buckets.{Held, entries_in}
use Rattle.growing_segment.proofs.KeyMaps.{map_set}
use Rattle.growing_segment.proofs.KeyOrder.{length-with-least, length-with-most}
use Rattle.growing_segment.proofs.SlotLaws.{find_with, slotted_with, length_replaced, length_one}
use Rattle.growing_segment.proofs.buckets.Buckets.set.Goals as goal
use Rattle.std.specs.FinMap as fin

pub put_in-requires-clause-few : goal.put_in-requires-clause-few
put_in-requires-clause-few c =
    let many : vec_len c.self.inside.trees ≡ length c.self.inside.trees.items = search rules in
    let place : c.slot-at.result < length c.self.inside.trees.items = let low = c.slot-at.ensures.place in let all = c.len.ensures in omega arith in
    let same = ap (λ (t : Entries). length t.list) c.index_mut.ensures.value in
    let seen = ap (λ (h : Held). h.nodes) c.self.view_is in
    let counted = c.self.invariant.counted in
    let few = c.requires.few in
    omega (arith, length_one c.self.inside.trees.items c.slot-at.result c.index_mut.result.now place)

pub overflow_sub-self : goal.overflow_sub-self
overflow_sub-self c =
    let many : vec_len c.self.inside.trees ≡ length c.self.inside.trees.items = search rules in
    let place : c.slot-at.result < length c.self.inside.trees.items = let low = c.slot-at.ensures.place in let all = c.len.ensures in omega arith in
    let same = ap (λ (t : Entries). length t.list) c.index_mut.ensures.value in
    let seen = ap (λ (h : Held). h.nodes) c.self.view_is in
    let counted = c.self.invariant.counted in
    let replaced = length_replaced c.self.inside.trees.items c.slot-at.result c.put_in.new.tree c.index_mut.result.now place in
    let nodes = c.put_in.ensures.nodes in
    let long = ap length c.put_in.ensures.list in
    let before = c.len-before.ensures in
    let after = c.len-2.ensures in
    let capacity = c.put_in.ensures.capacity in
    let least = length-with-least (c.args.key.0, c.args.position) c.index_mut.result.now.list in
    let most = length-with-most (c.args.key.0, c.args.position) c.index_mut.result.now.list in
    omega arith

pub invariant_of-self : goal.invariant_of-self
invariant_of-self c =
    let many : vec_len c.self.inside.trees ≡ length c.self.inside.trees.items = search rules in
    let place : c.slot-at.result < length c.self.inside.trees.items = let low = c.slot-at.ensures.place in let all = c.len.ensures in omega arith in
    let same = ap (λ (t : Entries). length t.list) c.index_mut.ensures.value in
    let seen = ap (λ (h : Held). h.nodes) c.self.view_is in
    let counted = c.self.invariant.counted in
    let replaced = length_replaced c.self.inside.trees.items c.slot-at.result c.put_in.new.tree c.index_mut.result.now place in
    let nodes = c.put_in.ensures.nodes in
    let long = ap length c.put_in.ensures.list in
    let before = c.len-before.ensures in
    let after = c.len-2.ensures in
    let capacity = c.put_in.ensures.capacity in
    let least = length-with-least (c.args.key.0, c.args.position) c.index_mut.result.now.list in
    let most = length-with-most (c.args.key.0, c.args.position) c.index_mut.result.now.list in
    let at = c.slot-at.ensures.slot ∙ ap (slot_of c.args.key.0) (c.len.ensures ∙ many) in
    let list = c.put_in.ensures.list ∙ ap (λ (t : Entries). with_entry (c.args.key.0, c.args.position) t.list) c.index_mut.ensures.value in
    let all = length-set c.self.inside.trees.items c.slot-at.result c.put_in.new.tree in
    let some = c.self.invariant.some in
    let few = c.self.invariant.few in
    record {
      some = omega arith;
      few = omega arith;
      counted = omega arith;
      slotted = slotted_with c.self.inside.trees.items c.slot-at.result c.args.key.0 c.args.position c.put_in.new.tree c.index_mut.result.now c.self.invariant.slotted (sym at) place list;
    }

pub returns-clause-map : goal.returns-clause-map
returns-clause-map c =
    let many : vec_len c.self.inside.trees ≡ length c.self.inside.trees.items = search rules in
    let place : c.slot-at.result < length c.self.inside.trees.items = let low = c.slot-at.ensures.place in let all = c.len.ensures in omega arith in
    let same = ap (λ (t : Entries). length t.list) c.index_mut.ensures.value in
    let at = c.slot-at.ensures.slot ∙ ap (slot_of c.args.key.0) (c.len.ensures ∙ many) in
    let list = c.put_in.ensures.list ∙ ap (λ (t : Entries). with_entry (c.args.key.0, c.args.position) t.list) c.index_mut.ensures.value in
    map_set c.args.key.0 c.args.position (entries_in c.self.inside.trees.items) _
    (find_with c.self.inside.trees.items c.slot-at.result c.args.key.0 c.args.position c.put_in.new.tree c.index_mut.result.now c.self.invariant.some c.self.invariant.slotted (sym at) place list)
    ∙ ap (λ (h : Held). fin.insert h.map c.args.key.0 c.args.position) c.self.view_is

pub returns-clause-nodes : goal.returns-clause-nodes
returns-clause-nodes c =
    let many : vec_len c.self.inside.trees ≡ length c.self.inside.trees.items = search rules in
    let place : c.slot-at.result < length c.self.inside.trees.items = let low = c.slot-at.ensures.place in let all = c.len.ensures in omega arith in
    let same = ap (λ (t : Entries). length t.list) c.index_mut.ensures.value in
    let seen = ap (λ (h : Held). h.nodes) c.self.view_is in
    let counted = c.self.invariant.counted in
    let replaced = length_replaced c.self.inside.trees.items c.slot-at.result c.put_in.new.tree c.index_mut.result.now place in
    let nodes = c.put_in.ensures.nodes in
    let long = ap length c.put_in.ensures.list in
    let before = c.len-before.ensures in
    let after = c.len-2.ensures in
    let capacity = c.put_in.ensures.capacity in
    let least = length-with-least (c.args.key.0, c.args.position) c.index_mut.result.now.list in
    let most = length-with-most (c.args.key.0, c.args.position) c.index_mut.result.now.list in
    omega arith

pub returns-clause-most : goal.returns-clause-most
returns-clause-most c =
    let many : vec_len c.self.inside.trees ≡ length c.self.inside.trees.items = search rules in
    let place : c.slot-at.result < length c.self.inside.trees.items = let low = c.slot-at.ensures.place in let all = c.len.ensures in omega arith in
    let same = ap (λ (t : Entries). length t.list) c.index_mut.ensures.value in
    let seen = ap (λ (h : Held). h.nodes) c.self.view_is in
    let counted = c.self.invariant.counted in
    let replaced = length_replaced c.self.inside.trees.items c.slot-at.result c.put_in.new.tree c.index_mut.result.now place in
    let nodes = c.put_in.ensures.nodes in
    let long = ap length c.put_in.ensures.list in
    let before = c.len-before.ensures in
    let after = c.len-2.ensures in
    let capacity = c.put_in.ensures.capacity in
    let least = length-with-least (c.args.key.0, c.args.position) c.index_mut.result.now.list in
    let most = length-with-most (c.args.key.0, c.args.position) c.index_mut.result.now.list in
    omega arith
