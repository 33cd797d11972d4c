use Rattle.std.proofs.Common.{◌≡◌, ◌<◌, length, rules, arith, sym, ap, subst, ◌∙◌, vec_len, length-set}
use Rattle.growing_segment.specs.Trees.{Entries, without_key, KeysRise}
use Rattle.growing_segment.specs.Slots.{slot_of}
use Rattle.growing_segment.specs.Buckets.{Held, entries_in}
use Rattle.growing_segment.proofs.KeyMaps.{map_cleared}
use Rattle.growing_segment.proofs.KeyOrder.{length-without}
use Rattle.growing_segment.proofs.SlotLaws.{find_without, slotted_without, length_replaced, length_one}
use Rattle.growing_segment.proofs.buckets.Buckets.clear.Goals as goal
use Rattle.std.specs.FinMap as fin

pub take_out-requires-clause-room : goal.take_out-requires-clause-room
take_out-requires-clause-room c =
    let many : vec_len c.self.inside.trees ≡ length c.self.inside.trees.items = search rules in
    let place : c.slot-at.result < length c.self.inside.trees.items = let low = c.slot-at.ensures.place in let all = c.len.ensures in omega arith in
    let same = ap (λ (t : Entries). length t.list) c.index_mut.ensures.value in
    let seen = ap (λ (h : Held). h.nodes) c.self.view_is in
    let counted = c.self.invariant.counted in
    let room = c.requires.room in
    omega (arith, length_one c.self.inside.trees.items c.slot-at.result c.index_mut.result.now place)

pub take_out-requires-clause-few : goal.take_out-requires-clause-few
take_out-requires-clause-few c =
    let many : vec_len c.self.inside.trees ≡ length c.self.inside.trees.items = search rules in
    let place : c.slot-at.result < length c.self.inside.trees.items = let low = c.slot-at.ensures.place in let all = c.len.ensures in omega arith in
    let same = ap (λ (t : Entries). length t.list) c.index_mut.ensures.value in
    let seen = ap (λ (h : Held). h.nodes) c.self.view_is in
    let counted = c.self.invariant.counted in
    let few = c.requires.few in
    omega (arith, length_one c.self.inside.trees.items c.slot-at.result c.index_mut.result.now place)

pub overflow_sub-self : goal.overflow_sub-self
overflow_sub-self c =
    let many : vec_len c.self.inside.trees ≡ length c.self.inside.trees.items = search rules in
    let place : c.slot-at.result < length c.self.inside.trees.items = let low = c.slot-at.ensures.place in let all = c.len.ensures in omega arith in
    let same = ap (λ (t : Entries). length t.list) c.index_mut.ensures.value in
    let seen = ap (λ (h : Held). h.nodes) c.self.view_is in
    let counted = c.self.invariant.counted in
    let replaced = length_replaced c.self.inside.trees.items c.slot-at.result c.take_out.new.tree c.index_mut.result.now place in
    let nodes = c.take_out.ensures.nodes in
    let long = ap length c.take_out.ensures.list in
    let before = c.len-before.ensures in
    let after = c.len-2.ensures in
    let capacity = c.take_out.ensures.capacity in
    let fewer = length-without c.args.key.0 c.index_mut.result.now.list in
    omega arith

pub overflow_sub-self-2 : goal.overflow_sub-self-2
overflow_sub-self-2 c =
    let many : vec_len c.self.inside.trees ≡ length c.self.inside.trees.items = search rules in
    let place : c.slot-at.result < length c.self.inside.trees.items = let low = c.slot-at.ensures.place in let all = c.len.ensures in omega arith in
    let same = ap (λ (t : Entries). length t.list) c.index_mut.ensures.value in
    let seen = ap (λ (h : Held). h.nodes) c.self.view_is in
    let counted = c.self.invariant.counted in
    let replaced = length_replaced c.self.inside.trees.items c.slot-at.result c.take_out.new.tree c.index_mut.result.now place in
    let nodes = c.take_out.ensures.nodes in
    let long = ap length c.take_out.ensures.list in
    let before = c.len-before.ensures in
    let after = c.len-2.ensures in
    let capacity = c.take_out.ensures.capacity in
    let fewer = length-without c.args.key.0 c.index_mut.result.now.list in
    let one = length_one c.self.inside.trees.items c.slot-at.result c.index_mut.result.now place in
    omega arith

pub invariant_of-self : goal.invariant_of-self
invariant_of-self c =
    let many : vec_len c.self.inside.trees ≡ length c.self.inside.trees.items = search rules in
    let place : c.slot-at.result < length c.self.inside.trees.items = let low = c.slot-at.ensures.place in let all = c.len.ensures in omega arith in
    let same = ap (λ (t : Entries). length t.list) c.index_mut.ensures.value in
    let seen = ap (λ (h : Held). h.nodes) c.self.view_is in
    let counted = c.self.invariant.counted in
    let replaced = length_replaced c.self.inside.trees.items c.slot-at.result c.take_out.new.tree c.index_mut.result.now place in
    let nodes = c.take_out.ensures.nodes in
    let long = ap length c.take_out.ensures.list in
    let before = c.len-before.ensures in
    let after = c.len-2.ensures in
    let capacity = c.take_out.ensures.capacity in
    let fewer = length-without c.args.key.0 c.index_mut.result.now.list in
    let one = length_one c.self.inside.trees.items c.slot-at.result c.index_mut.result.now place in
    let list = c.take_out.ensures.list ∙ ap (λ (t : Entries). without_key c.args.key.0 t.list) c.index_mut.ensures.value in
    let all = length-set c.self.inside.trees.items c.slot-at.result c.take_out.new.tree in
    let some = c.self.invariant.some in
    let few = c.self.invariant.few in
    record {
      some = omega arith;
      few = omega arith;
      counted = omega arith;
      slotted = slotted_without c.self.inside.trees.items c.slot-at.result c.args.key.0 c.take_out.new.tree c.index_mut.result.now c.self.invariant.slotted place list;
    }

pub returns-clause-map : goal.returns-clause-map
returns-clause-map c =
    let many : vec_len c.self.inside.trees ≡ length c.self.inside.trees.items = search rules in
    let place : c.slot-at.result < length c.self.inside.trees.items = let low = c.slot-at.ensures.place in let all = c.len.ensures in omega arith in
    let same = ap (λ (t : Entries). length t.list) c.index_mut.ensures.value in
    let at = c.slot-at.ensures.slot ∙ ap (slot_of c.args.key.0) (c.len.ensures ∙ many) in
    let list = c.take_out.ensures.list ∙ ap (λ (t : Entries). without_key c.args.key.0 t.list) c.index_mut.ensures.value in
    map_cleared c.args.key.0 (entries_in c.self.inside.trees.items) _
    (find_without c.self.inside.trees.items c.slot-at.result c.args.key.0 c.take_out.new.tree c.index_mut.result.now c.self.invariant.some c.self.invariant.slotted (sym at) place (subst (λ (t : Entries). KeysRise t.list) c.index_mut.ensures.value c.take_out.ensures.rise) list)
    ∙ ap (λ (h : Held). fin.remove h.map c.args.key.0) c.self.view_is

pub returns-clause-nodes : goal.returns-clause-nodes
returns-clause-nodes c =
    let many : vec_len c.self.inside.trees ≡ length c.self.inside.trees.items = search rules in
    let place : c.slot-at.result < length c.self.inside.trees.items = let low = c.slot-at.ensures.place in let all = c.len.ensures in omega arith in
    let same = ap (λ (t : Entries). length t.list) c.index_mut.ensures.value in
    let seen = ap (λ (h : Held). h.nodes) c.self.view_is in
    let counted = c.self.invariant.counted in
    let replaced = length_replaced c.self.inside.trees.items c.slot-at.result c.take_out.new.tree c.index_mut.result.now place in
    let nodes = c.take_out.ensures.nodes in
    let long = ap length c.take_out.ensures.list in
    let before = c.len-before.ensures in
    let after = c.len-2.ensures in
    let capacity = c.take_out.ensures.capacity in
    let fewer = length-without c.args.key.0 c.index_mut.result.now.list in
    let one = length_one c.self.inside.trees.items c.slot-at.result c.index_mut.result.now place in
    omega arith
