use Rattle.std.proofs.Common.{◌≡◌, length, rules, sym, ap, ◌∙◌, vec_len}
use Rattle.std.specs.Ordering.{int_cmp}
use Rattle.std.specs.Cmp.{int_cmp_total}
use Rattle.std.specs.FinMap as fin
use Rattle.std.specs.FinMap.{find}
use Rattle.growing_segment.specs.Trees.{Entries}
use Rattle.growing_segment.specs.Slots.{slot_of}
use Rattle.growing_segment.specs.Buckets.{Held, entries_in}
use Rattle.growing_segment.proofs.SlotLaws.{find_own}
use Rattle.growing_segment.proofs.buckets.Buckets.find.Goals as goal

pub returns : goal.returns
returns c =
    let many : vec_len c.self.inside.trees ≡ length c.self.inside.trees.items = search rules in
    let at = c.slot-at.ensures.slot ∙ ap (slot_of c.args.key.0) (c.len.ensures ∙ many) in
    c.find.ensures
    ∙ ap (λ (t : Entries). find int_cmp c.args.key.0 t.list) (c.index-tree.ensures ∙ ap (λ i. Rattle.std.proofs.Common.get_or c.self.inside.trees.items i c.index-tree.result.now) at)
    ∙ sym (find_own c.args.key.0 c.self.inside.trees.items c.index-tree.result.now c.self.invariant.some c.self.invariant.slotted)
    ∙ sym (fin.get-from_entries int_cmp_total (entries_in c.self.inside.trees.items) c.args.key.0)
    ∙ ap (λ (h : Held). fin.get h.map c.args.key.0) c.self.view_is
