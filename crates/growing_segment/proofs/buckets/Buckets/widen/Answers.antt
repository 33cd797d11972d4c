use Rattle.std.proofs.Common.{◌≡◌, sym, ap, ◌∙◌}
use Rattle.std.specs.Ordering.{int_cmp}
use Rattle.std.specs.Cmp.{int_cmp_total}
use Rattle.std.specs.FinMap as fin
use Rattle.std.specs.FinMap.{find}
use Rattle.growing_segment.specs.Buckets.{Held, entries_in, or_else}
use Rattle.growing_segment.proofs.KeyMaps.{map_same}
use Rattle.growing_segment.proofs.SlotLaws.{or_none}
use Rattle.growing_segment.proofs.buckets.Buckets.widen.Goals as goal

pub returns-clause-map : goal.returns-clause-map
returns-clause-map c = map_same _ _ (λ q.
    let none = ap (λ (h : Held). fin.get h.map q) c.replace-narrow.ensures.after ∙ ap (λ (m : fin.FinMap int_cmp Rattle.std.proofs.Common.ℕ). fin.get m q) c.in_ok-wide.ensures.map ∙ fin.get-empty int_cmp q in
    c.move_all.ensures.found q
    ∙ ap (or_else (find int_cmp q (entries_in c.narrow.inside.trees.items))) none
    ∙ or_none (find int_cmp q (entries_in c.narrow.inside.trees.items))
    ∙ sym (fin.get-from_entries int_cmp_total (entries_in c.narrow.inside.trees.items) q)
    ∙ ap (λ (h : Held). fin.get h.map q) (c.narrow.view_is ∙ c.replace-narrow.ensures.value))
