use Rattle.std.proofs.Common.{rules}
use Rattle.std.specs.List.Sorted.{IsNonDecreasingBy}
use Rattle.std.proofs.lemmas.List.Sorted.{IsNonDecreasingBy-from_sort_by_key}
use Rattle.seg_merge.specs.declared.kept.Kept.{Kept}
use Rattle.seg_merge.proofs.KeptLaws.{sorted_are}
use Rattle.seg_merge.proofs.leaving.kept_in.Goals as goal

pub returns-clause-rows : goal.returns-clause-rows
returns-clause-rows c =
    let up : IsNonDecreasingBy (λ (k : Kept). k.position) c.sort_by_key.new.self.items = IsNonDecreasingBy-from_sort_by_key (λ (k : Kept). k.position) _ c.in_ok-sort_by_key.ensures.sorted (λ a r q k. search rules) in
    (sorted_are c.args.parts.now c.args.floor.0 c.in_ok-kept.kept.items c.sort_by_key.new.self.items c.requires c.in_ok-kept.ensures.rows c.sort_by_key.ensures.permutation up).0

pub returns-clause-valid : goal.returns-clause-valid
returns-clause-valid c =
    let up : IsNonDecreasingBy (λ (k : Kept). k.position) c.sort_by_key.new.self.items = IsNonDecreasingBy-from_sort_by_key (λ (k : Kept). k.position) _ c.in_ok-sort_by_key.ensures.sorted (λ a r q k. search rules) in
    (sorted_are c.args.parts.now c.args.floor.0 c.in_ok-kept.kept.items c.sort_by_key.new.self.items c.requires c.in_ok-kept.ensures.rows c.sort_by_key.ensures.permutation up).1
