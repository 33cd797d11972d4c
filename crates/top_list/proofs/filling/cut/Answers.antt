use Rattle.std.proofs.Common.{take, ap, ◌∙◌}
use Rattle.std.proofs.lemmas.List.Filters.{dedup_is}
use Rattle.row_types.proofs.Least.{least-from_dedup}
use Rattle.top_list.proofs.Laws.{own_from_least}
use Rattle.top_list.proofs.filling.cut.Goals as goal

pub returns-clause-items : goal.returns-clause-items
returns-clause-items c =
    c.truncate.ensures.items ∙ ap (take c.args.k) (dedup_is _ _ _ c.dedup.ensures.filtered)
    ∙ least-from_dedup _ _ _ c.sort_hits.ensures.permutation c.sort_hits.ensures.sorted

pub last_of-requires-clause-own : goal.last_of-requires-clause-own
last_of-requires-clause-own c =
    own_from_least _ c.args.hits.now.items _ _ c.deref.ensures.value
    (c.truncate.ensures.items ∙ ap (take c.args.k) (dedup_is _ _ _ c.dedup.ensures.filtered)
    ∙ least-from_dedup _ _ _ c.sort_hits.ensures.permutation c.sort_hits.ensures.sorted)
