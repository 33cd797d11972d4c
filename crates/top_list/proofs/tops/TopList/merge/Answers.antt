use Rattle.std.proofs.Common.{◌∙◌, sym, ap, ◌++◌, List}
use Rattle.std.proofs.lemmas.List.{take_all}
use Rattle.row_types.specs.declared.hits.Hit.{Hit}
use Rattle.row_types.specs.Hits.{least}
use Rattle.top_list.specs.Kept.{Kept, hits_of}
use Rattle.top_list.proofs.Fills.{Offered-next_list}
use Rattle.top_list.proofs.Laws.{each_key_from_least}
use Rattle.top_list.proofs.tops.TopList.merge.Goals as goal

pub lists-preserved : goal.lists-preserved
lists-preserved c =
    Offered-next_list _ _ _ _ _ _ c.lists.invariant c.lists-test.true (sym c.list-item.is) c.offer_all.ensures.k
    (c.offer_all.ensures.hits ∙ ap (λ (l : List Hit). least c.lists.gather.k (c.lists.gather.hits ++ l)) c.hits.ensures.hits)

pub returns-clause-each_key_once : goal.returns-clause-each_key_once
returns-clause-each_key_once c =
    each_key_from_least c.args.k (hits_of c.args.lists.now) c.settle.result.hits
    (ap (λ (t : Kept). t.hits) c.settle.ensures ∙ c.lists.invariant.hits
    ∙ ap (λ (l : List Kept). least c.args.k (hits_of l)) (take_all c.lists.list-index c.args.lists.now c.lists-test.false))
