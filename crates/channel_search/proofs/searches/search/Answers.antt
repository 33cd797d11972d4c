use Rattle.std.proofs.Common.{◌≡◌, ap, rules, ◌∙◌}
use Rattle.row_types.specs.Hits.{least}
use Rattle.top_list.specs.Kept.{Kept}
use Rattle.view_laws.specs.Found.{hits_seen}
use Rattle.channel_search.specs.Found.{found_in_all, rows_in_all}
use Rattle.channel_search.proofs.Joining.{least_in_all, whole_in_all}
use Rattle.channel_search.proofs.searches.search.Goals as goal

pub returns-clause-found : goal.returns-clause-found
returns-clause-found g c =
    let query = c.args.query.now in
    let kept : c.settle.result ≡ record { k = query.k; hits = least query.k (hits_seen c.args.ts.0 c.args.plan.now query (rows_in_all c.args.views.now)) } = search rules in
    kept ∙ ap (λ hits. record { k = query.k; hits = hits }) (least_in_all c.args.ts.0 c.args.plan.now query c.args.views.now)

pub returns-clause-whole : goal.returns-clause-whole
returns-clause-whole g c = λ home looks same serve of_these.
    ap (λ (k : Kept). k.hits) (returns-clause-found g c) ∙ whole_in_all c.args.ts.0 c.args.plan.now c.args.query.now c.args.views.now home looks same serve of_these
