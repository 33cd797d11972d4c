use Rattle.std.proofs.Common.{◌≡◌, ap, rules, ◌∙◌}
use Rattle.top_list.specs.Kept.{Kept}
use Rattle.view_laws.specs.Found.{found_in}
use Rattle.view_laws.proofs.Shows.{exact_scan}
use Rattle.channel_view.specs.Views.{view_in}
use Rattle.view_scan.specs.Searches.{plan_of}
use Rattle.view_scan.proofs.searches.run.Goals as goal

pub returns-clause-scan : goal.returns-clause-scan
returns-clause-scan g c = λ notes more exact journal.
    let view = view_in c.args.view.now in
    let plan = plan_of c.args.view.now.collection in
    let found : c.settle.result ≡ record { k = c.args.query.now.k; hits = found_in view c.args.ts.0 plan c.args.query.now } = search rules in
    ap (λ (k : Kept). k.hits) found ∙ exact_scan notes more view c.args.ts.0 plan c.args.query.now exact journal c.requires.from_floor c.requires.to_tick
