use Rattle.std.proofs.Common.{rules}
use Rattle.proxy_search.proofs.Answering.{hits_are}
use Rattle.proxy_search.proofs.searches.scan.Goals as goal

pub returns : goal.returns
returns g c = hits_are c.args.front.now.collection _ c.args.query.now c.args.ts.0 c.args.views.now _ _ (search rules) (search rules) c.in_ok-list.ensures.whole
