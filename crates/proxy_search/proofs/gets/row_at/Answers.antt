use Rattle.std.proofs.Common.{◌∙◌, sym}
use Rattle.proxy_search.proofs.Naming.{fits_seen, row_found}
use Rattle.proxy_search.proofs.gets.row_at.Goals as goal

pub name_found-requires : goal.name_found-requires
name_found-requires c = fits_seen c.args.view.now c.collection.result.now c.args.ts.0 c.args.key.0 c.in_ok-found.found c.floor-floor.ensures.kept (c.requires.same ∙ sym c.collection.ensures.collection) c.in_ok-found.ensures.seen

pub returns-clause-found : goal.returns-clause-found
returns-clause-found c = row_found c.args.key c.args.ts.0 c.args.view.now c.in_ok-found.found c.name_found.result c.name_found.ensures.same c.in_ok-found.ensures.live
