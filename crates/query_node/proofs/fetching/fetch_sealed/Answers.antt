use Rattle.std.proofs.lemmas.Result.{err_from_is_err_and}
use Rattle.query_node.proofs.fetching.fetch_sealed.Goals as goal
use Rattle.query_node.proofs.Getting.{no_memory}

pub returns-in_err-object-clause-fetched : goal.returns-in_err-object-clause-fetched
returns-in_err-object-clause-fetched g c = let p = err_from_is_err_and c.from_residual.result c.from_residual.ensures.1 in rw (p.1, p.2) (no_memory _ _)
