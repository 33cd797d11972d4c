use Rattle.query_node.proofs.fetching.fetch.Goals as goal
use Rattle.query_node.proofs.Getting.{fetches_unharmed}

pub returns-clause-unharmed : goal.returns-clause-unharmed
returns-clause-unharmed g c = fetches_unharmed _ _ _ c.fetch_objects.ensures.fetched
