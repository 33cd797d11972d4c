use Rattle.manu_edge.proofs.keepers.MapKeeperKeeper.remove.Goals as goal
use Rattle.manu_edge.proofs.Kept.{kept_remove}

pub returns-clause-objects : goal.returns-clause-objects
returns-clause-objects c = kept_remove (λ b. b.items) _ _ _ c.remove.ensures.updates.0
