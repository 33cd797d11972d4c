use Rattle.std.proofs.Common.{ap, ◌∙◌}
use Rattle.std.specs.FinMap as fin
use Rattle.manu_edge.specs.Objects.{objects_of}
use Rattle.manu_edge.proofs.keepers.MapKeeperKeeper.put.Goals as goal
use Rattle.manu_edge.proofs.Kept.{kept_insert}

pub returns-in-Ok-insert-clause-objects : goal.returns-in-Ok-insert-clause-objects
returns-in-Ok-insert-clause-objects c =
    kept_insert (λ b. b.items) _ _ _ c.in-Ok.copy c.in-Ok-insert.ensures.updates.0
    ∙ ap (fin.insert (objects_of (λ b. b.items) c.args.self.now.objects.entries) c.args.name) c.in-Ok.ensures.items
