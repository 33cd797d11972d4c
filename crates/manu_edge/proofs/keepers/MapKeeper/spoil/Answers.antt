use Rattle.std.proofs.Common.{sym, ap, ◌∙◌, option_map}
use Rattle.manu_edge.specs.Objects.{objects_of, spoiled}
use Rattle.manu_edge.proofs.keepers.MapKeeper.spoil.Goals as goal
use Rattle.manu_edge.proofs.Kept.{kept_insert, kept_remove}

pub returns-in-None-clause-ok : goal.returns-in-None-clause-ok
returns-in-None-clause-ok c =
    kept_remove (λ b. b.items) _ _ _ c.remove.ensures.updates.0
    ∙ ap (λ bytes. spoiled c.args.name (option_map (λ b. b.items) bytes) (objects_of (λ b. b.items) c.args.self.now.objects.entries)) (sym c.in-None.is)

pub returns-in-Ok-clause-ok : goal.returns-in-Ok-clause-ok
returns-in-Ok-clause-ok c =
    kept_insert (λ b. b.items) _ _ _ c.in-Some.bytes c.in-Ok.ensures.updates.0
    ∙ ap (λ bytes. spoiled c.args.name (option_map (λ b. b.items) bytes) (objects_of (λ b. b.items) c.args.self.now.objects.entries)) (sym c.in-Some.is)
