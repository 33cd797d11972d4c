use Rattle.std.proofs.Common.{sym, ap, ◌∙◌, option_map, Some}
use Rattle.manu_edge.proofs.keepers.MapKeeperKeeper.get.Goals as goal
use Rattle.manu_edge.proofs.Kept.{get_kept}

pub returns-in_default-clause-found : goal.returns-in_default-clause-found
returns-in_default-clause-found c = ap (option_map (λ b. b.items)) c.in_default.ensures.value ∙ sym (get_kept (λ b. b.items) _ c.args.name)

pub returns-in-Ok-clause-found : goal.returns-in-Ok-clause-found
returns-in-Ok-clause-found c =
    ap Some (c.in-Ok.ensures.items ∙ c.as_slice.ensures.value)
    ∙ ap (option_map (λ b. b.items)) c.in-Some.ensures.value
    ∙ sym (get_kept (λ b. b.items) _ c.args.name)
