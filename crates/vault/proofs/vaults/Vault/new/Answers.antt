use Rattle.std.proofs.Common.{◌≡◌}
use Rattle.std.specs.Prelude.{is_some}
use Rattle.vault.proofs.Keeping.{new_keeps}
use Rattle.vault.proofs.vaults.Vault.new.Goals as goal

pub invariant_of-result : goal.invariant_of-result
invariant_of-result g c =
    let start : g.K.Keeper.faults c.of-start.result.value ≡ g.K.Keeper.faults c.args.keeper = cc in
    let told : is_some (g.K.Keeper.kept c.of-start.result.value) ≡ is_some (g.K.Keeper.kept c.args.keeper) = cc in
    new_keeps c.new.result.items _ _ _ _ _ c.new.ensures.items start told
