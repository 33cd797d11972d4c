use Rattle.std.proofs.Common.{rules, sym, ap, ◌∙◌, ◌∷◌, Some}
use Rattle.atomic_table.specs.Table.{rest}
use Rattle.turn_lock.proofs.locks.TurnLock.enter_as.Goals as goal

pub exchange-requires : goal.exchange-requires
exchange-requires g c = let s = c.wait_as.ensures.served in (search rules, (Some s.0, s.2 ∙ (λ i. (c.args.slot, Some s.0) ∷ sym (ap rest s.2) i)))
