use Rattle.std.proofs.Common.{rules, refl}
use Rattle.turn_lock.proofs.Steps.{queues}
use Rattle.turn_lock.proofs.locks.TurnLock.take_ticket.Goals as goal

pub compare_exchange-was-requires : goal.compare_exchange-was-requires
compare_exchange-was-requires g c = (search rules, search rules, queues _ _ _ _ _ _ _ (search rules) refl)
