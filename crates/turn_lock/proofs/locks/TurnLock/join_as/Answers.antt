use Rattle.std.proofs.Common.{rules}
use Rattle.turn_lock.proofs.Comings.{merges}
use Rattle.turn_lock.proofs.locks.TurnLock.join_as.Goals as goal

pub join_seat-requires : goal.join_seat-requires
join_seat-requires g c = (search rules, search rules, search rules, search rules, merges _ _ c.args.pass.now.me.0 _ c.args.other.me.0 _ _ (search rules) c.requires.rule)
