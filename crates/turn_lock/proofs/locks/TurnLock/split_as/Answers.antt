use Rattle.std.proofs.Common.{rules}
use Rattle.turn_lock.proofs.Comings.{forks}
use Rattle.turn_lock.proofs.locks.TurnLock.split_as.Goals as goal

pub split_seat-requires : goal.split_seat-requires
split_seat-requires g c = (search rules, search rules, forks _ _ c.args.pass.now.me.0 _ _ c.requires.rule)
