use Rattle.std.proofs.Common.{rules}
use Rattle.turn_lock.proofs.Steps.{looks_again}
use Rattle.turn_lock.proofs.locks.TurnLock.wait_as.Goals as goal

pub load-found-requires : goal.load-found-requires
load-found-requires g c = (
  search rules,
  search rules,
  looks_again _ g.M.Takes.took _ _ c.args.pass.now.id _ c.args.pass.now.me c.args.slot c.args.number _ _ c.loop.invariant.1 c.loop.invariant.2 c.requires.ticket (search rules) c.requires.rule,
)
