use Rattle.std.proofs.Common.{[], ◌∷◌}
use Rattle.turn_lock.specs.Tickets.{inside}
use Rattle.turn_board.proofs.Writing.{left_written, left_refused}
use Rattle.turn_board.proofs.jobs.write.Goals as goal

pub returns-clause-written : goal.returns-clause-written
returns-clause-written g c =
    left_written c.put-done.result c.args.seat.now c.enter-turn.new.seat c.put-done.new.seat c.leave.new.seat c.args.slot c.enter-turn.result.slot c.put-done.new.turn.slot c.enter-turn.result.value.entries c.put-done.new.turn.value.entries (inside c.args.slot c.enter-turn.result.number ∷ [])
    c.put-done.ensures.written c.enter-turn.ensures.seat c.leave.ensures c.put-done.ensures.turn.1 c.enter-turn.ensures.turn.1 c.enter-turn.ensures.turn.0.slot c.enter-turn.ensures.more c.enter-turn.ensures.mine c.requires.seat.allowance c.requires.seat.turns

pub returns-clause-refused : goal.returns-clause-refused
returns-clause-refused g c =
    left_refused c.put-done.result c.args.seat.now c.enter-turn.new.seat c.put-done.new.seat c.leave.new.seat c.args.slot c.enter-turn.result.slot c.put-done.new.turn.slot c.enter-turn.result.value.entries c.put-done.new.turn.value.entries (inside c.args.slot c.enter-turn.result.number ∷ [])
    c.put-done.ensures.refused c.enter-turn.ensures.seat c.leave.ensures c.put-done.ensures.turn.1 c.enter-turn.ensures.turn.1 c.enter-turn.ensures.turn.0.slot c.enter-turn.ensures.more c.enter-turn.ensures.mine c.requires.seat.turns
