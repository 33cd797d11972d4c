use Rattle.std.proofs.Common.{◌+◌, ◌*◌, ◌≤◌, arith}
use Rattle.call_tests.proofs.Seats.{ready_for, still_ready, spends_none, spends_both, spends_within}
use Rattle.call_tests.proofs.lines.tick_both.Goals as goal

pub tick-requires-clause-seat : goal.tick-requires-clause-seat
tick-requires-clause-seat g c = ready_for c.args.front.now.table 4 2 c.args.seat.now c.requires.seat (omega arith)

pub tick-requires-2-clause-seat : goal.tick-requires-2-clause-seat
tick-requires-2-clause-seat g c = still_ready c.args.front.now.table 4 1 2 c.args.seat.now c.tick.new.seat c.requires.seat c.tick.ensures.spends (omega arith)

pub returns-in_err-one : goal.returns-in_err-one
returns-in_err-one g c = spends_within 1 4 c.args.seat.now c.tick.new.seat c.tick.ensures.spends (omega arith)

pub returns-in_err-other : goal.returns-in_err-other
returns-in_err-other g c = spends_both 1 1 4 c.args.seat.now c.tick.new.seat c.tick-2.new.seat c.tick.ensures.spends c.tick-2.ensures.spends (omega arith)

pub returns-in_err-ticks : goal.returns-in_err-ticks
returns-in_err-ticks g c = spends_both 1 1 4 c.args.seat.now c.tick.new.seat c.tick-2.new.seat c.tick.ensures.spends c.tick-2.ensures.spends (omega arith)

pub returns : goal.returns
returns g c = spends_both 1 1 4 c.args.seat.now c.tick.new.seat c.tick-2.new.seat c.tick.ensures.spends c.tick-2.ensures.spends (omega arith)
