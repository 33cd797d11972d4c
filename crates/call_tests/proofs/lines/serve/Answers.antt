use Rattle.std.proofs.Common.{◌+◌, ◌*◌, ◌≤◌, arith}
use Rattle.call_tests.proofs.Seats.{ready_for, still_ready, spends_none, spends_both, spends_within}
use Rattle.call_tests.proofs.lines.serve.Goals as goal

pub take-requires-clause-seat : goal.take-requires-clause-seat
take-requires-clause-seat g c = still_ready c.args.front.now.table 4 0 4 c.args.seat.now c.start.new.seat c.requires.seat c.start.ensures.spends (omega arith)

pub returns-in_err-answer : goal.returns-in_err-answer
returns-in_err-answer g c = spends_both 0 4 4 c.args.seat.now c.start.new.seat c.take.new.seat c.start.ensures.spends c.take.ensures (omega arith)

pub returns : goal.returns
returns g c = spends_both 0 4 4 c.args.seat.now c.start.new.seat c.take.new.seat c.start.ensures.spends c.take.ensures (omega arith)
