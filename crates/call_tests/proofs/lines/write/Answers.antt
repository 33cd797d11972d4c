use Rattle.std.proofs.Common.{◌+◌, ◌*◌, ◌≤◌, arith}
use Rattle.call_tests.proofs.Seats.{ready_for, still_ready, spends_none, spends_both, spends_within}
use Rattle.call_tests.proofs.lines.write.Goals as goal

pub write-requires-clause-seat : goal.write-requires-clause-seat
write-requires-clause-seat g c = ready_for c.args.front.now.table 4 2 c.args.seat.now c.requires.seat (omega arith)

pub returns-in_err-reply : goal.returns-in_err-reply
returns-in_err-reply g c = spends_within 1 4 c.args.seat.now c.write.new.seat c.write.ensures.spends (omega arith)

pub returns : goal.returns
returns g c = spends_within 1 4 c.args.seat.now c.write.new.seat c.write.ensures.spends (omega arith)
