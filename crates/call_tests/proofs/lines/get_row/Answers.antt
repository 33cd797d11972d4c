use Rattle.std.proofs.Common.{◌+◌, ◌*◌, ◌≤◌, arith}
use Rattle.call_tests.proofs.Seats.{ready_for, still_ready, spends_none, spends_both, spends_within}
use Rattle.call_tests.proofs.lines.get_row.Goals as goal

pub get-requires-clause-seat : goal.get-requires-clause-seat
get-requires-clause-seat g c = ready_for c.args.front.now.table 4 3 c.args.seat.now c.requires.seat (omega arith)

pub returns : goal.returns
returns g c = spends_within 2 4 c.args.seat.now c.get.new.seat c.get.ensures.spends (omega arith)
