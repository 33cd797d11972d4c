use Rattle.std.proofs.Common.{◌+◌, ◌*◌, ◌≤◌, arith}
use Rattle.call_tests.proofs.Seats.{ready_for, still_ready, spends_none, spends_both, spends_within}
use Rattle.call_tests.proofs.looks.view_now.Goals as goal

pub look-requires-clause-seat : goal.look-requires-clause-seat
look-requires-clause-seat g c = still_ready c.args.front.now.table 3 1 2 c.args.seat.now c.draw-now.new.seat c.requires.seat c.draw-now.ensures.spends (omega arith)
