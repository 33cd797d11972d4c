use Rattle.std.proofs.Common.{◌+◌, ◌*◌, ◌≤◌, arith}
use Rattle.call_tests.proofs.Seats.{ready_for, still_ready, spends_none, spends_both, spends_within}
use Rattle.call_tests.proofs.looks.insert.Goals as goal

pub returns-in_err-row : goal.returns-in_err-row
returns-in_err-row g c = spends_within 0 1 c.args.seat.now c.args.seat.now (spends_none c.args.seat.now) (omega arith)
