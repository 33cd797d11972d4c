use Rattle.std.proofs.Common.{◌+◌, ◌*◌, ◌≤◌, arith}
use Rattle.call_tests.proofs.Seats.{still_ready, spends_none, spends_both, spends_within}
use Rattle.call_tests.proofs.lines.serve_all.Goals as goal

pub steps-init : goal.steps-init
steps-init g c = spends_none c.args.seat.now
