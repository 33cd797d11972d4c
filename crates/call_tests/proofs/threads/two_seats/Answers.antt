use Rattle.std.proofs.Common.{◌+◌, ◌≤◌, arith}
use Rattle.call_tests.proofs.Seats.{split_first, split_other}
use Rattle.call_tests.proofs.threads.two_seats.Goals as goal

pub returns-clause-one : goal.returns-clause-one
returns-clause-one c = split_first c.args.front.now.table 5000 1000 1000 c.args.seat c.split-other.new.seat c.requires c.split-other.ensures.seat (omega arith)

pub returns-clause-other : goal.returns-clause-other
returns-clause-other c = split_other c.args.front.now.table 1000 c.split-other.result.number c.args.seat c.split-other.result c.requires.same c.split-other.ensures.other
