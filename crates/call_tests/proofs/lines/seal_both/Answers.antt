use Rattle.std.proofs.Common.{◌+◌, ◌*◌, ◌≤◌, arith}
use Rattle.call_tests.proofs.Seats.{ready_for, still_ready, spends_none, spends_both, spends_within}
use Rattle.call_tests.proofs.lines.seal_both.Goals as goal

pub seal-requires-clause-seat : goal.seal-requires-clause-seat
seal-requires-clause-seat g c = ready_for c.args.front.now.table 4 2 c.args.seat.now c.requires.seat (omega arith)

pub seal-requires-2-clause-seat : goal.seal-requires-2-clause-seat
seal-requires-2-clause-seat g c = still_ready c.args.front.now.table 4 1 2 c.args.seat.now c.seal.new.seat c.requires.seat c.seal.ensures.spends (omega arith)

pub returns-in_err-one : goal.returns-in_err-one
returns-in_err-one g c = spends_within 1 4 c.args.seat.now c.seal.new.seat c.seal.ensures.spends (omega arith)

pub returns-in_err-other : goal.returns-in_err-other
returns-in_err-other g c = spends_both 1 1 4 c.args.seat.now c.seal.new.seat c.seal-2.new.seat c.seal.ensures.spends c.seal-2.ensures.spends (omega arith)

pub returns-in_err-seals : goal.returns-in_err-seals
returns-in_err-seals g c = spends_both 1 1 4 c.args.seat.now c.seal.new.seat c.seal-2.new.seat c.seal.ensures.spends c.seal-2.ensures.spends (omega arith)

pub returns : goal.returns
returns g c = spends_both 1 1 4 c.args.seat.now c.seal.new.seat c.seal-2.new.seat c.seal.ensures.spends c.seal-2.ensures.spends (omega arith)
