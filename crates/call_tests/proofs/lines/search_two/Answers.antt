use Rattle.std.proofs.Common.{◌+◌, ◌*◌, ◌≤◌, arith}
use Rattle.call_tests.proofs.Seats.{ready_for, still_ready, spends_none, spends_both, spends_within}
use Rattle.call_tests.proofs.lines.search_two.Goals as goal

pub search-requires-clause-seat : goal.search-requires-clause-seat
search-requires-clause-seat g c = ready_for c.args.front.now.table 4 (c.args.front.now.collection.channels + 2) c.args.seat.now c.requires.seat (omega (arith, c.requires.channels))

pub returns-in_err-query : goal.returns-in_err-query
returns-in_err-query g c = spends_within 0 4 c.args.seat.now c.args.seat.now (spends_none c.args.seat.now) (omega arith)

pub returns : goal.returns
returns g c = spends_within (c.args.front.now.collection.channels + 1) 4 c.args.seat.now c.search.new.seat c.search.ensures.spends (omega (arith, c.requires.channels))
