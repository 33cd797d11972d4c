use Rattle.shard_calls.proofs.Called.{drawn_here, spends_draw}
use Rattle.shard_calls.proofs.fronts.Front.draw.Goals as goal

pub returns-clause-drawn : goal.returns-clause-drawn
returns-clause-drawn c = drawn_here c.args.seat.now c.draw.new.seat c.draw.result c.draw.ensures.seat

pub returns-clause-spends : goal.returns-clause-spends
returns-clause-spends c = spends_draw c.args.seat.now c.draw.new.seat c.draw.result c.requires.allowance c.draw.ensures.seat
