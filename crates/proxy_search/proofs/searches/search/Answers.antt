use Rattle.std.proofs.Common.{ℕ, ◌+◌, ◌≤◌, length, ap, sym, subst, arith}
use Rattle.shard_core.specs.Shards.{ChannelBase}
use Rattle.turn_table.specs.Seats.{Table}
use Rattle.proxy_search.proofs.Stepping.{guarantee_below, mine_below, spends_more}
use Rattle.proxy_search.proofs.Answering.{round_dims, searched}
use Rattle.proxy_search.proofs.searches.search.Goals as goal

pub look_at_all-round-requires-clause-guarantee : goal.look_at_all-round-requires-clause-guarantee
look_at_all-round-requires-clause-guarantee g c = λ waits.
    let before = mine_below c.args.seat.now c.draw-now.new.seat c.args.front.now.table.first c.draw-now.result.0 c.args.mine.0 c.draw-now.ensures.did (ap (λ (t : Table ChannelBase). t.first) c.requires.seat.same) c.requires.mine in
    (c.draw-now.result.0, c.draw-now.ensures.drawn, subst (λ (n : ℕ). n ≤ c.draw-now.result.0) (sym c.guarantee-guarantee.ensures) (guarantee_below c.args.level c.draw-now.result.0 c.args.mine.0 before))

pub answer_round-requires-clause-dims : goal.answer_round-requires-clause-dims
answer_round-requires-clause-dims g c =
    round_dims c.args.front.now c.args.call.now.line c.args.mine.0 c.args.level c.args.wait c.draw-now.result c.guarantee-guarantee.result c.args.seat.now c.draw-now.new.seat c.look_at_all-round.new.seat c.guarantee-guarantee.ensures c.draw-now.ensures.did c.draw-now.ensures.spends.number
    (length c.args.query.now.vector) c.look_at_all-round.ensures.did.0 c.look_at_all-round.result c.requires.query.vector c.look_at_all-round.ensures.did.2

pub returns-clause-did : goal.returns-clause-did
returns-clause-did g c =
    searched c.args.front.now c.args.call.now.line c.args.mine.0 c.args.level c.args.wait c.draw-now.result c.guarantee-guarantee.result c.args.seat.now c.draw-now.new.seat c.look_at_all-round.new.seat c.guarantee-guarantee.ensures c.draw-now.ensures.did c.draw-now.ensures.spends.number
    c.args.query.now c.look_at_all-round.result c.answer_round.result c.look_at_all-round.ensures.did c.answer_round.ensures

pub returns-clause-spends : goal.returns-clause-spends
returns-clause-spends g c =
    let fits : 1 + c.args.front.now.collection.channels ≤ c.args.front.now.collection.channels + 1 = omega arith in
    spends_more 1 c.args.front.now.collection.channels (c.args.front.now.collection.channels + 1) c.args.seat.now c.draw-now.new.seat c.look_at_all-round.new.seat c.draw-now.ensures.spends c.look_at_all-round.ensures.spends fits
