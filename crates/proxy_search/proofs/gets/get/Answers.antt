use Rattle.std.proofs.Common.{ℕ, ◌+◌, ◌≤◌, ap, sym, subst, arith}
use Rattle.shard_core.specs.Shards.{ChannelBase}
use Rattle.turn_table.specs.Seats.{Table}
use Rattle.proxy_search.proofs.Stepping.{guarantee_below, mine_below, spends_more}
use Rattle.proxy_search.proofs.Answering.{got, served_here}
use Rattle.proxy_search.proofs.gets.get.Goals as goal

pub look-looked-requires-clause-guarantee : goal.look-looked-requires-clause-guarantee
look-looked-requires-clause-guarantee g c = λ waits.
    let before = mine_below c.args.seat.now c.draw-now.new.seat c.args.front.now.table.first c.draw-now.result.0 c.args.mine.0 c.draw-now.ensures.did (ap (λ (t : Table ChannelBase). t.first) c.requires.seat.same) c.requires.mine in
    (c.draw-now.result.0, c.draw-now.ensures.drawn, subst (λ (n : ℕ). n ≤ c.draw-now.result.0) (sym c.guarantee-guarantee.ensures) (guarantee_below c.args.level c.draw-now.result.0 c.args.mine.0 before))

pub answer_look-requires : goal.answer_look-requires
answer_look-requires g c = served_here c.args.front.now c.args.call.now.line c.guarantee-guarantee.result.0 c.args.wait c.draw-now.new.seat c.look-looked.new.seat c.channel_of-channel.result c.look-looked.result c.look-looked.ensures.did

pub returns-clause-did : goal.returns-clause-did
returns-clause-did g c =
    got c.args.front.now c.args.call.now.line c.args.mine.0 c.args.level c.args.wait c.draw-now.result c.guarantee-guarantee.result c.args.seat.now c.draw-now.new.seat c.look-looked.new.seat c.guarantee-guarantee.ensures c.draw-now.ensures.did c.draw-now.ensures.spends.number
    c.args.key c.channel_of-channel.result c.channel_of-channel.ensures.channel c.look-looked.result c.answer_look.result c.look-looked.ensures.did c.answer_look.ensures

pub returns-clause-spends : goal.returns-clause-spends
returns-clause-spends g c =
    let fits : 1 + 1 ≤ 2 = omega arith in
    spends_more 1 1 2 c.args.seat.now c.draw-now.new.seat c.look-looked.new.seat c.draw-now.ensures.spends c.look-looked.ensures.spends fits
