use Rattle.std.specs.Arc.{arc_value}
use Rattle.shard_calls.proofs.Called.{new_front}
use Rattle.shard_calls.proofs.fronts.Front.new.Goals as goal

pub invariant_of-front : goal.invariant_of-front
invariant_of-front c =
    new_front c.args.shards.items c.in_ok-turns.turns (arc_value c.in-Ok.collection) c.floor-floor.result.0 c.args.first c.index-lead.result.now c.requires.shards c.index-lead.ensures c.in-Ok.ensures c.floor-floor.ensures.floor c.in_ok-turns.ensures.table.0 c.requires.first.0 c.in_ok-turns.ensures.table.1

pub returns-clause-front : goal.returns-clause-front
returns-clause-front c =
    new_front c.args.shards.items c.in_ok-turns.turns (arc_value c.in-Ok.collection) c.floor-floor.result.0 c.args.first c.index-lead.result.now c.requires.shards c.index-lead.ensures c.in-Ok.ensures c.floor-floor.ensures.floor c.in_ok-turns.ensures.table.0 c.requires.first.0 c.in_ok-turns.ensures.table.1
