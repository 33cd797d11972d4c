use Rattle.phase_run.proofs.Meeting.{floor_least, floor_most, is_met}
use Rattle.phase_model.specs.Meets.{meet_tick}
use Rattle.phase_run.proofs.meets.come_to_rest.Goals as goal

pub set_floor-requires-clause-least : goal.set_floor-requires-clause-least
set_floor-requires-clause-least c = floor_least c.args.ts.0 c.args.shard.now c.reserve.new.self c.tick.new.self (meet_tick 0 c.args.ts.0) c.floor.ensures.sound c.requires.below c.reserve.ensures.state c.tick.ensures.step

pub set_floor-requires-clause-most : goal.set_floor-requires-clause-most
set_floor-requires-clause-most c = floor_most c.args.ts.0 c.reserve.new.self c.tick.new.self c.tick.ensures.step

pub returns-clause-met : goal.returns-clause-met
returns-clause-met c = is_met c.args.ts.0 c.args.shard.now c.reserve.new.self c.tick.new.self c.set_floor.new.self c.reserve.ensures.state c.reserve.ensures.collection c.reserve.ensures.channel c.tick.ensures.step
    c.set_floor.ensures.state c.set_floor.ensures.collection c.set_floor.ensures.channel c.tell_kept.ensures.sound c.tell_kept.ensures.keys
