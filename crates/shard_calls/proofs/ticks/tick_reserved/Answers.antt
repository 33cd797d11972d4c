use Rattle.std.proofs.Common.{sym, refl, ap, subst}
use Rattle.journal_model.specs.declared.notes.Kind.TheVariants.{Tick}
use Rattle.journal_model.specs.Journals.{AreBelow}
use Rattle.call_model.specs.Turns.{stamp}
use Rattle.shard_core.specs.Shards.{ChannelShard}
use Rattle.shard_calls.proofs.Called.{below_drawn, puts_one}
use Rattle.shard_calls.proofs.ticks.tick_reserved.Goals as goal

pub tick-requires-clause-below : goal.tick-requires-clause-below
tick-requires-clause-below c =
    subst (λ (s : ChannelShard). AreBelow c.draw.result s.state.notes) (sym c.value_mut.ensures.value)
    (below_drawn c.args.turns.now c.args.seat.now c.args.turn.now c.draw.result c.requires.inside c.draw.ensures.seen)

pub returns-clause-step : goal.returns-clause-step
returns-clause-step c =
    puts_one c.args.turns.now c.args.seat.now c.draw.new.seat c.args.turn.now c.value_mut.result.now c.tick.new.self c.draw.result c.number-by.result c.args.line (Tick (stamp c.draw.result)) c.requires.inside
    c.draw.ensures.seat c.draw.ensures.first c.draw.ensures.lifted c.draw.ensures.drawn c.draw.ensures.seen c.number-by.ensures refl (ap (λ (s : ChannelShard). s.state.notes) c.value_mut.ensures.value) c.tick.ensures.step
