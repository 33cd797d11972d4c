use Rattle.std.proofs.Common.{[], refl}
use Rattle.hybrid_time.specs.declared.times.Timestamp.{Timestamp}
use Rattle.seat_walks.proofs.Turning.{puts_none}
use Rattle.call_model.specs.Turns.{by_of, time_of, Ticks}
use Rattle.shard_calls.specs.Calls.{IsIdle}
use Rattle.shard_calls.proofs.Called.{match_err}
use Rattle.shard_calls.proofs.ticks.tick_under.Goals as goal

pub returns-in_err-reserve-clause-step : goal.returns-in_err-reserve-clause-step
returns-in_err-reserve-clause-step c =
    ([], [], puts_none by_of time_of c.args.seat.now c.args.turn.now.value.state.notes c.reserve.new.self.state.notes (cc), match_err c.from_residual.result (λ (ts : Timestamp). Ticks c.args.seat.now.number c.args.line ts.0 [] []) (λ _. IsIdle [] []) c.from_residual.ensures.0 (λ _. record { none = refl; undrawn = refl }))
