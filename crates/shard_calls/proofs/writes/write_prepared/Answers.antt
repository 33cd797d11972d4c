use Rattle.std.proofs.Common.{[], refl, sym, subst}
use Rattle.std.specs.Prelude.{IsOkAnd}
use Rattle.std.specs.declared.result.Result.{Result}
use Rattle.row_types.specs.declared.allocation.Memory.{Memory}
use Rattle.answer_lines.specs.declared.answers.WriteReply.{WriteReply}
use Rattle.seat_walks.proofs.Turning.{puts_none}
use Rattle.call_model.specs.Turns.{by_of, time_of, Writes}
use Rattle.shard_calls.specs.declared.writes.Change.{Change}
use Rattle.shard_calls.specs.Calls.{IsIdle}
use Rattle.shard_calls.specs.Under.{written}
use Rattle.shard_calls.proofs.Called.{match_err, match_weaker}
use Rattle.shard_calls.proofs.writes.write_prepared.Goals as goal

pub returns-in_err-change-clause-step : goal.returns-in_err-change-clause-step
returns-in_err-change-clause-step c =
    ([], [], puts_none by_of time_of c.args.seat.now c.args.turn.now.value.state.notes c.args.turn.now.value.state.notes refl, match_err c.from_residual.result (λ (reply : WriteReply). IsOkAnd c.args.change (λ (d : Change). Writes c.args.seat.now.number c.args.line (written d) reply c.args.turn.now.value.state.notes [] [])) (λ _. IsIdle [] []) c.from_residual.ensures.0 (λ _. record { none = refl; undrawn = refl }))

pub returns-clause-step : goal.returns-clause-step
returns-clause-step c =
    let st = c.write_under.ensures.step in (
      st.0,
      st.1,
      st.2,
      match_weaker c.write_under.result (λ (reply : WriteReply). Writes c.args.seat.now.number c.args.line (written c.in_ok-change.change) reply c.args.turn.now.value.state.notes st.0 st.1)
          (λ (reply : WriteReply). IsOkAnd c.args.change (λ (d : Change). Writes c.args.seat.now.number c.args.line (written d) reply c.args.turn.now.value.state.notes st.0 st.1)) (λ _. IsIdle st.0 st.1) (λ _. IsIdle st.0 st.1)
          (λ reply w. subst (λ (r : Result Change Memory). IsOkAnd r (λ (d : Change). Writes c.args.seat.now.number c.args.line (written d) reply c.args.turn.now.value.state.notes st.0 st.1)) (sym c.in_ok-change.was) w) (λ _ i. i) st.3,
    )
