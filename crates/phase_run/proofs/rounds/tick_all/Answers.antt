use Rattle.std.proofs.Common.{◌≡◌, ℕ, ◌+◌, ◌≤◌, List, [], ◌∷◌, ◌++◌, length, sym, subst, arith}
use Rattle.hybrid_time.specs.declared.times.Timestamp.{Timestamp}
use Rattle.call_model.specs.Calls.{AreTicks}
use Rattle.call_model.proofs.Rounds.{did_more}
use Rattle.phase_run.proofs.Serving.{if_err, may_tick, may_have_ticked, each_may, ticked_next, spends_more}
use Rattle.phase_run.proofs.rounds.tick_all.Goals as goal

pub channels-preserved : goal.channels-preserved
channels-preserved g c =
    let d = c.channels.invariant.did in
    let l = c.in_ok-ts.ensures.did in
    let n = ticked_next c.args.call.now.line c.args.seat.now c.channels.seat c.tick.new.seat c.channels.channel c.channels.invariant.spends.number d.0 c.channels.stamps.items l.0 c.in_ok-ts.ts d.3 d.4 l.2 l.3 in
    let may = may_tick c.args.call.now.line c.args.seat.now c.channels.seat c.tick.new.seat c.channels.channel c.channels.invariant.spends.number l.0 c.in_ok-ts.ts.0 l.3 in
    record {
      did = (
        d.0 ++ l.0 ∷ [],
        did_more c.args.seat.now c.channels.seat c.tick.new.seat d.0 l.0 d.1 l.1,
        each_may c.args.call.now.line c.args.seat.now c.channels.seat c.tick.new.seat c.channels.channel c.channels.invariant.spends.number d.0 l.0 d.2 may,
        subst (λ (items : List Timestamp). AreTicks c.args.seat.now.number c.args.call.now.line 0 (d.0 ++ l.0 ∷ []) items) (sym c.in_ok-push.ensures.items) n.0,
        subst (λ (items : List Timestamp). length items ≡ c.channels.channel + 1) (sym c.in_ok-push.ensures.items) n.1,
      );
      spends = spends_more c.channels.channel 1 (c.channels.channel + 1) c.args.seat.now c.channels.seat c.tick.new.seat c.channels.invariant.spends c.tick.ensures.spends (omega arith);
    }

pub returns-in_err-ts-clause-did : goal.returns-in_err-ts-clause-did
returns-in_err-ts-clause-did g c =
    let d = c.channels.invariant.did in
    let l = c.tick.ensures.did in
    let may = may_have_ticked c.args.call.now.line c.args.seat.now c.channels.seat c.tick.new.seat c.channels.channel c.channels.invariant.spends.number l.0 c.tick.result l.3 in (
      d.0 ++ l.0 ∷ [],
      did_more c.args.seat.now c.channels.seat c.tick.new.seat d.0 l.0 d.1 l.1,
      each_may c.args.call.now.line c.args.seat.now c.channels.seat c.tick.new.seat c.channels.channel c.channels.invariant.spends.number d.0 l.0 d.2 may,
      if_err c.from_residual.result (λ (stamps : List Timestamp). AreTicks c.args.seat.now.number c.args.call.now.line 0 (d.0 ++ l.0 ∷ []) stamps × (length stamps ≡ c.args.front.now.collection.channels)) c.from_residual.ensures.0,
    )

pub returns-in_err-push-clause-did : goal.returns-in_err-push-clause-did
returns-in_err-push-clause-did g c =
    let d = c.channels.invariant.did in
    let l = c.in_ok-ts.ensures.did in
    let may = may_tick c.args.call.now.line c.args.seat.now c.channels.seat c.tick.new.seat c.channels.channel c.channels.invariant.spends.number l.0 c.in_ok-ts.ts.0 l.3 in (
      d.0 ++ l.0 ∷ [],
      did_more c.args.seat.now c.channels.seat c.tick.new.seat d.0 l.0 d.1 l.1,
      each_may c.args.call.now.line c.args.seat.now c.channels.seat c.tick.new.seat c.channels.channel c.channels.invariant.spends.number d.0 l.0 d.2 may,
      if_err c.from_residual-in_err-push.result (λ (stamps : List Timestamp). AreTicks c.args.seat.now.number c.args.call.now.line 0 (d.0 ++ l.0 ∷ []) stamps × (length stamps ≡ c.args.front.now.collection.channels)) c.from_residual-in_err-push.ensures.0,
    )
