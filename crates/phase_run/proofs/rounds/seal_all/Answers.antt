use Rattle.std.proofs.Common.{◌≡◌, ℕ, ◌+◌, ◌≤◌, List, [], ◌∷◌, ◌++◌, length, sym, subst, arith}
use Rattle.hybrid_time.specs.declared.times.Timestamp.{Timestamp}
use Rattle.call_model.specs.Calls.{AreSeals}
use Rattle.call_model.proofs.Rounds.{did_more}
use Rattle.phase_run.proofs.Serving.{if_err, sealed_next, spends_more}
use Rattle.phase_run.proofs.rounds.seal_all.Goals as goal

pub channels-preserved : goal.channels-preserved
channels-preserved g c =
    let d = c.channels.invariant.did in
    let l = c.in_ok-seal.ensures.did in
    let named : c.channels.seat.number ≡ c.args.seat.now.number = c.channels.invariant.spends.number in
    let n = sealed_next c.args.call.now.line c.args.seat.now c.channels.seat c.seal.new.seat c.channels.channel named c.args.front.now.collection d.0 c.channels.seals.items l.0 c.in_ok-seal.seal d.2 d.3 l.2 l.3 in
    record {
      did = (
        d.0 ++ l.0 ∷ [],
        did_more c.args.seat.now c.channels.seat c.seal.new.seat d.0 l.0 d.1 l.1,
        subst (λ (items : List (Timestamp × ℕ)). AreSeals c.args.front.now.collection c.args.seat.now.number c.args.call.now.line 0 (d.0 ++ l.0 ∷ []) items) (sym c.in_ok-push.ensures.items) n.0,
        subst (λ (items : List (Timestamp × ℕ)). length items ≡ c.channels.channel + 1) (sym c.in_ok-push.ensures.items) n.1,
      );
      spends = spends_more c.channels.channel 1 (c.channels.channel + 1) c.args.seat.now c.channels.seat c.seal.new.seat c.channels.invariant.spends c.seal.ensures.spends (omega arith);
    }

pub returns-in_err-seal-clause-did : goal.returns-in_err-seal-clause-did
returns-in_err-seal-clause-did g c =
    let d = c.channels.invariant.did in
    let l = c.seal.ensures.did in (
      d.0 ++ l.0 ∷ [],
      did_more c.args.seat.now c.channels.seat c.seal.new.seat d.0 l.0 d.1 l.1,
      if_err c.from_residual.result (λ (seals : List (Timestamp × ℕ)). AreSeals c.args.front.now.collection c.args.seat.now.number c.args.call.now.line 0 (d.0 ++ l.0 ∷ []) seals × (length seals ≡ c.args.front.now.collection.channels)) c.from_residual.ensures.0,
    )

pub returns-in_err-push-clause-did : goal.returns-in_err-push-clause-did
returns-in_err-push-clause-did g c =
    let d = c.channels.invariant.did in
    let l = c.seal.ensures.did in (
      d.0 ++ l.0 ∷ [],
      did_more c.args.seat.now c.channels.seat c.seal.new.seat d.0 l.0 d.1 l.1,
      if_err c.from_residual-in_err-push.result (λ (seals : List (Timestamp × ℕ)). AreSeals c.args.front.now.collection c.args.seat.now.number c.args.call.now.line 0 (d.0 ++ l.0 ∷ []) seals × (length seals ≡ c.args.front.now.collection.channels)) c.from_residual-in_err-push.ensures.0,
    )
