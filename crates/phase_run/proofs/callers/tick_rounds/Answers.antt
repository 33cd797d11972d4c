use Rattle.std.proofs.Common.{◌≡◌, ℕ, ◌+◌, ◌*◌, ◌≤◌, subst, arith, rules}
use Rattle.hybrid_time.specs.Times.{of_moment}
use Rattle.phase_run.specs.Callers.{Ticked}
use Rattle.phase_run.proofs.Serving.{minds_none, minds_more, spends_none, spends_more}
use Rattle.phase_run.proofs.Ticking.{rounds_none, ticked_more}
use Rattle.phase_run.proofs.callers.tick_rounds.Goals as goal

pub rounds-init : goal.rounds-init
rounds-init g c = record { minds = minds_none c.args.seat.now; ticked = rounds_none c.args.front.now.collection (of_moment (g.M.Moments.least c.args.call.now.moments.now)) c.args.seat.now; spends = spends_none (0 * 20) c.args.seat.now }

pub rounds-preserved : goal.rounds-preserved
rounds-preserved g c = record {
  minds = minds_more c.args.seat.now c.rounds.seat c.tick_round.new.seat c.rounds.invariant.minds c.tick_round.ensures.minds;
  ticked = ticked_more c.args.front.now.collection (of_moment (g.M.Moments.least c.args.call.now.moments.now)) c.rounds.counter c.args.seat.now c.rounds.seat c.tick_round.new.seat c.rounds.invariant.spends.number c.rounds.invariant.ticked c.in_ok-tick_round.ensures.ticked;
  spends = spends_more (c.rounds.counter * 20) 20 ((c.rounds.counter + 1) * 20) c.args.seat.now c.rounds.seat c.tick_round.new.seat c.rounds.invariant.spends c.tick_round.ensures.spends (omega arith);
}

pub returns-in_err-tick_round-clause-minds : goal.returns-in_err-tick_round-clause-minds
returns-in_err-tick_round-clause-minds g c = minds_more c.args.seat.now c.rounds.seat c.tick_round.new.seat c.rounds.invariant.minds c.tick_round.ensures.minds

pub returns-clause-minds : goal.returns-clause-minds
returns-clause-minds g c = c.rounds.invariant.minds

pub returns-clause-ticked : goal.returns-clause-ticked
returns-clause-ticked g c =
    let all : c.rounds.counter ≡ c.args.rounds = search rules in
    subst (λ (n : ℕ). Ticked c.args.front.now.collection (of_moment (g.M.Moments.least c.args.call.now.moments.now)) n c.args.seat.now c.rounds.seat) all c.rounds.invariant.ticked
