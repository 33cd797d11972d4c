use Rattle.std.proofs.Common.{◌≡◌, ℕ, List, length, sym, subst}
use Rattle.std.specs.List.{AllByRecursion as Each}
use Rattle.hybrid_time.specs.Times.{of_moment}
use Rattle.call_model.specs.Calls.{AreTicks}
use Rattle.phase_run.specs.Callers.{MayTick, IsRound}
use Rattle.phase_run.proofs.Serving.{minds_round, moments_rise}
use Rattle.phase_run.proofs.Ticking.{ticked_round}
use Rattle.phase_run.proofs.callers.tick_round.Goals as goal

pub returns-clause-minds : goal.returns-clause-minds
returns-clause-minds g c =
    let m = c.start.ensures.did in
    let d = c.tick_all.ensures.did in
    minds_round c.args.seat.now c.start.new.seat c.tick_all.new.seat (of_moment m.0) c.start.new.seat.number d.0 m.2 d.1 (subst (λ (line : ℕ). Each (MayTick c.start.new.seat.number line) d.0) c.requires.line d.2)

pub returns-clause-ticked : goal.returns-clause-ticked
returns-clause-ticked g c =
    let m = c.start.ensures.did in
    let d = c.in_ok-tick_all.ensures.did in
    ticked_round c.args.front.now.collection (of_moment (g.M.Moments.least c.args.call.now.moments.now)) (of_moment m.0) c.args.seat.now.number d.0 c.in_ok-tick_all.field-0 c.args.seat.now c.start.new.seat c.tick_all.new.seat (moments_rise (g.M.Moments.least c.args.call.now.moments.now) m.0 m.1) m.2 d.1
    (subst (λ (by : ℕ). AreTicks by 0 0 d.0 c.in_ok-tick_all.field-0) c.start.ensures.spends.number (subst (λ (line : ℕ). AreTicks c.start.new.seat.number line 0 d.0 c.in_ok-tick_all.field-0) c.requires.line d.3.0)) d.3.1

pub returns-in_err-tick_all-clause-minds : goal.returns-in_err-tick_all-clause-minds
returns-in_err-tick_all-clause-minds g c =
    let m = c.start.ensures.did in
    let d = c.tick_all.ensures.did in
    minds_round c.args.seat.now c.start.new.seat c.tick_all.new.seat (of_moment m.0) c.start.new.seat.number d.0 m.2 d.1 (subst (λ (line : ℕ). Each (MayTick c.start.new.seat.number line) d.0) c.requires.line d.2)
