use Rattle.std.proofs.Common.{Bool, subst, arith}
use Rattle.phase_reading.specs.Engines.{Takes}
use Rattle.phase_reading.proofs.Pieces.{none_appended, on_ok, if_err}
use Rattle.phase_reading.proofs.Closing.{began, not_begun, no_memory, ready_take, ready_run, other, ran_next, not_ran}
use Rattle.phase_reading.proofs.reading.answer_line.Goals as goal

pub returns-then-lines-eq0-clause-next : goal.returns-then-lines-eq0-clause-next
returns-then-lines-eq0-clause-next g c =
    on_ok _ _ c.begin_line.result (λ w before all s. began _ _ (λ done waiting output told. g.E.Engine.persists c.args.engine.now c.begin_line.new.engine done output c.begin_line.ensures.follows (g.E.Engine.stands c.args.engine.now done waiting output told)) _ _ _ _ _ _ _ s (g.E.Engine.account c.begin_line.new.engine) (g.E.Engine.stands c.begin_line.new.engine) _ (omega (arith, c.if-lines-eq0.true)) c.requires.room w) c.begin_line.ensures.ok

pub returns-then-lines-eq0-clause-ended : goal.returns-then-lines-eq0-clause-ended
returns-then-lines-eq0-clause-ended g c =
    if_err _ _ c.begin_line.result (λ stop f before all s. not_begun _ _ (λ done waiting output told. g.E.Engine.persists c.args.engine.now c.begin_line.new.engine done output c.begin_line.ensures.follows (g.E.Engine.stands c.args.engine.now done waiting output told)) _ _ _ _ _ _ _ s (g.E.Engine.account c.begin_line.new.engine) (g.E.Engine.stands c.begin_line.new.engine) _ (omega (arith, c.if-lines-eq0.true)) stop f) c.begin_line.ensures.err

pub take-requires : goal.take-requires
take-requires g c = record { ready = ready_take _ _ (g.E.Engine.stands c.args.engine.now) _ _ _ _ _ _ _ c.requires.known.2 (omega (arith, c.if-lines-eq0.false)) c.requires.room }

pub returns-in-Err-clause-ended : goal.returns-in-Err-clause-ended
returns-in-Err-clause-ended g c before all s = no_memory _ _ (λ done waiting output told. g.E.Engine.persists c.args.engine.now c.take.new.self done output c.take.ensures.follows (g.E.Engine.stands c.args.engine.now done waiting output told)) _ _ _ _ _ _ _ s _ (none_appended _)

pub run_phase-requires : goal.run_phase-requires
run_phase-requires g c =
    let takes = subst (λ (b : Bool). Takes (g.E.Engine.account c.args.engine.now) (g.E.Engine.account c.take.new.self) g.E.Engine.meets c.args.line.now b) c.if-meet.true c.in-Ok.ensures.taken in
    record { ready = ready_run _ _ (g.E.Engine.stands c.args.engine.now) _ _ _ _ _ _ _ c.requires.known.2 (g.E.Engine.account c.take.new.self) (omega (arith, c.if-lines-eq0.false)) c.requires.room takes }

pub returns-then-meet-clause-next : goal.returns-then-meet-clause-next
returns-then-meet-clause-next g c =
    let takes = subst (λ (b : Bool). Takes (g.E.Engine.account c.args.engine.now) (g.E.Engine.account c.take.new.self) g.E.Engine.meets c.args.line.now b) c.if-meet.true c.in-Ok.ensures.taken in
    on_ok _ _ c.run_phase.result (λ w before all s. ran_next _ _ (λ done waiting output told. g.E.Engine.persists c.args.engine.now c.run_phase.new.engine done output (g.E.Engine.goes_on _ _ _ c.take.ensures.follows c.run_phase.ensures.follows) (g.E.Engine.stands c.args.engine.now done waiting output told)) _ _ _ _ _ _ _ s (g.E.Engine.account c.run_phase.new.engine) (g.E.Engine.stands c.run_phase.new.engine) _ (g.E.Engine.account c.take.new.self) (omega (arith, c.if-lines-eq0.false)) takes c.requires.room w) c.run_phase.ensures.ok

pub returns-then-meet-clause-ended : goal.returns-then-meet-clause-ended
returns-then-meet-clause-ended g c =
    let takes = subst (λ (b : Bool). Takes (g.E.Engine.account c.args.engine.now) (g.E.Engine.account c.take.new.self) g.E.Engine.meets c.args.line.now b) c.if-meet.true c.in-Ok.ensures.taken in
    if_err _ _ c.run_phase.result (λ stop f before all s. not_ran _ _ (λ done waiting output told. g.E.Engine.persists c.args.engine.now c.run_phase.new.engine done output (g.E.Engine.goes_on _ _ _ c.take.ensures.follows c.run_phase.ensures.follows) (g.E.Engine.stands c.args.engine.now done waiting output told)) _ _ _ _ _ _ _ s (g.E.Engine.account c.run_phase.new.engine) (g.E.Engine.stands c.run_phase.new.engine) _ (g.E.Engine.account c.take.new.self) (omega (arith, c.if-lines-eq0.false)) takes stop f) c.run_phase.ensures.err

pub returns-clause-next : goal.returns-clause-next
returns-clause-next g c before all s =
    let takes = subst (λ (b : Bool). Takes (g.E.Engine.account c.args.engine.now) (g.E.Engine.account c.take.new.self) g.E.Engine.meets c.args.line.now b) c.if-meet.false c.in-Ok.ensures.taken in
    other _ _ (g.E.Engine.stands c.args.engine.now) _ _ _ _ _ _ _ s (g.E.Engine.account c.take.new.self) (omega (arith, c.if-lines-eq0.false)) c.requires.room takes
