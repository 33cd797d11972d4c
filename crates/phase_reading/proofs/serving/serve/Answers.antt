use Rattle.phase_reading.proofs.Passing.{limit_passed}
use Rattle.phase_reading.proofs.Ending.{outcome_of}
use Rattle.phase_reading.specs.declared.stops.Stop.TheVariants.{Limit}
use Rattle.phase_reading.proofs.serving.serve.Goals as goal

pub returns-clause-limit : goal.returns-clause-limit
returns-clause-limit g c is =
    limit_passed (g.E.Engine.stopped c.run.new.engine) g.E.Engine.begins g.E.Engine.meets (g.S.Source.left c.args.source.now) _ _
    (outcome_of (g.E.Engine.stopped c.run.new.engine) (g.E.Engine.whole c.run.new.engine) g.E.Engine.begins g.E.Engine.meets c.run.result Limit _ _ _ _ c.run.ensures.stopped is)
