use Rattle.turn_lock.specs.Passes.{known}
use Rattle.turn_table.proofs.Steps.{lifts}
use Rattle.turn_table.proofs.tables.Turns.lift.Goals as goal

pub raise_as-requires-clause-rule : goal.raise_as-requires-clause-rule
raise_as-requires-clause-rule g c = lifts g.V.Journalled.journal g.V.Journalled.base g.V.Journalled.number_of g.V.Journalled.time_of c.seat.inside.pass.id (known c.seat.inside.pass) c.args.least c.seat.invariant.live c.requires.low
