use Rattle.turn_lock.specs.Passes.{known}
use Rattle.turn_table.proofs.Steps.{enters}
use Rattle.turn_table.proofs.tables.Turns.enter.Goals as goal

pub enter_as-value-requires-clause-rule : goal.enter_as-value-requires-clause-rule
enter_as-value-requires-clause-rule g c = enters g.V.Journalled.journal g.V.Journalled.base g.V.Journalled.number_of g.V.Journalled.time_of c.seat.inside.pass.id (known c.seat.inside.pass) c.args.slot c.seat.invariant.live
