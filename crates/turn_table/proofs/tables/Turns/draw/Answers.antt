use Rattle.turn_table.proofs.Calls.{draws_call}
use Rattle.turn_table.proofs.tables.Turns.draw.Goals as goal

pub add_as-requires-clause-rule : goal.add_as-requires-clause-rule
add_as-requires-clause-rule g c = draws_call g.V.Journalled.journal g.V.Journalled.base g.V.Journalled.number_of g.V.Journalled.time_of c.seat.inside.pass c.args.seat.now c.seat.inside.number c.seat.view_is c.seat.invariant c.requires.allowance
