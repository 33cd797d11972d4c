use Rattle.std.proofs.Common.{arith}
use Rattle.turn_lock.specs.Passes.{known}
use Rattle.turn_table.proofs.Calls.{numbers_call, splits_call}
use Rattle.turn_table.proofs.Steps.{offers}
use Rattle.turn_table.proofs.tables.Turns.split.Goals as goal

pub add_as-number-requires-clause-rule : goal.add_as-number-requires-clause-rule
add_as-number-requires-clause-rule g c = numbers_call g.V.Journalled.journal g.V.Journalled.base g.V.Journalled.number_of g.V.Journalled.time_of c.seat.inside.pass c.args.seat.now c.seat.inside.number c.seat.view_is c.seat.invariant (omega arith)

pub read_as-requires-clause-rule : goal.read_as-requires-clause-rule
read_as-requires-clause-rule g c = offers g.V.Journalled.journal g.V.Journalled.base g.V.Journalled.number_of g.V.Journalled.time_of c.add_as-number.new.pass.id (known c.add_as-number.new.pass) c.args.allowance

pub split_as-pass-requires-clause-rule : goal.split_as-pass-requires-clause-rule
split_as-pass-requires-clause-rule g c = splits_call g.V.Journalled.journal g.V.Journalled.base g.V.Journalled.number_of g.V.Journalled.time_of c.read_as.new.pass.id c.seat.inside.pass c.args.seat.now c.seat.inside.number (known c.add_as-number.new.pass) (known c.read_as.new.pass) c.add_as-number.result c.args.allowance c.seat.view_is c.seat.invariant c.add_as-number.ensures.rule c.read_as.ensures.rule c.requires.amount.1
