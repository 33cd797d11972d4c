use Rattle.std.proofs.Common.{ap}
use Rattle.turn_lock.specs.Passes.{known}
use Rattle.turn_lock.specs.declared.locks.Turn as lock
use Rattle.turn_table.proofs.Calls.{counts_call, leaves_call}
use Rattle.turn_table.proofs.tables.Turns.leave.Goals as goal

pub count_as-turn-requires-clause-rule : goal.count_as-turn-requires-clause-rule
count_as-turn-requires-clause-rule g c = counts_call g.V.Journalled.journal g.V.Journalled.base g.V.Journalled.number_of g.V.Journalled.time_of c.seat.inside.pass c.args.seat.now c.seat.inside.number c.args.turn c.notes.result c.seat.view_is c.seat.invariant c.requires.turn c.requires.notes c.notes.ensures.count c.notes.ensures.few

pub leave_as-requires-clause-rule : goal.leave_as-requires-clause-rule
leave_as-requires-clause-rule g c =
    leaves_call g.V.Journalled.journal g.V.Journalled.base g.V.Journalled.number_of g.V.Journalled.time_of c.count_as-turn.new.pass.id c.seat.inside.pass c.args.seat.now c.seat.inside.number c.args.turn (known c.count_as-turn.new.pass) c.count_as-turn.result.slot c.count_as-turn.result.value c.seat.view_is c.seat.invariant c.requires.turn (rw c.requires.table c.requires.base) c.count_as-turn.ensures.rule.1
    (ap (λ (t : lock.Turn g.row.V.Denot). t.slot) c.count_as-turn.ensures.turn) (ap (λ (t : lock.Turn g.row.V.Denot). t.value) c.count_as-turn.ensures.turn)
