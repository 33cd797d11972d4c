use Rattle.std.proofs.Common.{sym, ap, ◌∙◌}
use Rattle.turn_lock.specs.Passes.{known}
use Rattle.turn_table.specs.Seats.{SeatView}
use Rattle.turn_table.proofs.Calls.{joins_call, joined_seat, joined_left, joined_right}
use Rattle.turn_table.proofs.Steps.{settles}
use Rattle.turn_table.proofs.tables.Turns.join.Goals as goal

pub join_as-requires-clause-rule : goal.join_as-requires-clause-rule
join_as-requires-clause-rule g c = joins_call g.V.Journalled.journal g.V.Journalled.base g.V.Journalled.number_of g.V.Journalled.time_of c.seat.inside.pass c.other.inside.pass c.args.seat.now c.args.other c.seat.inside.number c.other.inside.number c.seat.view_is c.seat.invariant c.other.view_is c.other.invariant c.requires.rest.1

pub read_as-requires-clause-rule : goal.read_as-requires-clause-rule
read_as-requires-clause-rule g c = settles g.V.Journalled.journal g.V.Journalled.base g.V.Journalled.number_of g.V.Journalled.time_of c.join_as.new.pass.id (known c.join_as.new.pass)

pub invariant_of-seat : goal.invariant_of-seat
invariant_of-seat g c = joined_seat g.V.Journalled.number_of c.seat.inside.pass c.other.inside.pass c.join_as.new.pass c.read_as.new.pass c.seat.inside.number c.other.inside.number c.seat.invariant c.other.invariant
    (ap (λ (s : SeatView g.row.V-Note.Denot g.row.V-Base.Denot). s.table.id) (c.other.view_is) ∙ ap (λ t. t.id) (c.requires.tables.1 ∙ sym c.requires.tables.0) ∙ sym (ap (λ (s : SeatView g.row.V-Note.Denot g.row.V-Base.Denot). s.table.id) c.seat.view_is))
    c.join_as.ensures.pass c.join_as.ensures.rule c.read_as.ensures.pass c.read_as.ensures.rule

pub returns-clause-mine : goal.returns-clause-mine
returns-clause-mine g c = joined_left g.V.Journalled.number_of c.seat.inside.pass c.other.inside.pass c.join_as.new.pass c.read_as.new.pass c.args.seat.now c.seat.inside.number c.seat.view_is c.seat.invariant c.join_as.ensures.rule c.read_as.ensures.rule

pub returns-clause-others : goal.returns-clause-others
returns-clause-others g c = joined_right g.V.Journalled.number_of c.seat.inside.pass c.other.inside.pass c.join_as.new.pass c.read_as.new.pass c.args.other c.other.inside.number c.other.view_is c.other.invariant c.join_as.ensures.rule c.read_as.ensures.rule
