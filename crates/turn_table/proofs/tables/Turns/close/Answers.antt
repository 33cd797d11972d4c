use Rattle.std.proofs.Common.{ap, ◌∙◌, ◌≤◌, ◌^◌, ◌+◌, max, subst}
use Rattle.turn_table.specs.Seats.{Table}
use Rattle.turn_table.proofs.Calls.{closes_call, closed}
use Rattle.turn_table.proofs.tables.Turns.close.Goals as goal

pub close-requires-clause-rule : goal.close-requires-clause-rule
close-requires-clause-rule g c = closes_call g.V.Journalled.journal g.V.Journalled.base g.V.Journalled.number_of g.V.Journalled.time_of c.seat.inside.pass c.args.seat c.seat.inside.number c.seat.view_is c.seat.invariant c.requires.rest c.requires.all

pub returns-clause-journals : goal.returns-clause-journals
returns-clause-journals g c = (closed g.V.Journalled.journal g.V.Journalled.base g.V.Journalled.number_of g.V.Journalled.time_of c.seat.inside.pass c.args.seat c.seat.inside.number c.close.result.1 c.close.ensures.last.0 c.close.result.0.items c.seat.view_is c.seat.invariant c.requires.all c.close.ensures.last.1 c.close.ensures.last.2).journals

pub returns-clause-whose : goal.returns-clause-whose
returns-clause-whose g c = (closed g.V.Journalled.journal g.V.Journalled.base g.V.Journalled.number_of g.V.Journalled.time_of c.seat.inside.pass c.args.seat c.seat.inside.number c.close.result.1 c.close.ensures.last.0 c.close.result.0.items c.seat.view_is c.seat.invariant c.requires.all c.close.ensures.last.1 c.close.ensures.last.2).whose

pub returns-clause-drawn : goal.returns-clause-drawn
returns-clause-drawn g c = (closed g.V.Journalled.journal g.V.Journalled.base g.V.Journalled.number_of g.V.Journalled.time_of c.seat.inside.pass c.args.seat c.seat.inside.number c.close.result.1 c.close.ensures.last.0 c.close.result.0.items c.seat.view_is c.seat.invariant c.requires.all c.close.ensures.last.1 c.close.ensures.last.2).drawn

pub returns-clause-times : goal.returns-clause-times
returns-clause-times g c = (closed g.V.Journalled.journal g.V.Journalled.base g.V.Journalled.number_of g.V.Journalled.time_of c.seat.inside.pass c.args.seat c.seat.inside.number c.close.result.1 c.close.ensures.last.0 c.close.result.0.items c.seat.view_is c.seat.invariant c.requires.all c.close.ensures.last.1 c.close.ensures.last.2).times

pub returns-clause-bases : goal.returns-clause-bases
returns-clause-bases g c = (closed g.V.Journalled.journal g.V.Journalled.base g.V.Journalled.number_of g.V.Journalled.time_of c.seat.inside.pass c.args.seat c.seat.inside.number c.close.result.1 c.close.ensures.last.0 c.close.result.0.items c.seat.view_is c.seat.invariant c.requires.all c.close.ensures.last.1 c.close.ensures.last.2).bases ∙ ap (λ (t : Table g.row.V-Base.Denot). t.bases) c.requires.table

pub returns-clause-first : goal.returns-clause-first
returns-clause-first g c = subst (λ (t : Table g.row.V-Base.Denot). t.first ≤ c.close.result.1) c.requires.table (closed g.V.Journalled.journal g.V.Journalled.base g.V.Journalled.number_of g.V.Journalled.time_of c.seat.inside.pass c.args.seat c.seat.inside.number c.close.result.1 c.close.ensures.last.0 c.close.result.0.items c.seat.view_is c.seat.invariant c.requires.all c.close.ensures.last.1 c.close.ensures.last.2).first

pub returns-clause-since : goal.returns-clause-since
returns-clause-since g c = λ x a. subst (λ (t : Table g.row.V-Base.Denot). t.first ≤ x) c.requires.table ((closed g.V.Journalled.journal g.V.Journalled.base g.V.Journalled.number_of g.V.Journalled.time_of c.seat.inside.pass c.args.seat c.seat.inside.number c.close.result.1 c.close.ensures.last.0 c.close.result.0.items c.seat.view_is c.seat.invariant c.requires.all c.close.ensures.last.1 c.close.ensures.last.2).since x a)

pub returns-clause-most : goal.returns-clause-most
returns-clause-most g c = subst (λ (t : Table g.row.V-Base.Denot). c.close.result.1 ≤ 2 ^ 40 + max t.first (2 ^ 63)) c.requires.table (closed g.V.Journalled.journal g.V.Journalled.base g.V.Journalled.number_of g.V.Journalled.time_of c.seat.inside.pass c.args.seat c.seat.inside.number c.close.result.1 c.close.ensures.last.0 c.close.result.0.items c.seat.view_is c.seat.invariant c.requires.all c.close.ensures.last.1 c.close.ensures.last.2).most
