use Rattle.seat_walks.proofs.Gathering.{gathered_none, gathered_more}
use Rattle.seat_walks.proofs.laws.seats_are_joined.Goals as goal

pub returns-clause-none : goal.returns-clause-none
returns-clause-none g c = λ number s. gathered_none number s

pub returns-clause-more : goal.returns-clause-more
returns-clause-more g c = λ number t s m e p parts from back d. gathered_more number t s m e p parts from back d.seat d.drawn d.numbers d.mine d.others
