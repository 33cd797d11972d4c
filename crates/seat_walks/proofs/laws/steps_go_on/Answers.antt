use Rattle.seat_walks.proofs.Walking.{walks_append, walks_cut}
use Rattle.seat_walks.proofs.laws.steps_go_on.Goals as goal

pub returns-clause-joined : goal.returns-clause-joined
returns-clause-joined g c = λ number time s m e xs ys w v. walks_append number time s m e xs ys w v

pub returns-clause-cut : goal.returns-clause-cut
returns-clause-cut g c = λ number time s e xs ys w. walks_cut number time s e xs ys w
