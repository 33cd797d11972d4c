use Rattle.seat_walks.proofs.Closing.{back, whole}
use Rattle.seat_walks.proofs.laws.seats_come_back.Goals as goal

pub returns-clause-join : goal.returns-clause-join
returns-clause-join g c = λ number time t old s starts ends went i p at. back number time t old s starts ends went i p at

pub returns-clause-close : goal.returns-clause-close
returns-clause-close g c = λ number time t old s e starts ends went back. whole number time t old s starts ends went e back
