use Rattle.seat_walks.proofs.Closing.{closed}
use Rattle.seat_walks.proofs.laws.a_table_tells_all.Goals as goal

pub returns : goal.returns
returns g c = λ number time t old s e starts ends went back new last is. closed number time t old s starts ends went e back new last is
