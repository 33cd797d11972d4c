use Rattle.seat_walks.proofs.Walking.{walked}
use Rattle.seat_walks.proofs.laws.steps_add_up.Goals as goal

pub returns : goal.returns
returns g c = λ number time s e xs w. walked number time s xs e w
