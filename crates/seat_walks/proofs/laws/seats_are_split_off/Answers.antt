use Rattle.seat_walks.proofs.Gathering.{parted_none, parted_more}
use Rattle.seat_walks.proofs.laws.seats_are_split_off.Goals as goal

pub returns-clause-none : goal.returns-clause-none
returns-clause-none g c = λ s. parted_none s

pub returns-clause-more : goal.returns-clause-more
returns-clause-more g c = λ s m e p starts n from d. parted_more s m e p starts n from d.room d.seat d.other
