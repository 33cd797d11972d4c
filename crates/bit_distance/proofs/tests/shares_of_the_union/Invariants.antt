use Rattle.bit_distance.proofs.tests.shares_of_the_union.Given as goal

abbrev pub ghosts-between : goal.ghosts-between
ghosts-between g a = record { name = a.blank.name; parts = a.blank.parts }
