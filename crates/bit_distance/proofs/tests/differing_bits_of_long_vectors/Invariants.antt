use Rattle.bit_distance.proofs.tests.differing_bits_of_long_vectors.Given as goal

abbrev pub ghosts-between : goal.ghosts-between
ghosts-between g a = record { name = a.blank.name; parts = a.blank.parts }
