use Rattle.flat_scan.proofs.tests.rows_are_found_from_their_put_to_their_death.Given as goal

abbrev pub ghosts-nearest : goal.ghosts-nearest
ghosts-nearest g a = record { name = a.blank.name; parts = a.blank.parts }
