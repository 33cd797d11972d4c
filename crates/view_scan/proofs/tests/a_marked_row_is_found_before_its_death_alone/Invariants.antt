use Rattle.view_scan.proofs.tests.a_marked_row_is_found_before_its_death_alone.Given as goal

abbrev pub ghosts-nearest : goal.ghosts-nearest
ghosts-nearest g a = record { name = a.blank.name; parts = a.blank.parts }
