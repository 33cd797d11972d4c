use Rattle.flat_scan.proofs.tests.only_rows_that_pass_are_found.Given as goal

abbrev pub ghosts-nearest : goal.ghosts-nearest
ghosts-nearest g a = record { name = a.blank.name; parts = a.blank.parts }
