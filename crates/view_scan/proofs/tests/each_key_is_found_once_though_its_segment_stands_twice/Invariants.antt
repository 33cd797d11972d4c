use Rattle.view_scan.proofs.tests.each_key_is_found_once_though_its_segment_stands_twice.Given as goal

abbrev pub ghosts-nearest : goal.ghosts-nearest
ghosts-nearest g a = record { name = a.blank.name; parts = a.blank.parts }
