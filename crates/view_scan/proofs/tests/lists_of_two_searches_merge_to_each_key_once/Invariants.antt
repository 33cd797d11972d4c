use Rattle.view_scan.proofs.tests.lists_of_two_searches_merge_to_each_key_once.Given as goal

abbrev pub ghosts-nearest : goal.ghosts-nearest
ghosts-nearest g a = record { name = a.blank.name; parts = a.blank.parts }
