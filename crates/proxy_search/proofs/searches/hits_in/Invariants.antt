use Rattle.proxy_search.proofs.searches.hits_in.Given as goal

abbrev pub ghosts-scan : goal.ghosts-scan
ghosts-scan a = record { name = a.blank.name; parts = a.blank.parts }
