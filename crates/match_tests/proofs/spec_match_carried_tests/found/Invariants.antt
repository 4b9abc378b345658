use Rattle.match_tests.proofs.spec_match_carried_tests.found.Given as goal

abbrev pub ghosts-counted : goal.ghosts-counted
ghosts-counted a = record { name = a.blank.name; parts = a.blank.parts }
