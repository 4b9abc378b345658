use Rattle.match_tests.proofs.spec_match_tried_tests.tried_by_path.Given as goal

abbrev pub ghosts-last_match : goal.ghosts-last_match
ghosts-last_match a = record { name = a.blank.name; parts = a.blank.parts }
