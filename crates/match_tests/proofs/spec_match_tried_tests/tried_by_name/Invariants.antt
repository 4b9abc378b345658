use Rattle.match_tests.proofs.spec_match_tried_tests.tried_by_name.Given as goal

abbrev pub ghosts-last_child_match : goal.ghosts-last_child_match
ghosts-last_child_match a = record { name = a.blank.name; parts = a.blank.parts }
