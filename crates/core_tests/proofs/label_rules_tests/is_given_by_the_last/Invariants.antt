use Rattle.core_tests.proofs.label_rules_tests.is_given_by_the_last.Given as goal

abbrev pub ghosts-index_at : goal.ghosts-index_at
ghosts-index_at a = record { name = a.blank.name; parts = a.blank.parts }
