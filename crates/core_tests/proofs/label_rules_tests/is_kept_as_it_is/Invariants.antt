use Rattle.core_tests.proofs.label_rules_tests.is_kept_as_it_is.Given as goal

abbrev pub ghosts-index_of : goal.ghosts-index_of
ghosts-index_of a = record { name = a.blank.name; parts = a.blank.parts }
