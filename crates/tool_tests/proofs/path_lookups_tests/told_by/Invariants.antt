use Rattle.tool_tests.proofs.path_lookups_tests.told_by.Given as goal

abbrev pub ghosts-told_of : goal.ghosts-told_of
ghosts-told_of a = record { name = a.blank.name; parts = a.blank.parts }
