use Rattle.path_lookups.proofs.found.add_found_report.Given as goal

abbrev pub ghosts-add_all_found : goal.ghosts-add_all_found
ghosts-add_all_found a = record { name = a.blank.name; parts = a.blank.parts }
