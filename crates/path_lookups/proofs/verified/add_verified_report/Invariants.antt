use Rattle.path_lookups.proofs.verified.add_verified_report.Given as goal

abbrev pub ghosts-add_all_verified : goal.ghosts-add_all_verified
ghosts-add_all_verified a = record { name = a.blank.name; parts = a.blank.parts }
