use Rattle.label_audit.proofs.deciding.decide.Given as goal

abbrev pub ghosts-decide_counted : goal.ghosts-decide_counted
ghosts-decide_counted a = record { name = a.blank.name; parts = a.blank.parts }
