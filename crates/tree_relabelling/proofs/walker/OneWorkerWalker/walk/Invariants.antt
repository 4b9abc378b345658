use Rattle.tree_relabelling.proofs.walker.OneWorkerWalker.walk.Given as goal

abbrev pub ghosts-walk_by : goal.ghosts-walk_by
ghosts-walk_by a = record { name = a.blank.name; parts = a.blank.parts }
