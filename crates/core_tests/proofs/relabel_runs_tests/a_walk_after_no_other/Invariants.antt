use Rattle.core_tests.proofs.relabel_runs_tests.a_walk_after_no_other.Given as goal

abbrev pub ghosts-decided : goal.ghosts-decided
ghosts-decided a b = record { name = b.blank.name; parts = b.blank.parts }
