use Rattle.base_tests.proofs.label_base_steps_tests.counts_without_bytes.Given as goal

abbrev pub ghosts-size_of_a_count : goal.ghosts-size_of_a_count
ghosts-size_of_a_count a b = record { name = b.blank.name; parts = b.blank.parts }
