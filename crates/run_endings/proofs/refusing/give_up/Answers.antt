use Rattle.run_endings.proofs.refusing.give_up.Goals as goal

pub returns-clause-line : goal.returns-clause-line
returns-clause-line g c = λ files. rw c.as_bytes.ensures.value at c.write_line.ensures
