use Rattle.std.proofs.Common.{refl, Ok}
use Rattle.relabel_commands.proofs.runs.run_relabelling.Goals as goal

pub returns-then-count-eq1-clause-status : goal.returns-then-count-eq1-clause-status
returns-then-count-eq1-clause-status g c = c.run_words.ensures.status (Ok _) refl

pub returns-then-count-eq1-clause-run : goal.returns-then-count-eq1-clause-run
returns-then-count-eq1-clause-run g c = c.run_words.ensures.run (Ok _) refl

pub returns-clause-status : goal.returns-clause-status
returns-clause-status g c = c.run_words-2.ensures.status (Ok _) refl

pub returns-clause-run : goal.returns-clause-run
returns-clause-run g c = c.run_words-2.ensures.run (Ok _) refl
