use Rattle.run_input.proofs.EntryCounts.{tree_of_format}
use Rattle.run_input.proofs.records.tree_from.Goals as goal

pub returns-in-Ok-clause-of_format : goal.returns-in-Ok-clause-of_format
returns-in-Ok-clause-of_format c = λ format all.
    tree_of_format format c.args.records c.in-Ok.tree c.in-Ok.ensures.answer all
