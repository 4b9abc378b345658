use Rattle.home_contexts.proofs.Runs.{run_split}
use Rattle.home_contexts.proofs.word.plain_run.Goals as goal

pub returns-clause-pieces : goal.returns-clause-pieces
returns-clause-pieces c = run_split c.args.field.now c.run_length-length.result
    c.run_length-length.ensures.within c.run_length-length.ensures.pieces
