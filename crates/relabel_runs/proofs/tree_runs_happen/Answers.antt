use Rattle.relabel_runs.proofs.WitnessLemmas.{tree_runs_happen}
use Rattle.relabel_runs.proofs.tree_runs_happen.Goals as goal

pub returns : goal.returns
returns c = tree_runs_happen
