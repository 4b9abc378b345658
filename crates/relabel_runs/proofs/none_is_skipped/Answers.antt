use Rattle.relabel_runs.proofs.RunLemmas.{none_skipped}
use Rattle.relabel_runs.proofs.none_is_skipped.Goals as goal

pub returns : goal.returns
returns c = none_skipped
