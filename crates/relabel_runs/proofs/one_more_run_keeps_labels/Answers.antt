use Rattle.relabel_runs.proofs.RunLemmas as lemmas
use Rattle.relabel_runs.proofs.one_more_run_keeps_labels.Goals as goal

pub returns : goal.returns
returns c = lemmas.one_more_run_keeps_labels
