use Rattle.relabel_runs.proofs.RunLemmas as lemmas
use Rattle.relabel_runs.proofs.skipping_keeps_labels.Goals as goal

pub returns : goal.returns
returns c = lemmas.skipping_keeps_labels
