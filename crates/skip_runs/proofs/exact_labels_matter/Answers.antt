use Rattle.skip_runs.proofs.WayLemmas.{loose_labels_differ}
use Rattle.skip_runs.proofs.exact_labels_matter.Goals as goal

pub returns : goal.returns
returns c = loose_labels_differ
