use Rattle.skip_runs.proofs.WayLemmas.{loose_digests_differ}
use Rattle.skip_runs.proofs.exact_digests_matter.Goals as goal

pub returns : goal.returns
returns c = loose_digests_differ
