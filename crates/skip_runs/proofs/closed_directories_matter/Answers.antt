use Rattle.skip_runs.proofs.WayLemmas.{closed_differs}
use Rattle.skip_runs.proofs.closed_directories_matter.Goals as goal

pub returns : goal.returns
returns c = closed_differs
