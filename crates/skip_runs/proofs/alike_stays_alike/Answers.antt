use Rattle.skip_runs.proofs.Runs.{like_after}
use Rattle.skip_runs.proofs.alike_stays_alike.Goals as goal

pub returns : goal.returns
returns g c same_label same_digest digest_of zero_digest = like_after _
