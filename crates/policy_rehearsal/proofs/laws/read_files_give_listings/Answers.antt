use Rattle.policy_rehearsal.proofs.AcceptedRuns.{files_give_listings}
use Rattle.policy_rehearsal.proofs.laws.read_files_give_listings.Goals as goal

pub returns : goal.returns
returns c = files_give_listings
