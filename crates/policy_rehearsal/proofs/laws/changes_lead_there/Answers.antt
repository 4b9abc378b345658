use Rattle.policy_rehearsal.proofs.ShownLemmas.{changes_lead}
use Rattle.policy_rehearsal.proofs.laws.changes_lead_there.Goals as goal

pub returns : goal.returns
returns c = changes_lead
