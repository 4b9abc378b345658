use Rattle.policy_rehearsal.proofs.AcceptedRuns.{policies_are_runs}
use Rattle.policy_rehearsal.proofs.laws.read_policies_are_runs.Goals as goal

pub returns : goal.returns
returns c = policies_are_runs
