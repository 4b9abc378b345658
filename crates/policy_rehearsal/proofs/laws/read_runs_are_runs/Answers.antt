use Rattle.policy_rehearsal.proofs.AcceptedRuns.{read_runs_are_runs}
use Rattle.policy_rehearsal.proofs.laws.read_runs_are_runs.Goals as goal

pub returns : goal.returns
returns c = read_runs_are_runs
