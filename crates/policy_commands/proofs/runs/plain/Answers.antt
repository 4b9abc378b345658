use Rattle.tool_runs.proofs.Completeness.{complete}
use Rattle.policy_commands.proofs.runs.plain.Goals as goal

pub returns-clause-complete : goal.returns-clause-complete
returns-clause-complete g c =
    complete _ _ _ _ _ c.run_asked.ensures.status c.run_asked.ensures.run
