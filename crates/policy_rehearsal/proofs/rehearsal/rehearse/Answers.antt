use Rattle.policy_rehearsal.specs.Rehearsal.{runs_of}
use Rattle.policy_rehearsal.proofs.StandingLemmas.{kept_shown}
use Rattle.policy_rehearsal.proofs.rehearsal.rehearse.Goals as goal

pub returns-clause-keeps : goal.returns-clause-keeps
returns-clause-keeps c =
    let asked = c.args.asked.now in
    kept_shown asked.tree.now (runs_of asked.choice.now asked.options c.args.policies.now)
    c.take_turns.result c.take_turns.ensures
