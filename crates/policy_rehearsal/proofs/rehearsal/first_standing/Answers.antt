use Rattle.policy_rehearsal.proofs.StandingLemmas.{first_at, first_kept}
use Rattle.policy_rehearsal.proofs.rehearsal.first_standing.Goals as goal

pub returns-clause-kept : goal.returns-clause-kept
returns-clause-kept c = first_kept c.args.tree.now _ c.in_ok-first_labels.ensures c.none.ensures

pub returns-clause-at : goal.returns-clause-at
returns-clause-at c = first_at c.args.tree.now _ c.in_ok-first_labels.ensures c.none.ensures
