use Rattle.policy_rehearsal.proofs.WordLemmas.{saves_none}
use Rattle.policy_rehearsal.proofs.tool.RehearseWordsTool.answer.Goals as goal

pub returns-clause-saved : goal.returns-clause-saved
returns-clause-saved c = saves_none _ _ _ _ c.in_ok-answer_of.ensures
