use Rattle.policy_rehearsal.proofs.FileLemmas.{some_named}
use Rattle.policy_rehearsal.proofs.tool.RehearseWordsTool.read_files.Goals as goal

pub returns-clause-unread : goal.returns-clause-unread
returns-clause-unread g c = λ none. absurd (some_named _ none)

pub returns-clause-alone : goal.returns-clause-alone
returns-clause-alone g c = λ none known. absurd (some_named _ none)
