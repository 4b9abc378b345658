use Rattle.path_reasons.proofs.LawLemmas.{line_decides, others_follow}
use Rattle.path_reasons.proofs.RouteLemmas.{same_path}
use Rattle.path_reasons.proofs.laws.decided_is_last_match.Goals as goal

pub returns-clause-decides : goal.returns-clause-decides
returns-clause-decides c = line_decides

pub returns-clause-others : goal.returns-clause-others
returns-clause-others c = others_follow

pub returns-clause-path : goal.returns-clause-path
returns-clause-path c = same_path
