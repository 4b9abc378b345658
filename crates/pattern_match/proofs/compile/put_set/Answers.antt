use Rattle.pattern_match.proofs.Stacks.{builds_set}
use Rattle.pattern_match.proofs.compile.put_set.Goals as goal

pub returns : goal.returns
returns c = builds_set _ _ _ _ c.in_ok-single.ensures c.in_ok-push.ensures.items
