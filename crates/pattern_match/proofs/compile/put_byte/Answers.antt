use Rattle.pattern_match.proofs.Stacks.{builds_byte}
use Rattle.pattern_match.proofs.compile.put_byte.Goals as goal

pub returns : goal.returns
returns c = builds_byte _ _ _ _ c.in_ok-single.ensures c.in_ok-push.ensures.items
