use Rattle.pattern_match.proofs.Stacks.{builds_nothing}
use Rattle.pattern_match.proofs.compile.put_nothing.Goals as goal

pub returns : goal.returns
returns c = builds_nothing _ _ _ c.bare.ensures c.in_ok-push.ensures.items
