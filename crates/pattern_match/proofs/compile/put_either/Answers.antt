use Rattle.pattern_match.proofs.Stacks.{builds_either}
use Rattle.pattern_match.proofs.compile.put_either.Goals as goal

pub returns : goal.returns
returns c = builds_either _ _ _ _ _ _ _ c.in-Some.ensures.items c.in-Some-pop.ensures.items
    c.in_ok-either.ensures c.in_ok-push-2.ensures.items
