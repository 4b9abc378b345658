use Rattle.pattern_match.proofs.Stacks.{builds_both}
use Rattle.pattern_match.proofs.compile.put_both.Goals as goal

pub returns : goal.returns
returns c = builds_both _ _ _ _ _ _ _ c.in-Some.ensures.items c.in-Some-pop.ensures.items
    c.in_ok-both.ensures c.in_ok-push-2.ensures.items
