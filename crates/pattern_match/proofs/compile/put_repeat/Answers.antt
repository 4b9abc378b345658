use Rattle.pattern_match.proofs.Stacks.{builds_repeat}
use Rattle.pattern_match.proofs.compile.put_repeat.Goals as goal

pub returns : goal.returns
returns c = builds_repeat _ _ _ _ _ _ _ c.in-Some.ensures.items c.in_ok-repeated.ensures
    c.in_ok-push.ensures.items
