use Rattle.pattern_match.proofs.LaidNodes.{laid_either}
use Rattle.pattern_match.proofs.layout.put_either.Goals as goal

pub returns : goal.returns
returns c = λ done rows classes trees h. laid_either rows classes c.args.segments.now.items
    c.pop.new.self.items c.pop-2.new.self.items c.push.new.self.items c.in-Some-pop.left
    c.in-Some.right c.either-either.result trees c.in-Some.ensures.items c.in-Some-pop.ensures.items
    c.in_ok-push.ensures.items c.either-either.ensures.start
    (c.either-either.ensures.stands rows classes) h
