use Rattle.pattern_match.proofs.LaidNodes.{laid_nothing}
use Rattle.pattern_match.proofs.layout.put_nothing.Goals as goal

pub returns : goal.returns
returns c = λ done classes trees h. laid_nothing c.args.rows.now classes c.args.segments.now.items
    c.push.new.self.items c.bare.result trees c.bare.ensures c.in_ok-push.ensures.items h
