use Rattle.pattern_match.proofs.Alike.{none_more}
use Rattle.pattern_match.proofs.spelling.put_none.Goals as goal

pub returns : goal.returns
returns c = none_more c.args.operations.now.items c.push.new.self.items c.leaf.result
    c.in_ok-push.ensures.items c.leaf.ensures
