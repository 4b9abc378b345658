use Rattle.pattern_match.proofs.Zeros.{put_zero}
use Rattle.pattern_match.proofs.compile.put_none.Goals as goal

pub returns : goal.returns
returns c = put_zero c.args.stack.now.items c.push.new.self.items c.bare.result c.bare.ensures
    c.in_ok-push.ensures.items
