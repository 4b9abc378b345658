use Rattle.pattern_match.proofs.LaidNodes.{laid_none, whole_laid}
use Rattle.pattern_match.proofs.readying.laid.Goals as goal

pub lay-requires : goal.lay-requires
lay-requires c = laid_none c.args.rows.now.items c.args.classes.now.items
    c.new-segments.result.items c.requires.rows c.requires.classes c.new-segments.ensures.items

pub returns : goal.returns
returns c = whole_laid c.lay.new.rows.items c.lay.new.classes.items c.lay.new.segments.items
    c.pop.new.self.items c.in-Some.whole c.args.nodes.now c.in-Some.ensures.items
    c.if-whole-ne0.false c.if-not-whole.false (c.in_ok-lay.ensures c.if-not-branch.false)
