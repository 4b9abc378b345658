use Rattle.pattern_match.proofs.LaidNodes.{laid_both, first_within}
use Rattle.pattern_match.proofs.layout.put_both.Goals as goal

pub both-both-requires : goal.both-both-requires
both-both-requires c = first_within c.args.rows.now.items c.requires.0 c.args.segments.now.items
    c.pop.new.self.items c.pop-2.new.self.items c.in-Some-pop.first c.in-Some.second c.requires.1.0
    c.in-Some.ensures.items c.in-Some-pop.ensures.items c.requires.1.1

pub returns : goal.returns
returns c = λ done classes trees h. laid_both c.args.rows.now.items c.both-both.new.rows.items
    classes c.args.segments.now.items c.pop.new.self.items c.pop-2.new.self.items
    c.push.new.self.items c.in-Some-pop.first c.in-Some.second c.both-both.result trees
    c.in-Some.ensures.items c.in-Some-pop.ensures.items c.in_ok-push.ensures.items
    c.if-not-first.false c.if-not-second.false c.both-both.ensures.bits c.both-both.ensures.words
    c.both-both.ensures.start (c.both-both.ensures.stands classes) h
