use Rattle.pattern_syntax.proofs.BehindLemmas.{parts_are}
use Rattle.pattern_match.proofs.readying.rest_of.Goals as goal

pub returns : goal.returns
returns c = (parts_are c.args.pattern.now.tree c.in_ok-rest.rest.items
    c.has_no_empty_set.ensures.proper c.in_ok-rest.ensures.whole).behind
