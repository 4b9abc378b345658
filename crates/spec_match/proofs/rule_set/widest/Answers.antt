use Rattle.spec_match.proofs.ScratchLemmas.{more_room, widest_on}
use Rattle.spec_match.proofs.rule_set.widest.Goals as goal

pub rules-preserved : goal.rules-preserved
rules-preserved c =
    widest_on c.args.rules.now c.rules.rule-index c.rule-item.result c.rules.most
    c.wider-most.result c.rules-test.true c.rule-item.is c.wider-most.ensures.one
    (more_room c.rule-item.result.spec.pattern c.words.result c.wider-most.result
    c.wider-most.ensures.other c.words.ensures.room) c.rules.invariant
