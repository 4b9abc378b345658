use Rattle.policy_lists.proofs.LineLemmas.{wide_on}
use Rattle.spec_match.proofs.ScratchLemmas.{more_room}
use Rattle.policy_lists.proofs.policy.widest.Goals as goal

pub lines-preserved : goal.lines-preserved
lines-preserved c =
    wide_on c.args.lines.now c.lines.line-index c.line-item.result c.lines.most
    c.wider-most.result c.lines-test.true c.line-item.is c.wider-most.ensures.one
    (more_room c.line-item.result.spec.pattern c.words.result c.wider-most.result
    c.wider-most.ensures.other c.words.ensures) c.lines.invariant
