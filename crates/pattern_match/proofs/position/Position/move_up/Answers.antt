use Rattle.pattern_match.proofs.Lists.{numbers_more}
use Rattle.pattern_match.proofs.position.Position.move_up.Goals as goal

pub loop-number-preserved : goal.loop-number-preserved
loop-number-preserved c = numbers_more c.args.by c.deref_mut-number-items.result.now
    c.loop-number.number-items c.loop-number.number-index c.in_ok-number.field-0
    c.loop-number-test.true c.loop-number.invariant c.in_ok-number.ensures
