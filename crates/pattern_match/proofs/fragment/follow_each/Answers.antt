use Rattle.pattern_match.specs.Automaton.{followed}
use Rattle.pattern_match.proofs.Lists.{each_more}
use Rattle.pattern_match.proofs.fragment.follow_each.Goals as goal

pub loop-position-preserved : goal.loop-position-preserved
loop-position-preserved c = each_more (followed c.args.holds_empty c.args.first.now)
    c.deref_mut-position-items.result.now c.loop-position.position-items
    c.loop-position.position-index c.position-item.result c.follow.new.self
    c.loop-position-test.true c.loop-position.invariant c.position-item.is c.in_ok-follow.ensures
