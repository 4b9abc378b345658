use Rattle.pattern_match.proofs.Classes.{none_each, some_each}
use Rattle.pattern_match.proofs.taking.has_each_at.Goals as goal

pub returns-in-None : goal.returns-in-None
returns-in-None c =
    (λ e. cc, λ h. absurd (none_each c.args.classes.now c.args.i c.in-None.ensures.lookup.3 h))

pub returns-in-Some : goal.returns-in-Some
returns-in-Some c = some_each c.args.classes.now c.args.i c.in-Some.class.now c.has_each.result
    c.in-Some.ensures.lookup.3.0 c.in-Some.ensures.lookup.1 c.has_each.ensures
