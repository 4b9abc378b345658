use Rattle.pattern_match.proofs.Standing.{too_short}
use Rattle.pattern_match.proofs.matcher.begins_with.Goals as goal

pub returns-then-text-start-clause-value : goal.returns-then-text-start-clause-value
returns-then-text-start-clause-value c =
    too_short c.args.text.now c.args.start.now c.if-text-start.true
