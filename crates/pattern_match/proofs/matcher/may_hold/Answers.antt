use Rattle.std.proofs.Common.{◌∙◌, false, sym}
use Rattle.pattern_match.proofs.Standing.{other_start, shows_holds}
use Rattle.pattern_match.proofs.matcher.may_hold.Goals as goal

pub returns-clause-outside : goal.returns-clause-outside
returns-clause-outside c = λ e.
    sym (shows_holds c.args.pattern.now.tree c.args.text.now false
    (other_start c.args.pattern.now.tree c.args.text.now c.start-start.result.now
    c.start-start.ensures (sym c.begins_with.ensures.value ∙ e)))
