use Rattle.std.proofs.Common.{sym}
use Rattle.std.proofs.lemmas.Bool.{and_right}
use Rattle.label_base.specs.Kind.{applies}
use Rattle.pattern_syntax.specs.Language.{holds}
use Rattle.spec_match.proofs.answering.is_fit.Goals as goal

pub returns-then-not-may_hold-clause-value : goal.returns-then-not-may_hold-clause-value
returns-then-not-may_hold-clause-value c =
    sym (and_right (applies c.args.rule.now.spec.kind c.args.query.now.asked)
    (holds c.args.rule.now.spec.pattern c.args.query.now.text.now)
    (c.may_hold.ensures.outside c.if-not-may_hold.true))
