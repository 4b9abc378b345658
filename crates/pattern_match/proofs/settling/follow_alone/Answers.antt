use Rattle.std.proofs.Common.{◌∙◌}
use Rattle.pattern_match.specs.Over.{operation_places}
use Rattle.pattern_match.proofs.SettledOver.{follows_alone}
use Rattle.pattern_match.proofs.settling.follow_alone.Goals as goal

pub returns-clause-bits : goal.returns-clause-bits
returns-clause-bits c =
    λ q. c.go_over.ensures.bits q
    ∙ follows_alone (operation_places c.args.operations.now) c.args.entry c.mark_alone.new.alone
    c.args.p c.mark_alone.ensures.bits q
