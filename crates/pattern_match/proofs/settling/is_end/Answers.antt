use Rattle.std.proofs.Common.{◌∙◌}
use Rattle.pattern_match.specs.Over.{operation_places}
use Rattle.pattern_match.proofs.SettledOver.{ends_alone}
use Rattle.pattern_match.proofs.settling.is_end.Goals as goal

pub returns-clause-value : goal.returns-clause-value
returns-clause-value c =
    c.ends_over.ensures
    ∙ ends_alone (operation_places c.args.operations.now) c.mark_alone.new.alone c.args.p
    c.mark_alone.ensures.bits
