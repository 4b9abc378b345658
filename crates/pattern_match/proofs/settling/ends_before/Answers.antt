use Rattle.pattern_match.specs.Operations.{operations_tree}
use Rattle.pattern_match.proofs.SettledOver.{end_leads}
use Rattle.pattern_match.proofs.settling.ends_before.Goals as goal

pub returns-clause-value : goal.returns-clause-value
returns-clause-value c = end_leads (operations_tree c.args.operations.now) c.args.p c.args.q
    c.follow_alone.new.row c.is_end.result c.has_bit.result c.is_end.ensures.value
    c.if-not-is_end.false c.has_bit.ensures c.follow_alone.ensures.bits
