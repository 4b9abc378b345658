use Rattle.std.proofs.Common.{arith}
use Rattle.pattern_match.specs.Operations.{operations_tree}
use Rattle.pattern_match.proofs.SettledOver.{leads_row}
use Rattle.pattern_match.proofs.settling.leads_to_marks.Goals as goal

pub returns-clause-value : goal.returns-clause-value
returns-clause-value c = leads_row (operations_tree c.args.operations.now) c.args.marks.now
    c.follow_alone.new.row c.args.p c.is_row.result (omega arith) c.follow_alone.ensures.bits
    c.is_row.ensures
