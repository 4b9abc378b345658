use Rattle.std.proofs.Common.{arith}
use Rattle.policy_rehearsal.proofs.TextLemmas.{lines_end, lines_next}
use Rattle.policy_rehearsal.proofs.texts.add_changes.Goals as goal

pub changes-preserved : goal.changes-preserved
changes-preserved c =
    lines_next c.args.tree.now c.args.changes.now c.changes.change-index c.change-item.result
    c.changes.text c.add_change.new.text _
    c.changes-test.true c.change-item.is c.changes.invariant c.in_ok-add_change.ensures

pub returns : goal.returns
returns c =
    lines_end c.args.tree.now c.args.changes.now c.changes.change-index c.changes.text _
    (omega (arith, c.changes-test.false)) c.changes.invariant
