use Rattle.std.proofs.Common.{◌∙◌, ap, ◌++◌, arith}
use Rattle.report_text.specs.Message.{Absent}
use Rattle.report_text.specs.Texts.{message_line}
use Rattle.relabel_core.proofs.ReportLemmas.{absent_end, absent_next}
use Rattle.relabel_core.proofs.report.add_absent_of.Goals as goal

pub operands-preserved : goal.operands-preserved
operands-preserved c =
    absent_next c.args.operands.now c.args.indices.now c.operands.i-index c.operands.to
    c.add_line.new.text _
    (omega (arith, c.operands-test.true)) c.operands.invariant
    (c.in_ok-add_line.ensures ∙ ap (λ path. c.operands.to ++ message_line (Absent path))
    c.operand_at.ensures)

pub returns : goal.returns
returns c = absent_end c.args.operands.now c.args.indices.now c.operands.i-index c.operands.to _
    (omega (arith, c.operands-test.false)) c.operands.invariant
