use Rattle.relabel_core.specs.Report.{unflagged_line}
use Rattle.relabel_core.proofs.ReportLemmas.{line_written, none_written}
use Rattle.relabel_core.proofs.report.add_unflagged.Goals as goal

pub specs-init : goal.specs-init
specs-init c = none_written c.args.to.now

pub specs-preserved : goal.specs-preserved
specs-preserved c =
    line_written (unflagged_line c.args.rules.now c.args.flags.now) c.specs.i c.args.to.now
    c.specs.to c.add_message.new.to _ c.specs.invariant
    c.unflagged_line.ensures c.in_ok-add_message.ensures
