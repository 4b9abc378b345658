use Rattle.relabel_core.proofs.ReportLemmas.{none_written}
use Rattle.relabel_core.proofs.report.add_absent.Goals as goal

pub returns-then-input : goal.returns-then-input
returns-then-input c = rw (c.if-input.true) (none_written c.args.to.now)
