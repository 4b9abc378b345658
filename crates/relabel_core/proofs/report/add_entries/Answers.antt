use Rattle.std.proofs.Common.{refl}
use Rattle.relabel_core.specs.Answer.{walk_in}
use Rattle.relabel_core.specs.Walk.{line}
use Rattle.relabel_core.proofs.ReportLemmas.{line_written, none_written}
use Rattle.relabel_core.proofs.report.add_entries.Goals as goal

pub entries-init : goal.entries-init
entries-init c = none_written c.args.to.now

pub entries-preserved : goal.entries-preserved
entries-preserved c =
    line_written (line (walk_in c.args.walked.now)) c.entries.e c.args.to.now c.entries.to
    c.add_entry.new.to _ c.entries.invariant refl c.in_ok-add_entry.ensures
