use Rattle.relabel_core.specs.Answer.{walk_in}
use Rattle.relabel_core.specs.Walk.{absent_lines, entry_lines, unmatched_lines}
use Rattle.relabel_core.proofs.ReportLemmas.{all_written}
use Rattle.relabel_core.proofs.walked.Walked.add_report.Goals as goal

pub returns : goal.returns
returns c =
    let w = walk_in c.args.self.now in
    all_written (absent_lines w) (entry_lines w) (unmatched_lines w) c.args.to.now
    c.add_absent.new.to c.add_entries.new.to c.add_unmatched.new.to
    c.in_ok-add_absent.ensures c.in_ok-add_entries.ensures c.in_ok-add_unmatched.ensures
