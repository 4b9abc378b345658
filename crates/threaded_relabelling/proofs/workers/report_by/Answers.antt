use Rattle.std.proofs.Common.{◌∙◌, ap, [], ◌++◌}
use Rattle.report_text.specs.Texts.{report_of}
use Rattle.relabel_core.specs.Answer.{walk_in}
use Rattle.relabel_core.specs.Walk.{absent_lines, entry_lines, unmatched_lines}
use Rattle.relabel_core.proofs.ReportLemmas.{all_written}
use Rattle.threaded_relabelling.proofs.workers.report_by.Goals as goal

pub returns : goal.returns
returns g c =
    let w = walk_in c.args.walked.now in
    all_written (absent_lines w) (entry_lines w) (unmatched_lines w) [] c.in_ok-before.before
    c.in_ok-report.report c.push.new.self
    (c.in_ok-before.ensures ∙ c.in_ok-add_absent.ensures
    ∙ ap (λ t. t ++ report_of (absent_lines w)) c.new-absent.ensures)
    c.in_ok-report.ensures
    (c.in_ok-push.ensures.ok ∙ ap (λ t. c.in_ok-report.report ++ t)
    (c.in_ok-add_unmatched.ensures ∙ ap (λ t. t ++ report_of (unmatched_lines w))
    c.new-unmatched.ensures))
