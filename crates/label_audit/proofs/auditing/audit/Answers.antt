use Rattle.std.proofs.Common.{◌∙◌, ap₂}
use Rattle.relabel_core.specs.Walked.{walk_of}
use Rattle.label_audit.specs.Finding.{finding_by, finding_of}
use Rattle.label_audit.specs.Pieces.{dump_pieces, report_pieces}
use Rattle.label_audit.proofs.auditing.audit.Goals as goal

pub returns : goal.returns
unfolding finding_of
returns c =
    let w = walk_of c.args.input.now in
    c.finding_by.ensures
    ∙ ap₂ finding_by
    (c.end.ensures ∙ c.in_ok-compare_all.ensures.report
    ∙ c.in_ok-audit.ensures.report_is
    (report_pieces w c.args.input.now.operands.now c.args.input.now.chosen.now.absent))
    (c.end_of.ensures ∙ c.in_ok-compare_all.ensures.dump
    ∙ c.in_ok-audit.ensures.dump_is (dump_pieces w))
