use Rattle.std.proofs.Common.{◌∙◌, ap, ◌++◌, length}
use Rattle.relabel_core.specs.Answer.{walk_in}
use Rattle.relabel_core.specs.Report.{text_below, unflagged_line}
use Rattle.relabel_core.proofs.ReportLemmas.{none_written, unmatched_text}
use Rattle.relabel_core.proofs.walked.Walked.add_unmatched.Goals as goal

pub returns-then-not-self : goal.returns-then-not-self
returns-then-not-self c = rw (c.if-not-self.true) (none_written c.args.to.now)

pub returns : goal.returns
returns c =
    let w = walk_in c.args.self.now in
    c.in_ok-add_unflagged.ensures ∙ ap (λ t. c.args.to.now ++ t) (
    ap (λ flags. text_below (unflagged_line w.rules flags) (length w.rules.rules))
    c.as_slice.ensures.value
    ∙ unmatched_text w c.in_ok-flags.flags.items c.if-not-self.false c.in_ok-flags.ensures)
