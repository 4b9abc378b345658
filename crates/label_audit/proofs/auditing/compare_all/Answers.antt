use Rattle.std.proofs.Common.{◌∙◌, ap, append-nil, []}
use Rattle.relabel_core.specs.Walked.{walk_of}
use Rattle.label_audit.specs.Compared.{next_behind, behind_of}
use Rattle.label_audit.specs.Pieces.{dump_pieces, entry_pieces, operand_pieces, spec_pieces}
use Rattle.label_audit.proofs.CompareLemmas.{three_compared}
use Rattle.label_audit.proofs.auditing.compare_all.Goals as goal

pub returns-clause-report : goal.returns-clause-report
returns-clause-report c =
    let w = walk_of c.args.input.now in
    three_compared _ _ _ (next_behind c.args.audit.now.report.file)
    (operand_pieces w c.args.input.now.operands.now c.args.input.now.chosen.now.absent)
    (entry_pieces w) (spec_pieces w)
    c.in_ok-compare_operands.ensures c.in_ok-audit_entries.ensures.report
    c.in_ok-compare_specs.ensures

pub returns-clause-dump : goal.returns-clause-dump
returns-clause-dump c =
    c.in_ok-audit_entries.ensures.dump [] ∙ ap (behind_of c.args.audit.now.dump)
    (append-nil (dump_pieces (walk_of c.args.input.now)))
