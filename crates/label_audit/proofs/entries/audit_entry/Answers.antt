use Rattle.relabel_core.specs.Walked.{walk_of}
use Rattle.label_audit.proofs.AheadLemmas.{ahead_on}
use Rattle.label_audit.proofs.entries.audit_entry.Goals as goal

pub returns-clause-ahead : goal.returns-clause-ahead
returns-clause-ahead c =
    ahead_on (walk_of c.args.input.now) c.args.at.entry c.compare_section.new.audit.ahead
    c.in_ok-compare_section.ensures.ahead
