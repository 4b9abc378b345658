use Rattle.find_records.specs.declared.format.Format.TheVariants.{One}
use Rattle.tool_tests.proofs.label_audit_tests.tree.Goals as goal

pub returns : goal.returns
returns c = c.in_ok-new.ensures.of_format One c.in_ok-records.ensures.of_format
