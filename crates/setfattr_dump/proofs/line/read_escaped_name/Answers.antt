use Rattle.label_base.specs.Answers.{fault_cause}
use Rattle.setfattr_dump.proofs.LineLemmas.{bad_escape, spelled_by}
use Rattle.setfattr_dump.proofs.line.read_escaped_name.Goals as goal

pub returns-in-Ok : goal.returns-in-Ok
returns-in-Ok c = spelled_by fault_cause c.read_slashed.result c.args.name.now c.in-Ok.bytes
    c.in-Ok.ensures (rw c.as_slice.ensures at c.read_slashed.ensures)

pub returns-in-Err-BadEscape : goal.returns-in-Err-BadEscape
returns-in-Err-BadEscape c =
    bad_escape c.args.name.now (rw c.in-Err-BadEscape.field-0-is at c.in-Err-BadEscape.ensures)
