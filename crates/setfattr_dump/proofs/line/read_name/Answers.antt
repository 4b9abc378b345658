use Rattle.label_base.specs.Answers.{fault_cause}
use Rattle.setfattr_dump.proofs.LineLemmas.{spelled_by, without_escapes}
use Rattle.setfattr_dump.proofs.line.read_name.Goals as goal

pub returns-in-None : goal.returns-in-None
returns-in-None c =
    let plain = c.cut_at.result.0.now in
    let none = rw c.in-None.is at c.cut_at.ensures.behind in
    spelled_by fault_cause c.read_slashed.result c.args.name.now plain
    (without_escapes c.args.name.now plain c.cut_at.ensures.front none) c.read_slashed.ensures
