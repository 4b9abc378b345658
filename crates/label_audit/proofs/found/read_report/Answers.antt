use Rattle.run_input.proofs.ReadsLemmas.{opened_one}
use Rattle.label_audit.proofs.found.read_report.Goals as goal

pub returns : goal.returns
returns g c =
    let part = c.read_part.ensures in
    opened_one _ _ _ _ _ _ _ _ part.files part.writes part.answer part.calls part.counts part.kinds
