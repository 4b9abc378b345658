use Rattle.std.proofs.Common.{refl}
use Rattle.run_input.proofs.ReadsLemmas.{opened_one, refused, valued}
use Rattle.label_audit.specs.Found.{given_dump}
use Rattle.label_audit.proofs.found.read_output.Goals as goal

pub returns-in_err-bytes : goal.returns-in_err-bytes
unfolding given_dump
returns-in_err-bytes g c =
    let part = c.in_err-bytes.ensures in
    refused _ _ _ _ _ _ _ _ _ _ c.from_residual.ensures.1
    (opened_one _ _ _ _ _ _ _ _ part.files part.writes part.answer part.calls part.counts
    part.kinds)

pub returns : goal.returns
unfolding given_dump
returns g c =
    let part = c.in_ok-bytes.ensures in
    valued _ _ _ _ _ _ _ _ _ _
    (opened_one _ _ _ _ _ _ _ _ part.files part.writes part.answer part.calls part.counts
    part.kinds) (λ fs. refl)
