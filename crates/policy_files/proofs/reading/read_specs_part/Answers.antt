use Rattle.policy_files.specs.Files.{part_specs}
use Rattle.run_input.proofs.ReadsLemmas.{ended, opened_one, refused}
use Rattle.policy_files.proofs.reading.read_specs_part.Goals as goal

pub returns-in_err-bytes-clause-read : goal.returns-in_err-bytes-clause-read
unfolding part_specs
returns-in_err-bytes-clause-read g c =
    let part = c.in_err-bytes.ensures in
    refused _ _ _ _ _ _ _ _ _ _ c.from_residual.ensures.1
    (opened_one _ _ _ _ _ _ _ _ part.files part.writes part.answer part.calls part.counts
    part.kinds)

pub returns-clause-read : goal.returns-clause-read
unfolding part_specs
returns-clause-read g c =
    let part = c.in_ok-bytes.ensures in
    let made = c.specs_in.ensures in
    ended _ _ _ _ _ _ _ _ _ _
    (opened_one _ _ _ _ _ _ _ _ part.files part.writes part.answer part.calls part.counts
    part.kinds) (λ fs. made.answer) made.counts made.kinds
