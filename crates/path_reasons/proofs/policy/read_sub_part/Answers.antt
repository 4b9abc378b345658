use Rattle.path_reasons.specs.Policy.{part_sub_lines}
use Rattle.run_input.proofs.ReadsLemmas.{ended, opened_one, refused}
use Rattle.path_reasons.proofs.policy.read_sub_part.Goals as goal

pub returns-in_err-bytes : goal.returns-in_err-bytes
unfolding part_sub_lines
returns-in_err-bytes g c =
    let part = c.in_err-bytes.ensures in
    refused _ _ _ _ _ _ _ _ _ _ c.from_residual.ensures.1
    (opened_one _ _ _ _ _ _ _ _ part.files part.writes part.answer part.calls part.counts
    part.kinds)

pub returns : goal.returns
unfolding part_sub_lines
returns g c =
    let part = c.in_ok-bytes.ensures in
    let made = c.sub_lines_in.ensures in
    ended _ _ _ _ _ _ _ _ _ _
    (opened_one _ _ _ _ _ _ _ _ part.files part.writes part.answer part.calls part.counts
    part.kinds) (λ fs. made.answer) made.counts made.kinds
