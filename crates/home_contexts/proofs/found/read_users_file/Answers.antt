use Rattle.home_contexts.specs.Found.{users_found}
use Rattle.run_input.proofs.ReadsLemmas.{ended, opened_one, refused}
use Rattle.home_contexts.proofs.found.read_users_file.Goals as goal

pub returns-in_err-bytes : goal.returns-in_err-bytes
unfolding users_found
returns-in_err-bytes g c =
    let part = c.in_err-bytes.ensures in
    refused _ _ _ _ _ _ _ _ _ _ c.from_residual.ensures.1
    (opened_one _ _ _ _ _ _ _ _ part.files part.writes part.answer part.calls part.counts
    part.kinds)

pub returns : goal.returns
unfolding users_found
returns g c =
    let part = c.in_ok-bytes.ensures in
    let made = c.users_in.ensures in
    ended _ _ _ _ _ _ _ _ _ _
    (opened_one _ _ _ _ _ _ _ _ part.files part.writes part.answer part.calls part.counts
    part.kinds) (λ fs. made.answer) made.counts made.kinds
