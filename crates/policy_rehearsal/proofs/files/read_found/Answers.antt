use Rattle.policy_rehearsal.specs.Files.{rules_read}
use Rattle.run_input.proofs.ReadsLemmas.{ended, followed, opened_one, refused}
use Rattle.policy_rehearsal.proofs.files.read_found.Goals as goal

pub returns-in_err-policies : goal.returns-in_err-policies
unfolding rules_read
returns-in_err-policies g c =
    refused _ _ _ _ _ _ _ _ _ _ c.from_residual.ensures.1 c.in_err-policies.ensures

pub returns-in_err-bytes : goal.returns-in_err-bytes
unfolding rules_read
returns-in_err-bytes g c =
    let part = c.in_err-bytes.ensures in
    followed _ _ _ _ _ _ _ _ _ _ _ c.in_ok-policies.ensures
    (refused _ _ _ _ _ _ _ _ _ _ c.from_residual-in_err-bytes.ensures.1
    (opened_one _ _ _ _ _ _ _ _ part.files part.writes part.answer part.calls part.counts
    part.kinds))

pub returns : goal.returns
unfolding rules_read
returns g c =
    let part = c.in_ok-bytes.ensures in
    let made = c.rules_with.ensures in
    followed _ _ _ _ _ _ _ _ _ _ _ c.in_ok-policies.ensures
    (ended _ _ _ _ _ _ _ _ _ _
    (opened_one _ _ _ _ _ _ _ _ part.files part.writes part.answer part.calls part.counts
    part.kinds) (λ fs. made.answer) made.counts made.kinds)
