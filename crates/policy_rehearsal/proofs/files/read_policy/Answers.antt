use Rattle.std.proofs.Common.{refl}
use Rattle.run_input.proofs.ReadsLemmas.{followed, refused, valued}
use Rattle.policy_rehearsal.specs.Files.{policy_for}
use Rattle.policy_rehearsal.proofs.files.read_policy.Goals as goal

pub returns-in_err-specs : goal.returns-in_err-specs
unfolding policy_for
returns-in_err-specs g c =
    refused _ _ _ _ _ _ _ _ _ _ c.from_residual.ensures.1 c.in_err-specs.ensures

pub returns-in_err-subs : goal.returns-in_err-subs
unfolding policy_for
returns-in_err-subs g c =
    followed _ _ _ _ _ _ _ _ _ _ _ c.in_ok-specs.ensures
    (refused _ _ _ _ _ _ _ _ _ _ c.from_residual-in_err-subs.ensures.1 c.in_err-subs.ensures)

pub returns : goal.returns
unfolding policy_for
returns g c =
    followed _ _ _ _ _ _ _ _ _ _ _ c.in_ok-specs.ensures
    (valued _ _ _ _ _ _ _ _ _ _ c.in_ok-subs.ensures (λ fs. refl))
