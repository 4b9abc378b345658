use Rattle.std.proofs.Common.{refl}
use Rattle.path_reasons.specs.Policy.{policy_lines}
use Rattle.run_input.proofs.ReadsLemmas.{followed, refused, valued}
use Rattle.path_reasons.proofs.policy.read_policy_lines.Goals as goal

pub returns-in_err-specs : goal.returns-in_err-specs
unfolding policy_lines
returns-in_err-specs g c =
    refused _ _ _ _ _ _ _ _ _ _ c.from_residual.ensures.1 c.in_err-specs.ensures.read

pub returns-in_err-first : goal.returns-in_err-first
unfolding policy_lines
returns-in_err-first g c =
    followed _ _ _ _ _ _ _ _ _ _ _ c.in_ok-specs.ensures.read
    (refused _ _ _ _ _ _ _ _ _ _ c.from_residual-in_err-first.ensures.1
    c.in_err-first.ensures)

pub returns : goal.returns
unfolding policy_lines
returns g c =
    followed _ _ _ _ _ _ _ _ _ _ _ c.in_ok-specs.ensures.read
    (valued _ _ _ _ _ _ _ _ _ _ c.in_ok-first.ensures (λ fs. refl))
