use Rattle.std.proofs.Common.{refl}
use Rattle.path_reasons.specs.Policy.{both_sub_lines}
use Rattle.run_input.proofs.ReadsLemmas.{followed, refused, valued}
use Rattle.path_reasons.proofs.policy.read_both.Goals as goal

pub returns-in_err-first : goal.returns-in_err-first
unfolding both_sub_lines
returns-in_err-first g c = refused _ _ _ _ _ _ _ _ _ _ c.from_residual.ensures.1
    c.in_err-first.ensures

pub returns-in_err-second : goal.returns-in_err-second
unfolding both_sub_lines
returns-in_err-second g c =
    followed _ _ _ _ _ _ _ _ _ _ _ c.in_ok-first.ensures
    (refused _ _ _ _ _ _ _ _ _ _ c.from_residual-in_err-second.ensures.1
    c.in_err-second.ensures)

pub returns : goal.returns
unfolding both_sub_lines
returns g c =
    followed _ _ _ _ _ _ _ _ _ _ _ c.in_ok-first.ensures
    (valued _ _ _ _ _ _ _ _ _ _ c.in_ok-second.ensures (λ fs. refl))
