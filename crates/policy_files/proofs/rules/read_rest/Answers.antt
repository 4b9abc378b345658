use Rattle.std.proofs.Common.{refl}
use Rattle.policy_files.specs.Rules.{rest_for}
use Rattle.run_input.proofs.ReadsLemmas.{followed, refused, valued}
use Rattle.policy_files.proofs.rules.read_rest.Goals as goal

pub returns-in_err-subs : goal.returns-in_err-subs
unfolding rest_for
returns-in_err-subs g c =
    refused _ _ _ _ _ _ _ _ _ _ c.from_residual.ensures.1 c.in_err-subs.ensures

pub returns-in_err-types : goal.returns-in_err-types
unfolding rest_for
returns-in_err-types g c =
    followed _ _ _ _ _ _ _ _ _ _ _ c.in_ok-subs.ensures
    (refused _ _ _ _ _ _ _ _ _ _ c.from_residual-in_err-types.ensures.1 c.in_err-types.ensures)

pub returns : goal.returns
unfolding rest_for
returns g c =
    followed _ _ _ _ _ _ _ _ _ _ _ c.in_ok-subs.ensures
    (valued _ _ _ _ _ _ _ _ _ _ c.in_ok-types.ensures (λ fs. refl))
