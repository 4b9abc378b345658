use Rattle.std.proofs.Common.{refl}
use Rattle.policy_files.specs.Rules.{rules_for}
use Rattle.run_input.proofs.ReadsLemmas.{followed, refused, valued}
use Rattle.policy_files.proofs.rules.read_rules.Goals as goal

pub returns-in_err-rules : goal.returns-in_err-rules
unfolding rules_for
returns-in_err-rules g c =
    refused _ _ _ _ _ _ _ _ _ _ c.from_residual.ensures.1 c.in_err-rules.ensures

pub returns-in_err-subs : goal.returns-in_err-subs
unfolding rules_for
returns-in_err-subs g c =
    followed _ _ _ _ _ _ _ _ _ _ _ c.in_ok-rules.ensures
    (refused _ _ _ _ _ _ _ _ _ _ c.from_residual-in_err-subs.ensures.1
    c.in_err-subs.ensures)

pub returns : goal.returns
unfolding rules_for
returns g c =
    followed _ _ _ _ _ _ _ _ _ _ _ c.in_ok-rules.ensures
    (valued _ _ _ _ _ _ _ _ _ _ c.in_ok-subs.ensures (λ fs. refl))
