use Rattle.std.proofs.Common.{refl}
use Rattle.tree_relabelling.specs.Found.{found_for}
use Rattle.run_input.proofs.ReadsLemmas.{followed, refused, valued}
use Rattle.tree_relabelling.proofs.found.read_found.Goals as goal

pub returns-in_err-rules : goal.returns-in_err-rules
unfolding found_for
returns-in_err-rules g c =
    refused _ _ _ _ _ _ _ _ _ _ c.from_residual.ensures.1 c.in_err-rules.ensures

pub returns-in_err-stored : goal.returns-in_err-stored
unfolding found_for
returns-in_err-stored g c =
    followed _ _ _ _ _ _ _ _ _ _ _ c.in_ok-rules.ensures
    (refused _ _ _ _ _ _ _ _ _ _ c.from_residual-in_err-stored.ensures.1 c.in_err-stored.ensures)

pub returns : goal.returns
unfolding found_for
returns g c =
    followed _ _ _ _ _ _ _ _ _ _ _ c.in_ok-rules.ensures
    (valued _ _ _ _ _ _ _ _ _ _ c.in_ok-stored.ensures (λ fs. refl))
