-- One step more of a run.
use Rattle.std.proofs.Common.{◌≡◌, ℕ, suc, ◌<◌, true, false, cond, List, ◌∷◌, drop, get_or, length}
use Rattle.std.proofs.Common.{ap, ◌∙◌, Err}
use Rattle.std.proofs.Math.Seq.{drop-cons}
use Rattle.walk_steps.specs.declared.machine.WalkState.{WalkState}
use Rattle.walk_steps.specs.declared.shape.Shape.{Shape}
use Rattle.walk_steps.specs.declared.steps.Step.{Step}
use Rattle.walk_steps.specs.Machine.{is_allowed, step_after, run_from}

module _ (shape : Shape) (state : WalkState) (steps : List Step) (index : ℕ) (other : Step)
    (within : index < length steps) where
  split : run_from shape state index (drop index steps) ≡ run_from shape state index
      (get_or steps index other ∷ drop (suc index) steps)
  split = ap (run_from shape state index) (drop-cons steps index other within)

  pub allowed_goes_on : is_allowed shape state (get_or steps index other) ≡ true
      → run_from shape state index (drop index steps) ≡ run_from shape
      (step_after shape state (get_or steps index other)) (suc index) (drop (suc index) steps)
  allowed_goes_on e =
      split ∙ ap (λ b. cond b (run_from shape (step_after shape state (get_or steps index other))
      (suc index) (drop (suc index) steps)) (Err index)) e

  pub refused_ends : is_allowed shape state (get_or steps index other) ≡ false
      → run_from shape state index (drop index steps) ≡ Err index
  refused_ends e =
      split ∙ ap (λ b. cond b (run_from shape (step_after shape state (get_or steps index other))
      (suc index) (drop (suc index) steps)) (Err index)) e
