use Rattle.std.proofs.Common.{◌≡◌, drop}
use Rattle.walk_steps.specs.Machine.{run_from, steps_from, state_of}
use Rattle.walk_steps.proofs.runs.end_of.Given as goal

abbrev pub invariant-steps : goal.invariant-steps
invariant-steps l = run_from l.shape (state_of l.machine) l.index (drop l.index l.steps)
    ≡ steps_from l.fn.shape l.fn.workers l.fn.steps
