use Rattle.std.proofs.Common.{◌+◌, ◌*◌, ◌<◌, ℕ}
use Rattle.pattern_match.specs.Loops.{IsLoopIn}
use Rattle.pattern_match.proofs.loops.leads_to_loop.Given as goal

abbrev pub invariant-loop-i : goal.invariant-loop-i
invariant-loop-i l = (k : ℕ) → k < l.i → (j : ℕ) → j < 64 → IsLoopIn l.accept l.follow l.classes
    l.start (64 * k + j) → ⊥
