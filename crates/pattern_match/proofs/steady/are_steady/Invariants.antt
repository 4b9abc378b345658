use Rattle.std.proofs.Common.{◌≡◌, ◌+◌, ◌*◌, ◌<◌, ℕ, true}
use Rattle.pattern_match.specs.States.{bit}
use Rattle.pattern_match.specs.Loops.{IsSteady}
use Rattle.pattern_match.proofs.steady.are_steady.Given as goal

abbrev pub invariant-loop-i : goal.invariant-loop-i
invariant-loop-i l = (k : ℕ) → k < l.i → (j : ℕ) → j < 64 → bit l.marks (64 * k + j) ≡ true
    → IsSteady l.marks l.follow l.classes (64 * k + j)
