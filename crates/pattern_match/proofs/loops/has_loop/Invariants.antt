use Rattle.std.proofs.Common.{◌+◌, ◌*◌, ◌<◌, ℕ}
use Rattle.pattern_match.specs.Loops.{EndsBeforeLoop}
use Rattle.pattern_match.proofs.loops.has_loop.Given as goal

abbrev pub invariant-loop-i : goal.invariant-loop-i
invariant-loop-i l = (k : ℕ) → k < l.i → (j : ℕ) → j < 64 → EndsBeforeLoop l.marks l.accept l.follow
    l.classes (64 * k + j) → ⊥
