use Rattle.std.proofs.Common.{◌≡◌, ◌+◌, ◌*◌, ◌<◌, ◌⊎◌, ℕ, true}
use Rattle.std.specs.Int.{bit_at}
use Rattle.pattern_match.specs.States.{bit}
use Rattle.pattern_match.specs.Loops.{IsSteady}
use Rattle.pattern_match.proofs.steady.are_steady_in.Given as goal

abbrev pub invariant-states : goal.invariant-states
invariant-states l = record {
  marked : (j : ℕ) → j < 64 → bit_at l.left j ≡ 1 → bit l.marks (64 * l.i + j) ≡ true;
  steady : (j : ℕ) → j < 64 → bit l.marks (64 * l.i + j) ≡ true
      → (bit_at l.left j ≡ 1) ⊎ IsSteady l.marks l.follow l.classes (64 * l.i + j);
}

abbrev pub decreases-states : goal.decreases-states
decreases-states l = l.left
