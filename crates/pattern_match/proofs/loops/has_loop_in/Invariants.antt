use Rattle.std.proofs.Common.{◌≡◌, ◌+◌, ◌*◌, ◌<◌, ℕ, true}
use Rattle.std.specs.Int.{bit_at}
use Rattle.pattern_match.specs.Loops.{EndsBeforeLoop}
use Rattle.pattern_match.specs.States.{bit}
use Rattle.pattern_match.proofs.loops.has_loop_in.Given as goal

abbrev pub invariant-states : goal.invariant-states
invariant-states l = record {
  shared : (j : ℕ) → j < 64 → bit_at l.left j ≡ 1 → (bit l.marks (64 * l.i + j) ≡ true)
      × (bit l.accept (64 * l.i + j) ≡ true);
  unseen : (j : ℕ) → j < 64 → EndsBeforeLoop l.marks l.accept l.follow l.classes (64 * l.i + j)
      → bit_at l.left j ≡ 1;
}

abbrev pub decreases-states : goal.decreases-states
decreases-states l = l.left
