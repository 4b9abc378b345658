use Rattle.std.proofs.Common.{◌≡◌, ◌<◌, ◌+◌, ◌==◌, ℕ}
use Rattle.std.specs.Prelude.{◌||◌, ◌&&◌}
use Rattle.std.specs.Int.{bit_at}
use Rattle.pattern_match.specs.Class.{takes_at}
use Rattle.pattern_match.proofs.taking.taking.Given as goal

abbrev pub invariant-bits : goal.invariant-bits
invariant-bits l = (k : ℕ) → k < 64
    → ((bit_at l.kept k == 1) || ((bit_at l.left k == 1) && takes_at l.classes (l.start + k) l.b))
    ≡ ((bit_at l.word k == 1) && takes_at l.classes (l.start + k) l.b)

abbrev pub decreases-bits : goal.decreases-bits
decreases-bits l = l.left
