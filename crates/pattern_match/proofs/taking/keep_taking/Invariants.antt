use Rattle.std.proofs.Common.{◌≡◌, ◌<◌, ◌+◌, ◌*◌, ◌==◌, ℕ, length, get_or}
use Rattle.std.specs.Prelude.{◌&&◌}
use Rattle.std.specs.Int.{bit_at}
use Rattle.pattern_match.specs.Class.{takes_at}
use Rattle.pattern_match.proofs.taking.keep_taking.Given as goal

abbrev pub invariant-words : goal.invariant-words
invariant-words l = (length l.to ≡ length l.fn.to)
    × ((i : ℕ) → i < l.i → (k : ℕ) → k < 64 → (bit_at (get_or l.to i 0) k == 1)
    ≡ ((bit_at (get_or l.from i 0) k == 1) && takes_at l.classes (64 * i + k) l.b))
