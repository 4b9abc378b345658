use Rattle.std.proofs.Common.{◌≡◌, ◌+◌, ◌*◌, ◌<◌, ◌==◌, ℕ, length}
use Rattle.std.specs.Prelude.{◌||◌, ◌&&◌}
use Rattle.std.specs.Int.{bit_at}
use Rattle.pattern_match.specs.States.{bit}
use Rattle.pattern_match.specs.Tables.{any_bit}
use Rattle.pattern_match.proofs.bits.add_marked.Given as goal

abbrev pub invariant-marks : goal.invariant-marks
invariant-marks l =
    (length l.to ≡ length l.fn.to)
    × ((j : ℕ) → bit_at l.left j ≡ 1 → bit_at l.word j ≡ 1)
    × ((k : ℕ) → k < 64 * length l.fn.to
    → (bit l.to k || any_bit
    (λ j. (bit_at l.left j == 1) && bit l.table
    (64 * ((64 * l.i + j) * length l.fn.to) + k)))
    ≡ (bit l.fn.to k || any_bit
    (λ j. (bit_at l.word j == 1) && bit l.table
    (64 * ((64 * l.i + j) * length l.fn.to) + k))))

abbrev pub decreases-marks : goal.decreases-marks
decreases-marks l = l.left
