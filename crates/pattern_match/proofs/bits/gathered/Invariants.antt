use Rattle.std.proofs.Common.{◌≡◌, ◌==◌, ℕ, get_or}
use Rattle.std.specs.Prelude.{◌||◌, ◌&&◌}
use Rattle.std.specs.Int.{bit_at}
use Rattle.pattern_match.specs.Tables.{any_bit}
use Rattle.pattern_match.proofs.bits.gathered.Given as goal

abbrev pub invariant-marks : goal.invariant-marks
invariant-marks l =
    ((j : ℕ) → bit_at l.left j ≡ 1 → bit_at l.marks j ≡ 1)
    × ((k : ℕ) → ((bit_at l.reached k == 1) || any_bit
    (λ j. (bit_at l.left j == 1) && (bit_at (get_or l.table j 0) k == 1)))
    ≡ any_bit (λ j. (bit_at l.marks j == 1) && (bit_at (get_or l.table j 0) k == 1)))

abbrev pub decreases-marks : goal.decreases-marks
decreases-marks l = l.left
