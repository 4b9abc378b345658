use Rattle.std.proofs.Common.{◌≡◌, ◌+◌, ◌<◌, ◌≤◌, ℕ, length, get_or}
use Rattle.std.specs.Prelude.{bit_or}
use Rattle.pattern_match.proofs.bits.add_row.Given as goal

abbrev pub invariant-loop-i : goal.invariant-loop-i
invariant-loop-i l = (length l.to ≡ length l.fn.to)
    × ((k : ℕ) → k < l.i → get_or l.to k 0 ≡ bit_or (get_or l.fn.to k 0)
    (get_or l.table (l.start + k) 0))
    × ((k : ℕ) → l.i ≤ k → get_or l.to k 0 ≡ get_or l.fn.to k 0)
