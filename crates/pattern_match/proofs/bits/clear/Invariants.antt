use Rattle.std.proofs.Common.{◌≡◌, ◌<◌, ℕ, length, get_or}
use Rattle.pattern_match.proofs.bits.clear.Given as goal

abbrev pub invariant-loop-i : goal.invariant-loop-i
invariant-loop-i l = (length l.words ≡ length l.fn.words)
    × ((k : ℕ) → k < l.i → get_or l.words k 0 ≡ 0)
