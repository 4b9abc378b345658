use Rattle.std.proofs.Common.{◌≡◌, ◌<◌, ◌+◌, ◌*◌, ℕ, length}
use Rattle.std.specs.Prelude.{◌&&◌}
use Rattle.pattern_match.specs.States.{bit}
use Rattle.pattern_match.specs.Tables.{any_under}
use Rattle.pattern_match.proofs.bits.gather.Given as goal

abbrev pub invariant-words : goal.invariant-words
invariant-words l = (length l.to ≡ length l.fn.to)
    × ((k : ℕ) → k < 64 * length l.fn.to
    → bit l.to k
    ≡ any_under (λ p. bit l.marks p && bit l.table (64 * (p * length l.fn.to) + k))
    (64 * l.i))
