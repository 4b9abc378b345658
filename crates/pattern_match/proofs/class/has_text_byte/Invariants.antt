use Rattle.std.proofs.Common.{◌≡◌, ℕ, ◌<◌, false}
use Rattle.pattern_syntax.specs.ByteSet.{has_byte}
use Rattle.pattern_match.proofs.class.has_text_byte.Given as goal

abbrev pub invariant-loop-b : goal.invariant-loop-b
invariant-loop-b l = (k : ℕ) → 0 < k → k < l.b → has_byte l.set k ≡ false
