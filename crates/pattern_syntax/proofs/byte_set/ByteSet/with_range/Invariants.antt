use Rattle.std.proofs.Common.{◌≡◌, ◌||◌, ◌&&◌, ◌≤◌, ◌+◌, ℕ, max}
use Rattle.std.specs.Prelude.{nat_le, nat_lt}
use Rattle.pattern_syntax.specs.ByteSet.{has_byte}
use Rattle.pattern_syntax.proofs.byte_set.ByteSet.with_range.Given as goal

abbrev pub invariant-loop-b : goal.invariant-loop-b
invariant-loop-b l = record {
  bytes : (c : ℕ) → has_byte l.set c ≡ (has_byte l.self c || (nat_le l.low c && nat_lt c l.b));
  bound : l.b ≤ max l.low (l.high + 1);
}
