use Rattle.std.proofs.Common.{◌≡◌}
use Rattle.pattern_syntax.specs.ByteSet.{has_byte, bytes_from}
use Rattle.pattern_syntax.proofs.byte_set.ByteSet.first_from.Given as goal

abbrev pub invariant-loop-b : goal.invariant-loop-b
invariant-loop-b l = bytes_from (has_byte l.self) l.low ≡ bytes_from (has_byte l.self) l.b
