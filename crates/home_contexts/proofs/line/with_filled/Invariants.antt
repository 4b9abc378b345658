use Rattle.std.proofs.Common.{◌≡◌, ◌+◌, length, min}
use Rattle.home_contexts.specs.Words.{filled}
use Rattle.home_contexts.proofs.line.with_filled.Given as goal

abbrev pub invariant-pieces : goal.invariant-pieces
invariant-pieces l = min 67108865 (l.length + length (filled l.in_pattern l.user l.left)) ≡ min
    67108865 (l.fn.so_far + length (filled l.in_pattern l.user l.field))

abbrev pub decreases-pieces : goal.decreases-pieces
decreases-pieces l = length l.left
