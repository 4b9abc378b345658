use Rattle.std.proofs.Common.{◌≡◌, ◌++◌, length}
use Rattle.home_contexts.specs.Words.{filled}
use Rattle.home_contexts.proofs.line.add_filled.Given as goal

abbrev pub invariant-pieces : goal.invariant-pieces
invariant-pieces l = l.to ++ filled l.in_pattern l.user l.left ≡ l.fn.to ++ filled l.in_pattern
    l.user l.field

abbrev pub decreases-pieces : goal.decreases-pieces
decreases-pieces l = length l.left
