use Rattle.std.proofs.Common.{◌≡◌, ◌++◌, drop}
use Rattle.pattern_match.specs.Automaton.{up}
use Rattle.pattern_match.proofs.fragment.counted_up.Given as goal

abbrev pub invariant-loop-number : goal.invariant-loop-number
invariant-loop-number l = l.counted.items ++ up l.by (drop l.number-index l.numbers)
    ≡ up l.by l.numbers
