use Rattle.std.proofs.Common.{◌≡◌, ◌++◌, take, drop}
use Rattle.pattern_match.specs.Automaton.{up}
use Rattle.pattern_match.proofs.position.Position.move_up.Given as goal

abbrev pub invariant-loop-number : goal.invariant-loop-number
invariant-loop-number l = l.number-items ≡ up l.by (take l.number-index l.initial.number-items)
    ++ drop l.number-index l.initial.number-items
