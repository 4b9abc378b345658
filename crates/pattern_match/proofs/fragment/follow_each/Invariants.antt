use Rattle.std.proofs.Common.{◌≡◌, ◌++◌, map, take, drop}
use Rattle.pattern_match.specs.Automaton.{followed}
use Rattle.pattern_match.proofs.fragment.follow_each.Given as goal

abbrev pub invariant-loop-position : goal.invariant-loop-position
invariant-loop-position l = l.position-items ≡ map (followed l.holds_empty l.first)
    (take l.position-index l.initial.position-items) ++ drop l.position-index
    l.initial.position-items
