use Rattle.std.proofs.Common.{◌≡◌, ◌-◌, ◌++◌, map, length}
use Rattle.pattern_match.specs.Automaton.{copies, moved}
use Rattle.pattern_match.proofs.fragment.Fragment.copies.Given as goal

abbrev pub invariant-copies : goal.invariant-copies
invariant-copies l = l.positions.items ++ map (moved (length l.positions.items))
    (copies (l.least - l.done) (l.most - l.done) l.fn.self).places
    ≡ (copies l.least l.most l.fn.self).places
