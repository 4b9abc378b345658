use Rattle.std.proofs.Common.{◌≡◌, ◌-◌, ◌++◌, map, length}
use Rattle.pattern_match.specs.Automaton.{endless, moved}
use Rattle.pattern_match.proofs.fragment.Fragment.endless.Given as goal

abbrev pub invariant-copies : goal.invariant-copies
invariant-copies l = l.positions.items ++ map (moved (length l.positions.items))
    (endless (l.least - l._done) l.fn.self).places ≡ (endless l.least l.fn.self).places
