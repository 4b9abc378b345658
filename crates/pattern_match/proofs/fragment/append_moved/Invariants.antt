use Rattle.std.proofs.Common.{◌≡◌, ◌++◌, map}
use Rattle.pattern_match.specs.Automaton.{moved}
use Rattle.pattern_match.proofs.fragment.append_moved.Given as goal

abbrev pub invariant-loop-other : goal.invariant-loop-other
invariant-loop-other l = l.positions.items ≡ l.initial.positions.items ++ map (moved l.by) l.yielded
