use Rattle.std.proofs.Common.{◌≡◌, ◌++◌, map, drop}
use Rattle.pattern_match.specs.Automaton.{moved, followed}
use Rattle.pattern_match.proofs.fragment.append_copy.Given as goal

abbrev pub invariant-piece : goal.invariant-piece
invariant-piece l =
    l.positions.items ++ map (moved l.by)
    (map (followed l.holds_empty l.first) (drop l.position-index l.piece))
    ≡ l.initial.positions.items ++ map (moved l.by) (map (followed l.holds_empty l.first) l.piece)
